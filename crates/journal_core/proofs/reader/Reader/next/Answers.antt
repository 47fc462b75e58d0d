use Rattle.std.proofs.Common.{rules, ◌<◌, ◌≤◌, ◌^◌, length, sym, ◌∙◌, ap, subst}
use Rattle.std.proofs.lemmas.Result.{IfErr-weaker}
use Rattle.journal_core.specs.declared.reader.Reader.{Reader}
use Rattle.journal_core.proofs.Progress.{next_in_round, next_round, has_ended, record_first, record_left}
use Rattle.journal_core.proofs.reader.Reader.next.Goals as goal

pub returns-then-self-len-clause-reads : goal.returns-then-self-len-clause-reads
returns-then-self-len-clause-reads g c = λ ok file done it.
    (subst (λ n. g.S.Source.is_at c.args.source.now file n) (sym c.step.ensures.place) it.0, λ honest. let has = it.1 honest in next_in_round c.args.self.now c.step.new.self file done has (c.step.ensures.reads ok has.left has.buffered))

pub returns-then-self-len-clause-refused : goal.returns-then-self-len-clause-refused
returns-then-self-len-clause-refused g c =
    let low : c.args.self.now.to < length c.args.self.now.round.items = search rules in
    let fits : length c.args.self.now.round.items < 2 ^ 64 = search rules in
    IfErr-weaker c.step.result _ _ (λ e refused refusal file done it honest. absurd (record_left c.args.self.now file done (it.1 honest) low fits refused.2)) c.step.ensures.refused

pub returns-then-not-branch-clause-ends : goal.returns-then-not-branch-clause-ends
returns-then-not-branch-clause-ends g c = λ _ file done it honest.
    let past : length c.args.self.now.round.items ≤ c.args.self.now.to = search rules in
    let shut = c.in_ok-read_round.ensures.shut (search rules) in
    has_ended c.args.self.now _ file done (it.1 (c.in_ok-read_round.ensures.honest honest)) past (shut.1 file it.0 honest) (ap (λ (r : Reader). r.header) shut.0) (ap (λ (r : Reader). r.place) shut.0)

pub returns-clause-reads : goal.returns-clause-reads
returns-clause-reads g c = λ ok file done it.
    let past : length c.args.self.now.round.items ≤ c.args.self.now.to = search rules in
    let read = c.in_ok-read_round.ensures.reads (search rules) file it.0 in (
      subst (λ n. g.S.Source.is_at c.read_round.new.source file n) (sym c.step-2.ensures.place) read.0,
      λ honest.
          let had = it.1 (c.in_ok-read_round.ensures.honest honest) in
          let has = next_round c.args.self.now c.read_round.new.self file done had past (read.1 honest) in
          next_in_round c.read_round.new.self c.step-2.new.self file done has (c.step-2.ensures.reads ok has.left has.buffered),
    )

pub returns-clause-refused : goal.returns-clause-refused
returns-clause-refused g c =
    IfErr-weaker c.step-2.result _ _ (λ e refused refusal file done it honest.
    let read = c.in_ok-read_round.ensures.reads (search rules) file it.0 in
    absurd (record_first c.args.self.now c.read_round.new.self file (read.1 honest) refused.2)) c.step-2.ensures.refused

pub returns-clause-header : goal.returns-clause-header
returns-clause-header g c = c.step-2.ensures.header ∙ c.in_ok-read_round.ensures.header
