use Rattle.std.proofs.Common.{rules, true, false, ◌≡◌, ◌≢◌, ◌+◌, ◌++◌, ℕ, List, drop, refl, sym, ◌∙◌, ap}
use Rattle.std.proofs.lemmas.Bool.{false≢true}
use Rattle.std.proofs.lemmas.Result.{IfErr-weaker}
use Rattle.journal_core.specs.Format.{shut_word}
use Rattle.journal_core.proofs.Causes.{cause_of, some_at}
use Rattle.journal_core.proofs.Exits.{at_exit, damage_cause, damage_not_large, err_not_ok, exit_not_err, exit_not_ok, false_not_true}
use Rattle.journal_core.specs.declared.error.JournalError.TheVariants.{TooLarge}
use Rattle.journal_core.proofs.Gates.{word_behind, few_end_there, open_ends_there, round_read}
use Rattle.journal_core.proofs.reader.Reader.read_round.Goals as goal

pub returns-in_default-clause-refused : goal.returns-in_default-clause-refused
returns-in_default-clause-refused g c = λ _ file it honest.
    few_end_there _ c.args.self.now.header.key c.args.self.now.place file c.damaged.ensures (c.in_ok-gate.ensures.none (search rules) file c.args.self.now.place it honest)

pub returns-then-is_shut-clause-shut : goal.returns-then-is_shut-clause-shut
returns-then-is_shut-clause-shut g c = λ _. (
  refl,
  λ file it honest.
      let place = c.args.self.now.place in
      let read = (some_at _ c.in_ok-gate.field-0 c.in-Some.gate c.in_ok-gate.ensures.reads c.in-Some.is).1 file place it in
      let shut : c.in-Some.gate ≡ shut_word = c.is_shut.ensures.0 c.if-is_shut.true in
      (drop (place + 8) file, word_behind file place ∙ ap (λ (l : List ℕ). l ++ drop (place + 8) file) (sym (read.1 honest).0 ∙ shut)),
)

pub returns-clause-reads : goal.returns-clause-reads
returns-clause-reads g c = λ ok file it.
    let place = c.args.self.now.place in
    let gate = some_at _ c.in_ok-gate.field-0 c.in-Some.gate c.in_ok-gate.ensures.reads c.in-Some.is in
    let read = gate.1 file place it in
    let other : c.in-Some.gate ≢ shut_word = λ e. false≢true (sym c.if-is_shut.false ∙ c.is_shut.ensures.1 e) in
    let body = c.read_open.ensures.reads ok file read.0 in
    (body.0, λ honest. round_read c.args.self.now file c.read_open.new.self c.in-Some.gate gate.0 (read.1 (c.read_open.ensures.honest honest)).0 other (body.1 honest))

pub returns-clause-refused : goal.returns-clause-refused
returns-clause-refused g c =
    let place = c.args.self.now.place in
    let gate = some_at _ c.in_ok-gate.field-0 c.in-Some.gate c.in_ok-gate.ensures.reads c.in-Some.is in
    let other : c.in-Some.gate ≢ shut_word = λ e. false≢true (sym c.if-is_shut.false ∙ c.is_shut.ensures.1 e) in
    IfErr-weaker c.read_open.result _ _ (λ e refused refusal file it honest.
    let read = gate.1 file place it in
    let none = refused refusal in
    open_ends_there e c.args.self.now.header.key place file c.in-Some.gate none.0 (read.1 (c.read_open.ensures.honest honest)).0 other (none.1 file read.0 honest)
    ) c.read_open.ensures.refused

pub returns-in_err-gate-clause-reads : goal.returns-in_err-gate-clause-reads
returns-in_err-gate-clause-reads g c = λ is. absurd (exit_not_ok c.from_residual.result true c.from_residual.ensures.0 is)

pub returns-in_err-gate-clause-shut : goal.returns-in_err-gate-clause-shut
returns-in_err-gate-clause-shut g c = λ is. absurd (exit_not_ok c.from_residual.result false c.from_residual.ensures.0 is)

pub returns-in_err-gate-clause-to : goal.returns-in_err-gate-clause-to
returns-in_err-gate-clause-to g c = λ is. absurd (exit_not_ok c.from_residual.result true c.from_residual.ensures.0 is)

pub returns-in_err-gate-clause-refused : goal.returns-in_err-gate-clause-refused
returns-in_err-gate-clause-refused g c = at_exit c.from_residual.result _ c.in_err-gate.field-0.0 c.from_residual.ensures.1 (λ refusal. absurd (c.in_err-gate.ensures.cause.0 refusal))

pub returns-in_err-gate-clause-large : goal.returns-in_err-gate-clause-large
returns-in_err-gate-clause-large g c = λ is. absurd (exit_not_err c.from_residual.result c.in_err-gate.field-0.0 TooLarge c.from_residual.ensures.1 c.in_err-gate.ensures.cause.1 is)

pub returns-in_err-gate-clause-cause : goal.returns-in_err-gate-clause-cause
returns-in_err-gate-clause-cause g c = at_exit c.from_residual.result _ c.in_err-gate.field-0.0 c.from_residual.ensures.1 (λ file it. c.in_err-gate.ensures.cause.2 file c.args.self.now.place it)

pub returns-in_err-gate-clause-header : goal.returns-in_err-gate-clause-header
returns-in_err-gate-clause-header g c = refl

pub returns-in_err-gate-clause-honest : goal.returns-in_err-gate-clause-honest
returns-in_err-gate-clause-honest g c = c.read_word.ensures.honest

pub returns-in_err-gate-clause-looks : goal.returns-in_err-gate-clause-looks
returns-in_err-gate-clause-looks g c = c.read_word.ensures.looks

pub returns-in_err-gate-clause-usable : goal.returns-in_err-gate-clause-usable
returns-in_err-gate-clause-usable g c = c.read_word.ensures.usable

pub returns-in_default-clause-reads : goal.returns-in_default-clause-reads
returns-in_default-clause-reads g c = λ is. absurd (err_not_ok c.damaged.result true is)

pub returns-in_default-clause-shut : goal.returns-in_default-clause-shut
returns-in_default-clause-shut g c = λ is. absurd (err_not_ok c.damaged.result false is)

pub returns-in_default-clause-to : goal.returns-in_default-clause-to
returns-in_default-clause-to g c = λ is. absurd (err_not_ok c.damaged.result true is)

pub returns-in_default-clause-large : goal.returns-in_default-clause-large
returns-in_default-clause-large g c = λ is. absurd (damage_not_large c.damaged.result c.args.self.now.place c.damaged.ensures is)

pub returns-in_default-clause-cause : goal.returns-in_default-clause-cause
returns-in_default-clause-cause g c = λ file it. damage_cause _ c.damaged.result c.args.self.now.place c.damaged.ensures

pub returns-in_default-clause-header : goal.returns-in_default-clause-header
returns-in_default-clause-header g c = refl

pub returns-in_default-clause-honest : goal.returns-in_default-clause-honest
returns-in_default-clause-honest g c = c.read_word.ensures.honest

pub returns-in_default-clause-looks : goal.returns-in_default-clause-looks
returns-in_default-clause-looks g c = c.read_word.ensures.looks

pub returns-in_default-clause-usable : goal.returns-in_default-clause-usable
returns-in_default-clause-usable g c = c.read_word.ensures.usable

pub returns-then-is_shut-clause-reads : goal.returns-then-is_shut-clause-reads
returns-then-is_shut-clause-reads g c = λ is. absurd (false_not_true is)

pub returns-then-is_shut-clause-to : goal.returns-then-is_shut-clause-to
returns-then-is_shut-clause-to g c = λ is. absurd (false_not_true is)

pub returns-then-is_shut-clause-refused : goal.returns-then-is_shut-clause-refused
returns-then-is_shut-clause-refused g c = tt

pub returns-then-is_shut-clause-cause : goal.returns-then-is_shut-clause-cause
returns-then-is_shut-clause-cause g c = tt

pub returns-then-is_shut-clause-large : goal.returns-then-is_shut-clause-large
returns-then-is_shut-clause-large g c = λ is. absurd (err_not_ok TooLarge false (sym is))

pub returns-then-is_shut-clause-header : goal.returns-then-is_shut-clause-header
returns-then-is_shut-clause-header g c = refl

pub returns-then-is_shut-clause-honest : goal.returns-then-is_shut-clause-honest
returns-then-is_shut-clause-honest g c = c.read_word.ensures.honest

pub returns-then-is_shut-clause-looks : goal.returns-then-is_shut-clause-looks
returns-then-is_shut-clause-looks g c = c.read_word.ensures.looks

pub returns-then-is_shut-clause-usable : goal.returns-then-is_shut-clause-usable
returns-then-is_shut-clause-usable g c = c.read_word.ensures.usable

pub returns-clause-shut : goal.returns-clause-shut
returns-clause-shut g c = λ is. absurd (c.read_open.ensures.some is)

pub returns-clause-to : goal.returns-clause-to
returns-clause-to g c = c.read_open.ensures.to

pub returns-clause-large : goal.returns-clause-large
returns-clause-large g c =
    let place = c.args.self.now.place in
    let gate = some_at _ c.in_ok-gate.field-0 c.in-Some.gate c.in_ok-gate.ensures.reads c.in-Some.is in
    λ large file it honest. c.read_open.ensures.large large file (gate.1 file place it).0 honest

pub returns-clause-cause : goal.returns-clause-cause
returns-clause-cause g c =
    let place = c.args.self.now.place in
    let gate = some_at _ c.in_ok-gate.field-0 c.in-Some.gate c.in_ok-gate.ensures.reads c.in-Some.is in
    IfErr-weaker c.read_open.result _ _ (λ e cause file it.
    cause_of _ _ e (g.met.S.Source.fails_later c.args.note.now c.args.source.now c.read_word.new.source c.read_open.new.source c.read_word.ensures.looks) (cause file (place + 8) (gate.1 file place it).0)
    ) c.read_open.ensures.cause

pub returns-clause-header : goal.returns-clause-header
returns-clause-header g c = c.read_open.ensures.header

pub returns-clause-honest : goal.returns-clause-honest
returns-clause-honest g c = λ honest. c.read_word.ensures.honest (c.read_open.ensures.honest honest)

pub returns-clause-looks : goal.returns-clause-looks
returns-clause-looks g c = g.met.S.Source.looks_on c.args.note.now c.args.source.now c.read_word.new.source c.read_open.new.source c.read_word.ensures.looks c.read_open.ensures.looks

pub returns-clause-usable : goal.returns-clause-usable
returns-clause-usable g c = c.read_open.ensures.usable
