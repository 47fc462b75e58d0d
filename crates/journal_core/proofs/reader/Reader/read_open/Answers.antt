use Rattle.std.proofs.Common.{rules, ◌≡◌, ◌≢◌, ◌+◌, ◌<◌, ◌≤◌, ◌^◌, ◌++◌, ℕ, Bool, true, false, List, Vec, Result, Ok, Err, IfErr, vec_len, length, take, drop, refl, sym, ◌∙◌, ap, subst, arith}
use Rattle.std.proofs.lemmas.List.{length-drop, length-take}
use Rattle.std.proofs.lemmas.Result.{IfErr-at_err, IfErr-weaker}
use Rattle.std.specs.declared.alloc.Global.{Global}
use Rattle.journal_core.specs.declared.error.JournalError.{JournalError}
use Rattle.journal_core.specs.declared.error.JournalError.TheVariants.{TooLarge}
use Rattle.journal_core.specs.declared.reader.Reader.{Reader}
use Rattle.journal_core.specs.Format.{records_text, round_text}
use Rattle.journal_core.specs.JournalReading.{IsRefusal}
use Rattle.journal_core.specs.Private.RoundSteps.{GoesBehind}
use Rattle.journal_core.proofs.Causes.{cause_of, some_at}
use Rattle.journal_core.proofs.Exits.{at_exit, damage_cause, damage_not_large, err_not_ok, exit_not_err, exit_not_ok, large_cause}
use Rattle.journal_core.proofs.Gates.{few_no_round, short_no_round, other_no_round, round_stands}
use Rattle.journal_core.proofs.reader.Reader.read_open.Goals as goal

goes_header : (r : Result Bool JournalError) (X : Type 0) (old new : Reader) → (r ≡ Ok true → GoesBehind old new) → r ≢ Ok false → IfErr r (λ e. (e ≡ TooLarge) × (new ≡ old) × X) → new.header ≡ old.header
goes_header (Ok true) X old new goes some large = (goes refl).header
goes_header (Ok false) X old new goes some large = absurd (some refl)
goes_header (Err e) X old new goes some large = ap (λ (r : Reader). r.header) large.1

-- a whole round was read, and the numbers end behind it
too_long : (file : List ℕ) (v : Vec ℕ Global) (place len : ℕ) → length v.items ≡ len → v.items ≡ take len (drop (place + 8 + 16) file) → place + 8 + 16 ≤ length file → 2 ^ 64 ≤ place + (24 + vec_len v) → 2 ^ 64 ≤ length file
too_long file v place len long is there told = omega (arith, ap length is, length-take len (drop (place + 8 + 16) file), length-drop (place + 8 + 16) file, there, told, v.ok.0)

pub returns-in_default-clause-refused : goal.returns-in_default-clause-refused
returns-in_default-clause-refused g c = λ _. (
  c.damaged.ensures,
  λ file it honest.
      few_no_round file (c.args.self.now.place + 8) c.args.self.now.header.key c.args.self.now.place (c.in_ok-len.ensures.none (search rules) file (c.args.self.now.place + 8) it honest),
)

pub returns-then-not-branch-clause-refused : goal.returns-then-not-branch-clause-refused
returns-then-not-branch-clause-refused g c = λ _. (
  c.damaged-then-not-branch.ensures,
  λ file it honest.
      let place = c.args.self.now.place in
      let head = some_at _ c.in_ok-len.field-0 (c.in-Some.len, c.in-Some.sum) c.in_ok-len.ensures.reads c.in-Some.is file (place + 8) it in
      let read = head.1 (c.in_ok-read_body.ensures.honest honest) in
      short_no_round file (place + 8) c.args.self.now.header.key place c.in-Some.len (search rules) read.0 (c.in_ok-read_body.ensures.short (search rules) file (place + 8 + 16) head.0 honest),
)

pub returns-then-not-is_whole-clause-refused : goal.returns-then-not-is_whole-clause-refused
returns-then-not-is_whole-clause-refused g c = λ _. (
  c.damaged-then-not-is_whole.ensures,
  λ file it honest.
      let place = c.args.self.now.place in
      let head = some_at _ c.in_ok-len.field-0 (c.in-Some.len, c.in-Some.sum) c.in_ok-len.ensures.reads c.in-Some.is file (place + 8) it in
      let read = head.1 (c.in_ok-read_body.ensures.honest honest) in
      let body = c.in_ok-read_body.ensures.reads (search rules) in
      other_no_round file (place + 8) c.args.self.now.header.key place c.in-Some.len c.in-Some.sum c.read_body.new.round.items (search rules) read.0 read.1 ((body.1 file (place + 8 + 16) head.0).1 honest) (c.is_whole.ensures.other c.if-not-is_whole.true),
)

pub returns-clause-reads : goal.returns-clause-reads
returns-clause-reads g c = λ ok file it.
    let place = c.args.self.now.place in
    let len = c.in-Some.len in
    let fits : c.in-Some.len < 2 ^ 64 = search rules in
    let head = some_at _ c.in_ok-len.field-0 (c.in-Some.len, c.in-Some.sum) c.in_ok-len.ensures.reads c.in-Some.is file (place + 8) it in
    let body = c.in_ok-read_body.ensures.reads (search rules) in
    let there = body.1 file (place + 8 + 16) head.0 in
    let goes = c.go_on.ensures.goes ok in
    let whole = c.if-not-is_whole.ensures.whole (search rules) in
    let behind : c.go_on.new.self.place ≡ place + 8 + 16 + len = goes.place ∙ omega (arith, body.0) in (
      subst (λ n. g.S.Source.is_at c.read_body.new.source file n) (sym behind) there.0,
      λ honest.
          let read = head.1 (c.in_ok-read_body.ensures.honest honest) in
          let stands = round_stands file (place + 8) c.args.self.now.header.key place len c.in-Some.sum c.read_body.new.round.items read.0 read.1 (there.1 honest) body.0 whole.3 in
          record {
            records = whole.0;
            some = omega (arith, whole.1, ap length whole.2);
            short = omega (arith, fits, body.0, ap length whole.2);
            stood = stands ∙ ap (λ (l : List ℕ). round_text c.args.self.now.header.key place l ++ drop (place + 8 + 16 + len) file) whole.2 ∙ ap (λ n. round_text c.args.self.now.header.key place (records_text whole.0) ++ drop n file) (sym behind);
            place = goes.place ∙ omega (arith, ap length whole.2);
            round = ap (λ (v : Vec ℕ Global). v.items) goes.round ∙ whole.2;
            to = goes.to;
            header = goes.header;
            ended = goes.ended;
          },
    )

pub returns-in_err-len-clause-reads : goal.returns-in_err-len-clause-reads
returns-in_err-len-clause-reads g c = λ is. absurd (exit_not_ok c.from_residual.result true c.from_residual.ensures.0 is)

pub returns-in_err-len-clause-some : goal.returns-in_err-len-clause-some
returns-in_err-len-clause-some g c = λ is. exit_not_ok c.from_residual.result false c.from_residual.ensures.0 is

pub returns-in_err-len-clause-to : goal.returns-in_err-len-clause-to
returns-in_err-len-clause-to g c = λ is. absurd (exit_not_ok c.from_residual.result true c.from_residual.ensures.0 is)

pub returns-in_err-len-clause-refused : goal.returns-in_err-len-clause-refused
returns-in_err-len-clause-refused g c = at_exit c.from_residual.result _ c.in_err-len.field-0.0 c.from_residual.ensures.1 (λ refusal. absurd (c.in_err-len.ensures.cause.0 refusal))

pub returns-in_err-len-clause-large : goal.returns-in_err-len-clause-large
returns-in_err-len-clause-large g c = λ is. absurd (exit_not_err c.from_residual.result c.in_err-len.field-0.0 TooLarge c.from_residual.ensures.1 c.in_err-len.ensures.cause.1 is)

pub returns-in_err-len-clause-cause : goal.returns-in_err-len-clause-cause
returns-in_err-len-clause-cause g c = at_exit c.from_residual.result _ c.in_err-len.field-0.0 c.from_residual.ensures.1 c.in_err-len.ensures.cause.2

pub returns-in_err-len-clause-header : goal.returns-in_err-len-clause-header
returns-in_err-len-clause-header g c = refl

pub returns-in_err-len-clause-honest : goal.returns-in_err-len-clause-honest
returns-in_err-len-clause-honest g c = c.read_head.ensures.honest

pub returns-in_err-len-clause-looks : goal.returns-in_err-len-clause-looks
returns-in_err-len-clause-looks g c = c.read_head.ensures.looks

pub returns-in_err-len-clause-usable : goal.returns-in_err-len-clause-usable
returns-in_err-len-clause-usable g c = c.read_head.ensures.usable

pub returns-in_default-clause-reads : goal.returns-in_default-clause-reads
returns-in_default-clause-reads g c = λ is. absurd (err_not_ok c.damaged.result true is)

pub returns-in_default-clause-some : goal.returns-in_default-clause-some
returns-in_default-clause-some g c = λ is. err_not_ok c.damaged.result false is

pub returns-in_default-clause-to : goal.returns-in_default-clause-to
returns-in_default-clause-to g c = λ is. absurd (err_not_ok c.damaged.result true is)

pub returns-in_default-clause-large : goal.returns-in_default-clause-large
returns-in_default-clause-large g c = λ is. absurd (damage_not_large c.damaged.result c.args.self.now.place c.damaged.ensures is)

pub returns-in_default-clause-cause : goal.returns-in_default-clause-cause
returns-in_default-clause-cause g c = λ file at it. damage_cause _ c.damaged.result c.args.self.now.place c.damaged.ensures

pub returns-in_default-clause-header : goal.returns-in_default-clause-header
returns-in_default-clause-header g c = refl

pub returns-in_default-clause-honest : goal.returns-in_default-clause-honest
returns-in_default-clause-honest g c = c.read_head.ensures.honest

pub returns-in_default-clause-looks : goal.returns-in_default-clause-looks
returns-in_default-clause-looks g c = c.read_head.ensures.looks

pub returns-in_default-clause-usable : goal.returns-in_default-clause-usable
returns-in_default-clause-usable g c = c.read_head.ensures.usable

pub returns-in_err-read_body-clause-reads : goal.returns-in_err-read_body-clause-reads
returns-in_err-read_body-clause-reads g c = λ is. absurd (exit_not_ok c.from_residual-in_err-read_body.result true c.from_residual-in_err-read_body.ensures.0 is)

pub returns-in_err-read_body-clause-some : goal.returns-in_err-read_body-clause-some
returns-in_err-read_body-clause-some g c = λ is. exit_not_ok c.from_residual-in_err-read_body.result false c.from_residual-in_err-read_body.ensures.0 is

pub returns-in_err-read_body-clause-to : goal.returns-in_err-read_body-clause-to
returns-in_err-read_body-clause-to g c = λ is. absurd (exit_not_ok c.from_residual-in_err-read_body.result true c.from_residual-in_err-read_body.ensures.0 is)

pub returns-in_err-read_body-clause-refused : goal.returns-in_err-read_body-clause-refused
returns-in_err-read_body-clause-refused g c = at_exit c.from_residual-in_err-read_body.result _ c.in_err-read_body.field-0.0 c.from_residual-in_err-read_body.ensures.1 (λ refusal. absurd (c.in_err-read_body.ensures.cause.0 refusal))

pub returns-in_err-read_body-clause-large : goal.returns-in_err-read_body-clause-large
returns-in_err-read_body-clause-large g c = λ is. absurd (exit_not_err c.from_residual-in_err-read_body.result c.in_err-read_body.field-0.0 TooLarge c.from_residual-in_err-read_body.ensures.1 c.in_err-read_body.ensures.cause.1 is)

pub returns-in_err-read_body-clause-cause : goal.returns-in_err-read_body-clause-cause
returns-in_err-read_body-clause-cause g c =
    at_exit c.from_residual-in_err-read_body.result _ c.in_err-read_body.field-0.0 c.from_residual-in_err-read_body.ensures.1 (λ file at it.
    let head = some_at _ c.in_ok-len.field-0 (c.in-Some.len, c.in-Some.sum) c.in_ok-len.ensures.reads c.in-Some.is file at it in
    cause_of _ _ c.in_err-read_body.field-0.0 (g.met.S.Source.fails_later c.args.note.now c.args.source.now c.read_head.new.source c.read_body.new.source c.read_head.ensures.looks) (c.in_err-read_body.ensures.cause.2 file (at + 16) head.0))

pub returns-in_err-read_body-clause-header : goal.returns-in_err-read_body-clause-header
returns-in_err-read_body-clause-header g c = refl

pub returns-in_err-read_body-clause-honest : goal.returns-in_err-read_body-clause-honest
returns-in_err-read_body-clause-honest g c = λ honest. c.read_head.ensures.honest (c.read_body.ensures.honest honest)

pub returns-in_err-read_body-clause-looks : goal.returns-in_err-read_body-clause-looks
returns-in_err-read_body-clause-looks g c = g.met.S.Source.looks_on c.args.note.now c.args.source.now c.read_head.new.source c.read_body.new.source c.read_head.ensures.looks c.read_body.ensures.looks

pub returns-in_err-read_body-clause-usable : goal.returns-in_err-read_body-clause-usable
returns-in_err-read_body-clause-usable g c = c.read_body.ensures.usable

pub returns-then-not-branch-clause-reads : goal.returns-then-not-branch-clause-reads
returns-then-not-branch-clause-reads g c = λ is. absurd (err_not_ok c.damaged-then-not-branch.result true is)

pub returns-then-not-branch-clause-some : goal.returns-then-not-branch-clause-some
returns-then-not-branch-clause-some g c = λ is. err_not_ok c.damaged-then-not-branch.result false is

pub returns-then-not-branch-clause-to : goal.returns-then-not-branch-clause-to
returns-then-not-branch-clause-to g c = λ is. absurd (err_not_ok c.damaged-then-not-branch.result true is)

pub returns-then-not-branch-clause-large : goal.returns-then-not-branch-clause-large
returns-then-not-branch-clause-large g c = λ is. absurd (damage_not_large c.damaged-then-not-branch.result c.args.self.now.place c.damaged-then-not-branch.ensures is)

pub returns-then-not-branch-clause-cause : goal.returns-then-not-branch-clause-cause
returns-then-not-branch-clause-cause g c = λ file at it. damage_cause _ c.damaged-then-not-branch.result c.args.self.now.place c.damaged-then-not-branch.ensures

pub returns-then-not-branch-clause-header : goal.returns-then-not-branch-clause-header
returns-then-not-branch-clause-header g c = refl

pub returns-then-not-branch-clause-honest : goal.returns-then-not-branch-clause-honest
returns-then-not-branch-clause-honest g c = λ honest. c.read_head.ensures.honest (c.read_body.ensures.honest honest)

pub returns-then-not-branch-clause-looks : goal.returns-then-not-branch-clause-looks
returns-then-not-branch-clause-looks g c = g.met.S.Source.looks_on c.args.note.now c.args.source.now c.read_head.new.source c.read_body.new.source c.read_head.ensures.looks c.read_body.ensures.looks

pub returns-then-not-branch-clause-usable : goal.returns-then-not-branch-clause-usable
returns-then-not-branch-clause-usable g c = c.read_body.ensures.usable

pub returns-then-not-is_whole-clause-reads : goal.returns-then-not-is_whole-clause-reads
returns-then-not-is_whole-clause-reads g c = λ is. absurd (err_not_ok c.damaged-then-not-is_whole.result true is)

pub returns-then-not-is_whole-clause-some : goal.returns-then-not-is_whole-clause-some
returns-then-not-is_whole-clause-some g c = λ is. err_not_ok c.damaged-then-not-is_whole.result false is

pub returns-then-not-is_whole-clause-to : goal.returns-then-not-is_whole-clause-to
returns-then-not-is_whole-clause-to g c = λ is. absurd (err_not_ok c.damaged-then-not-is_whole.result true is)

pub returns-then-not-is_whole-clause-large : goal.returns-then-not-is_whole-clause-large
returns-then-not-is_whole-clause-large g c = λ is. absurd (damage_not_large c.damaged-then-not-is_whole.result c.args.self.now.place c.damaged-then-not-is_whole.ensures is)

pub returns-then-not-is_whole-clause-cause : goal.returns-then-not-is_whole-clause-cause
returns-then-not-is_whole-clause-cause g c = λ file at it. damage_cause _ c.damaged-then-not-is_whole.result c.args.self.now.place c.damaged-then-not-is_whole.ensures

pub returns-then-not-is_whole-clause-header : goal.returns-then-not-is_whole-clause-header
returns-then-not-is_whole-clause-header g c = refl

pub returns-then-not-is_whole-clause-honest : goal.returns-then-not-is_whole-clause-honest
returns-then-not-is_whole-clause-honest g c = λ honest. c.read_head.ensures.honest (c.read_body.ensures.honest honest)

pub returns-then-not-is_whole-clause-looks : goal.returns-then-not-is_whole-clause-looks
returns-then-not-is_whole-clause-looks g c = g.met.S.Source.looks_on c.args.note.now c.args.source.now c.read_head.new.source c.read_body.new.source c.read_head.ensures.looks c.read_body.ensures.looks

pub returns-then-not-is_whole-clause-usable : goal.returns-then-not-is_whole-clause-usable
returns-then-not-is_whole-clause-usable g c = c.read_body.ensures.usable

pub returns-clause-some : goal.returns-clause-some
returns-clause-some g c = c.go_on.ensures.some

pub returns-clause-to : goal.returns-clause-to
returns-clause-to g c = λ ok. subst (λ n. n ≤ vec_len c.go_on.new.self.round) (sym (c.go_on.ensures.goes ok).to) (omega arith)

pub returns-clause-refused : goal.returns-clause-refused
returns-clause-refused g c = IfErr-weaker c.go_on.result _ _ (λ e large refusal. absurd (subst IsRefusal large.0 refusal)) c.go_on.ensures.large

pub returns-clause-large : goal.returns-clause-large
returns-clause-large g c = λ large file it honest.
    let place = c.args.self.now.place in
    let len = c.in-Some.len in
    let head = some_at _ c.in_ok-len.field-0 (c.in-Some.len, c.in-Some.sum) c.in_ok-len.ensures.reads c.in-Some.is file (place + 8) it in
    let read = head.1 (c.in_ok-read_body.ensures.honest honest) in
    let body = c.in_ok-read_body.ensures.reads (search rules) in
    let there = (body.1 file (place + 8 + 16) head.0).1 honest in
    let told = IfErr-at_err _ large c.go_on.ensures.large in
    too_long file c.read_body.new.round place len body.0 there read.2 told.2

pub returns-clause-cause : goal.returns-clause-cause
returns-clause-cause g c = IfErr-weaker c.go_on.result _ _ (λ e large file at it. large_cause _ e large.0) c.go_on.ensures.large

pub returns-clause-header : goal.returns-clause-header
returns-clause-header g c = goes_header c.go_on.result _ _ c.go_on.new.self c.go_on.ensures.goes c.go_on.ensures.some c.go_on.ensures.large

pub returns-clause-honest : goal.returns-clause-honest
returns-clause-honest g c = λ honest. c.read_head.ensures.honest (c.read_body.ensures.honest honest)

pub returns-clause-looks : goal.returns-clause-looks
returns-clause-looks g c = g.met.S.Source.looks_on c.args.note.now c.args.source.now c.read_head.new.source c.read_body.new.source c.read_head.ensures.looks c.read_body.ensures.looks

pub returns-clause-usable : goal.returns-clause-usable
returns-clause-usable g c = c.read_body.ensures.usable
