use Rattle.std.proofs.Common.{IsFalse, None, Ok, refl, sym, ◌∙◌, ap, subst, arith}
use Rattle.std.proofs.lemmas.Result.{IfOk-from_err, err_from_is_err_and}
use Rattle.journal_core.specs.Private.LookLaws.{fails_later}
use Rattle.journal_core.proofs.Exits.{at_exit, exit_not_ok, on_err, some_not_none}
use Rattle.journal_core.specs.Format.{IsNewFile}
use Rattle.journal_core.specs.Resting.{disk_behind}
use Rattle.journal_core.proofs.Causes.{read_cause, some_at, write_cause_of}
use Rattle.journal_core.proofs.Settling.{left_standing, looked_standing, made_left, made_standing}
use Rattle.journal_core.proofs.journal.Journal.start.Goals as goal

pub returns-in_err-reader-clause-any_moment : goal.returns-in_err-reader-clause-any_moment
returns-in_err-reader-clause-any_moment g c = λ clean only h records stands.
    looked_standing g.D.Disk.seen g.D.Disk.may_leave g.D.Disk.is_clean g.D.Disk.faults c.args.note.now h c.args.header records _ c.begin.new.source c.in_err-reader.ensures.looks only stands

pub returns-in_err-reader-clause-cause : goal.returns-in_err-reader-clause-cause
returns-in_err-reader-clause-cause g c =
    let p = err_from_is_err_and c.from_residual.result c.from_residual.ensures.1 in
    rw (p.1, p.2) (read_cause _ c.in_err-reader.field-0.0 (c.in_err-reader.ensures.cause (g.D.Disk.seen (disk_behind c.args.self.now)) (refl, refl, (λ _. omega arith), tt)))

pub returns-in_err-create-clause-any_moment : goal.returns-in_err-create-clause-any_moment
returns-in_err-create-clause-any_moment g c = λ clean only h records stands.
    let seen = g.D.Disk.seen in
    let looks = c.in_ok-reader.ensures.looks in
    let honest = c.in_err-create.ensures.clean clean in
    let new : IsNewFile (seen (disk_behind c.args.self.now)) = c.in_ok-reader.ensures.new (ap Ok c.in_default.is) (seen (disk_behind c.args.self.now)) (refl, refl, (λ _. omega arith), tt) honest in
    made_standing seen g.D.Disk.may_leave g.D.Disk.is_clean g.D.Disk.faults c.args.note.now h c.args.header records _ c.begin.new.source looks only stands c.create.new.self new
    (c.in_err-create.ensures.any_moment (subst IsNewFile (sym looks.same) new) clean (λ f left. only f (looks.crash f left) ∙ sym looks.same))

pub returns-in_err-create-clause-crash : goal.returns-in_err-create-clause-crash
returns-in_err-create-clause-crash g c = λ clean only h records stands.
    let seen = g.D.Disk.seen in
    let looks = c.in_ok-reader.ensures.looks in
    let honest = c.in_err-create.ensures.clean clean in
    let new : IsNewFile (seen (disk_behind c.args.self.now)) = c.in_ok-reader.ensures.new (ap Ok c.in_default.is) (seen (disk_behind c.args.self.now)) (refl, refl, (λ _. omega arith), tt) honest in
    made_left seen g.D.Disk.may_leave g.D.Disk.is_clean g.D.Disk.faults c.args.note.now h c.args.header records _ c.begin.new.source looks only stands c.create.new.self new
    (c.in_err-create.ensures.crash (subst IsNewFile (sym looks.same) new) clean (λ f left. only f (looks.crash f left) ∙ sym looks.same))

pub returns-in_default-clause-any_moment : goal.returns-in_default-clause-any_moment
returns-in_default-clause-any_moment g c = λ clean only h records stands.
    let seen = g.D.Disk.seen in
    let looks = c.in_ok-reader.ensures.looks in
    let honest = c.in_ok-create.ensures.clean clean in
    let new : IsNewFile (seen (disk_behind c.args.self.now)) = c.in_ok-reader.ensures.new (ap Ok c.in_default.is) (seen (disk_behind c.args.self.now)) (refl, refl, (λ _. omega arith), tt) honest in
    made_standing seen g.D.Disk.may_leave g.D.Disk.is_clean g.D.Disk.faults c.args.note.now h c.args.header records _ c.begin.new.source looks only stands c.create.new.self new
    (c.in_ok-create.ensures.any_moment (subst IsNewFile (sym looks.same) new) clean (λ f left. only f (looks.crash f left) ∙ sym looks.same))

pub returns-clause-begins : goal.returns-clause-begins
returns-clause-begins g c =
    let seen = g.D.Disk.seen in
    let old = c.args.self.now in
    let looks = c.in_ok-reader.ensures.looks in
    let begun = some_at _ c.in_ok-reader.field-0 c.in-Some.reader c.in_ok-reader.ensures.begins c.in-Some.is (seen (disk_behind old)) (refl, refl, (λ _. omega arith), tt) in
    (looks.same, (subst (λ b. IsFalse b) (sym looks.opens) refl, (seen (disk_behind old), begun.1.0, begun.1.1)))

pub returns-clause-any_moment : goal.returns-clause-any_moment
returns-clause-any_moment g c = λ clean only h records stands.
    looked_standing g.D.Disk.seen g.D.Disk.may_leave g.D.Disk.is_clean g.D.Disk.faults c.args.note.now h c.args.header records _ c.begin.new.source c.in_ok-reader.ensures.looks only stands

pub returns-in_err-reader-clause-made : goal.returns-in_err-reader-clause-made
returns-in_err-reader-clause-made g c = λ is. absurd (exit_not_ok c.from_residual.result None c.from_residual.ensures.0 is)

pub returns-in_err-reader-clause-ready : goal.returns-in_err-reader-clause-ready
returns-in_err-reader-clause-ready g c = λ is. absurd (exit_not_ok c.from_residual.result None c.from_residual.ensures.0 is)

pub returns-in_err-reader-clause-begins : goal.returns-in_err-reader-clause-begins
returns-in_err-reader-clause-begins g c = IfOk-from_err c.from_residual.result _ c.from_residual.ensures.0

pub returns-in_err-reader-clause-left : goal.returns-in_err-reader-clause-left
returns-in_err-reader-clause-left g c = IfOk-from_err c.from_residual.result _ c.from_residual.ensures.0

pub returns-in_err-reader-clause-usable : goal.returns-in_err-reader-clause-usable
returns-in_err-reader-clause-usable g c = IfOk-from_err c.from_residual.result _ c.from_residual.ensures.0

pub returns-in_err-reader-clause-kept : goal.returns-in_err-reader-clause-kept
returns-in_err-reader-clause-kept g c = at_exit c.from_residual.result _ c.in_err-reader.field-0.0 c.from_residual.ensures.1 (λ refusal. c.begin.ensures.looks.crash)

pub returns-in_err-reader-clause-closes : goal.returns-in_err-reader-clause-closes
returns-in_err-reader-clause-closes g c = on_err c.from_residual.result c.begin.ensures.looks.opens

pub returns-in_err-reader-clause-refused : goal.returns-in_err-reader-clause-refused
returns-in_err-reader-clause-refused g c = at_exit c.from_residual.result _ c.in_err-reader.field-0.0 c.from_residual.ensures.1 (λ refusal. (c.begin.ensures.looks.same, c.in_err-reader.ensures.refused refusal (g.D.Disk.seen (disk_behind c.args.self.now)) (refl, refl, (λ _. omega arith), tt)))

pub returns-in_err-reader-clause-crash : goal.returns-in_err-reader-clause-crash
returns-in_err-reader-clause-crash g c = λ clean only h records stands f left. left_standing g.D.Disk.seen g.D.Disk.may_leave g.D.Disk.is_clean g.D.Disk.faults c.args.note.now h c.args.header records _ c.begin.new.source c.begin.ensures.looks only stands f (c.begin.ensures.looks.crash f left)

pub returns-in_err-reader-clause-small : goal.returns-in_err-reader-clause-small
returns-in_err-reader-clause-small g c = at_exit c.from_residual.result _ c.in_err-reader.field-0.0 c.from_residual.ensures.1 c.in_err-reader.ensures.small

pub returns-in_err-reader-clause-clean : goal.returns-in_err-reader-clause-clean
returns-in_err-reader-clause-clean g c = c.begin.ensures.looks.clean

pub returns-in_err-create-clause-made : goal.returns-in_err-create-clause-made
returns-in_err-create-clause-made g c = λ is. absurd (exit_not_ok c.from_residual-in_err-create.result None c.from_residual-in_err-create.ensures.0 is)

pub returns-in_err-create-clause-ready : goal.returns-in_err-create-clause-ready
returns-in_err-create-clause-ready g c = λ is. absurd (exit_not_ok c.from_residual-in_err-create.result None c.from_residual-in_err-create.ensures.0 is)

pub returns-in_err-create-clause-begins : goal.returns-in_err-create-clause-begins
returns-in_err-create-clause-begins g c = IfOk-from_err c.from_residual-in_err-create.result _ c.from_residual-in_err-create.ensures.0

pub returns-in_err-create-clause-left : goal.returns-in_err-create-clause-left
returns-in_err-create-clause-left g c = IfOk-from_err c.from_residual-in_err-create.result _ c.from_residual-in_err-create.ensures.0

pub returns-in_err-create-clause-usable : goal.returns-in_err-create-clause-usable
returns-in_err-create-clause-usable g c = IfOk-from_err c.from_residual-in_err-create.result _ c.from_residual-in_err-create.ensures.0

pub returns-in_err-create-clause-kept : goal.returns-in_err-create-clause-kept
returns-in_err-create-clause-kept g c = at_exit c.from_residual-in_err-create.result _ c.in_err-create.field-0.0 c.from_residual-in_err-create.ensures.1 (λ refusal. absurd (c.in_err-create.ensures.refused refusal))

pub returns-in_err-create-clause-refused : goal.returns-in_err-create-clause-refused
returns-in_err-create-clause-refused g c = at_exit c.from_residual-in_err-create.result _ c.in_err-create.field-0.0 c.from_residual-in_err-create.ensures.1 (λ refusal. absurd (c.in_err-create.ensures.refused refusal))

pub returns-in_err-create-clause-closes : goal.returns-in_err-create-clause-closes
returns-in_err-create-clause-closes g c = on_err c.from_residual-in_err-create.result (c.in_err-create.ensures.closes ∙ c.begin.ensures.looks.opens)

pub returns-in_err-create-clause-small : goal.returns-in_err-create-clause-small
returns-in_err-create-clause-small g c = at_exit c.from_residual-in_err-create.result _ c.in_err-create.field-0.0 c.from_residual-in_err-create.ensures.1 c.in_err-create.ensures.small

pub returns-in_err-create-clause-cause : goal.returns-in_err-create-clause-cause
returns-in_err-create-clause-cause g c = at_exit c.from_residual-in_err-create.result _ c.in_err-create.field-0.0 c.from_residual-in_err-create.ensures.1 (write_cause_of _ _ c.in_err-create.field-0.0 (fails_later g.D.Disk.seen g.D.Disk.may_leave g.D.Disk.is_clean g.D.Disk.faults c.args.note.now _ c.begin.new.source c.create.new.self c.begin.ensures.looks) c.in_err-create.ensures.cause)

pub returns-in_err-create-clause-clean : goal.returns-in_err-create-clause-clean
returns-in_err-create-clause-clean g c = λ clean. c.begin.ensures.looks.clean (c.create.ensures.clean clean)

pub returns-in_default-clause-made : goal.returns-in_default-clause-made
returns-in_default-clause-made g c = λ _ clean.
    let seen = g.D.Disk.seen in
    let looks = c.begin.ensures.looks in
    let honest = c.create.ensures.clean clean in
    let new : IsNewFile (seen (disk_behind c.args.self.now)) = c.in_ok-reader.ensures.new (ap Ok c.in_default.is) (seen (disk_behind c.args.self.now)) (refl, refl, (λ _. omega arith), tt) honest in
    (c.in_ok-create.ensures.made (subst IsNewFile (sym looks.same) new) clean, new, c.in_ok-create.ensures.ready.1)

pub returns-in_default-clause-ready : goal.returns-in_default-clause-ready
returns-in_default-clause-ready g c = λ _. c.in_ok-create.ensures.ready.0

pub returns-in_default-clause-begins : goal.returns-in_default-clause-begins
returns-in_default-clause-begins g c = tt

pub returns-in_default-clause-left : goal.returns-in_default-clause-left
returns-in_default-clause-left g c = tt

pub returns-in_default-clause-kept : goal.returns-in_default-clause-kept
returns-in_default-clause-kept g c = tt

pub returns-in_default-clause-closes : goal.returns-in_default-clause-closes
returns-in_default-clause-closes g c = tt

pub returns-in_default-clause-refused : goal.returns-in_default-clause-refused
returns-in_default-clause-refused g c = tt

pub returns-in_default-clause-small : goal.returns-in_default-clause-small
returns-in_default-clause-small g c = tt

pub returns-in_default-clause-cause : goal.returns-in_default-clause-cause
returns-in_default-clause-cause g c = tt

pub returns-in_default-clause-crash : goal.returns-in_default-clause-crash
returns-in_default-clause-crash g c = λ clean only h records stands.
    let seen = g.D.Disk.seen in
    let looks = c.begin.ensures.looks in
    let honest = c.create.ensures.clean clean in
    let new : IsNewFile (seen (disk_behind c.args.self.now)) = c.in_ok-reader.ensures.new (ap Ok c.in_default.is) (seen (disk_behind c.args.self.now)) (refl, refl, (λ _. omega arith), tt) honest in
    made_left g.D.Disk.seen g.D.Disk.may_leave g.D.Disk.is_clean g.D.Disk.faults c.args.note.now h c.args.header records _ c.begin.new.source looks only stands c.create.new.self new
    (c.create.ensures.crash (subst IsNewFile (sym looks.same) new) clean (λ f left. only f (looks.crash f left) ∙ sym looks.same))

pub returns-in_default-clause-clean : goal.returns-in_default-clause-clean
returns-in_default-clause-clean g c = λ clean. c.begin.ensures.looks.clean (c.create.ensures.clean clean)

pub returns-in_default-clause-usable : goal.returns-in_default-clause-usable
returns-in_default-clause-usable g c = c.in_ok-create.ensures.usable

pub returns-clause-made : goal.returns-clause-made
returns-clause-made g c = λ is. absurd (some_not_none _ is)

pub returns-clause-ready : goal.returns-clause-ready
returns-clause-ready g c = λ is. absurd (some_not_none _ is)

pub returns-clause-left : goal.returns-clause-left
returns-clause-left g c = c.begin.ensures.looks.crash

pub returns-clause-kept : goal.returns-clause-kept
returns-clause-kept g c = tt

pub returns-clause-closes : goal.returns-clause-closes
returns-clause-closes g c = tt

pub returns-clause-refused : goal.returns-clause-refused
returns-clause-refused g c = tt

pub returns-clause-small : goal.returns-clause-small
returns-clause-small g c = tt

pub returns-clause-cause : goal.returns-clause-cause
returns-clause-cause g c = tt

pub returns-clause-crash : goal.returns-clause-crash
returns-clause-crash g c = λ clean only h records stands f left. left_standing g.D.Disk.seen g.D.Disk.may_leave g.D.Disk.is_clean g.D.Disk.faults c.args.note.now h c.args.header records _ c.begin.new.source c.begin.ensures.looks only stands f (c.begin.ensures.looks.crash f left)

pub returns-clause-clean : goal.returns-clause-clean
returns-clause-clean g c = c.begin.ensures.looks.clean

pub returns-clause-usable : goal.returns-clause-usable
returns-clause-usable g c = c.begin.ensures.usable
