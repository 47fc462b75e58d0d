use Rattle.std.proofs.Common.{rules, ◌≡◌, ◌++◌, [], ℕ, List, length, refl, sym, ◌∙◌, ap, subst, IsTrue}
use Rattle.journal_core.specs.Clocked.{disk_of, CrashLeaves}
use Rattle.journal_core.specs.Format.{IsNewFile, IsOf64Bits, StandsFor, header_text, shut_word}
use Rattle.journal_core.specs.Resting.{clocked_of, disk_behind}
use Rattle.journal_core.specs.Private.DiskMoments.{joined, none, one_call}
use Rattle.journal_core.specs.JournalReading.{IsRefusal}
use Rattle.sqlite_disk.specs.Disk.{MoreFaults}
use Rattle.sqlite_disk.specs.Refusal.{is_no_room}
use Rattle.std.proofs.lemmas.Result.{IfOk-from_err}
use Rattle.journal_core.proofs.Causes.{failed_small, no_memory_cause, no_memory_small, write_cause, write_refuses_not, write_small}
use Rattle.journal_core.proofs.Exits.{at_exit, on_err}
use Rattle.journal_core.proofs.Settling.{made_settled, new_left}
use Rattle.journal_core.proofs.journal.Journal.create.Goals as goal

pub returns-clause-made : goal.returns-clause-made
returns-clause-made g c = λ new clean.
    let seen = g.D.Disk.seen in
    let text : c.deref.result.now ≡ header_text c.args.header ++ shut_word = c.deref.ensures.value ∙ c.in_ok-text.ensures.text in
    let fits : IsOf64Bits c.args.header = record { generation = search rules; key = search rules; began = search rules } in
    let seen_is : seen (disk_of c.len.new.self) ≡ seen (disk_behind c.args.self.now) = c.in-Ok.ensures.seen in
    let clean_len : IsTrue (g.D.Disk.is_clean (disk_of c.len.new.self)) = subst (λ b. IsTrue b) c.in_default.ensures.clean clean in
    let long : c.in-Ok.len ≡ length (seen (disk_of c.len.new.self)) = c.in-Ok.ensures.len clean_len ∙ ap length (sym seen_is) in
    made_settled seen g.D.Disk.may_leave g.D.Disk.is_clean _ (disk_of c.make.new.disk) refl (c.in_default.ensures.made c.args.header fits text long (subst IsNewFile (sym seen_is) new)) refl tt

pub returns-clause-any_moment : goal.returns-clause-any_moment
returns-clause-any_moment g c = λ new clean only.
    let seen = g.D.Disk.seen in
    let may_leave = g.D.Disk.may_leave in
    let before = disk_behind c.args.self.now in
    let text : c.deref.result.now ≡ header_text c.args.header ++ shut_word = c.deref.ensures.value ∙ c.in_ok-text.ensures.text in
    let fits : IsOf64Bits c.args.header = record { generation = search rules; key = search rules; began = search rules } in
    let seen_is : seen (disk_of c.len.new.self) ≡ seen before = c.in-Ok.ensures.seen in
    let clean_len : IsTrue (g.D.Disk.is_clean (disk_of c.len.new.self)) = subst (λ b. IsTrue b) c.in_default.ensures.clean clean in
    let long : c.in-Ok.len ≡ length (seen (disk_of c.len.new.self)) = c.in-Ok.ensures.len clean_len ∙ ap length (sym seen_is) in
    let P : List ℕ → Type 0 = λ f. StandsFor c.args.header f [] in
    let left = new_left c.args.header (seen before) (may_leave before) new only in
    let first = one_call may_leave c.args.note.now P (clocked_of c.args.self.now) c.len.new.self c.in-Ok.ensures.noted left (λ f l. left f (c.in-Ok.ensures.crash f l)) in
    joined (CrashLeaves may_leave c.args.note.now P) (clocked_of c.args.self.now) c.len.new.self c.make.new.disk first
    (c.in_default.ensures.any_moment c.args.header fits text long (subst IsNewFile (sym seen_is) new) (λ f l. only f (c.in-Ok.ensures.crash f l) ∙ sym seen_is))

pub returns-in_err-text-clause-made : goal.returns-in_err-text-clause-made
returns-in_err-text-clause-made g c = IfOk-from_err c.from_residual.result _ c.from_residual.ensures.0

pub returns-in_err-text-clause-ready : goal.returns-in_err-text-clause-ready
returns-in_err-text-clause-ready g c = IfOk-from_err c.from_residual.result _ c.from_residual.ensures.0

pub returns-in_err-text-clause-usable : goal.returns-in_err-text-clause-usable
returns-in_err-text-clause-usable g c = IfOk-from_err c.from_residual.result _ c.from_residual.ensures.0

pub returns-in_err-text-clause-closes : goal.returns-in_err-text-clause-closes
returns-in_err-text-clause-closes g c = on_err c.from_residual.result refl

pub returns-in_err-text-clause-refused : goal.returns-in_err-text-clause-refused
returns-in_err-text-clause-refused g c = at_exit c.from_residual.result _ c.in_err-text.field-0.0 c.from_residual.ensures.1 (λ refusal. subst IsRefusal c.in_err-text.ensures.cause refusal)

pub returns-in_err-text-clause-small : goal.returns-in_err-text-clause-small
returns-in_err-text-clause-small g c = at_exit c.from_residual.result _ c.in_err-text.field-0.0 c.from_residual.ensures.1 (no_memory_small c.in_err-text.field-0.0 c.in_err-text.ensures.cause)

pub returns-in_err-text-clause-cause : goal.returns-in_err-text-clause-cause
returns-in_err-text-clause-cause g c = at_exit c.from_residual.result _ c.in_err-text.field-0.0 c.from_residual.ensures.1 (no_memory_cause _ c.in_err-text.field-0.0 c.in_err-text.ensures.cause)

pub returns-in_err-text-clause-any_moment : goal.returns-in_err-text-clause-any_moment
returns-in_err-text-clause-any_moment g c = λ new clean only. none (CrashLeaves g.D.Disk.may_leave c.args.note.now (λ f. StandsFor c.args.header f [])) (clocked_of c.args.self.now)

pub returns-in_err-text-clause-crash : goal.returns-in_err-text-clause-crash
returns-in_err-text-clause-crash g c = λ new clean only. new_left c.args.header (g.D.Disk.seen (disk_behind c.args.self.now)) (g.D.Disk.may_leave (disk_behind c.args.self.now)) new only

pub returns-in_err-text-clause-clean : goal.returns-in_err-text-clause-clean
returns-in_err-text-clause-clean g c = λ clean. clean

pub returns-in-Err-clause-made : goal.returns-in-Err-clause-made
returns-in-Err-clause-made g c = tt

pub returns-in-Err-clause-ready : goal.returns-in-Err-clause-ready
returns-in-Err-clause-ready g c = tt

pub returns-in-Err-clause-usable : goal.returns-in-Err-clause-usable
returns-in-Err-clause-usable g c = tt

pub returns-in-Err-clause-closes : goal.returns-in-Err-clause-closes
returns-in-Err-clause-closes g c = refl

pub returns-in-Err-clause-refused : goal.returns-in-Err-clause-refused
returns-in-Err-clause-refused g c = λ refusal. refusal

pub returns-in-Err-clause-small : goal.returns-in-Err-clause-small
returns-in-Err-clause-small g c = λ is. failed_small c.in-Err.error is

pub returns-in-Err-clause-cause : goal.returns-in-Err-clause-cause
returns-in-Err-clause-cause g c = c.in-Err.ensures.faults.0

pub returns-in-Err-clause-any_moment : goal.returns-in-Err-clause-any_moment
returns-in-Err-clause-any_moment g c = λ new clean only.
    let may_leave = g.D.Disk.may_leave in
    let before = disk_behind c.args.self.now in
    let left = new_left c.args.header (g.D.Disk.seen before) (may_leave before) new only in
    one_call may_leave c.args.note.now (λ f. StandsFor c.args.header f []) (clocked_of c.args.self.now) c.len.new.self c.len.ensures.noted left (λ f l. left f (c.len.ensures.crash f l))

pub returns-in-Err-clause-crash : goal.returns-in-Err-clause-crash
returns-in-Err-clause-crash g c = λ new clean only f l.
    let may_leave = g.D.Disk.may_leave in
    let before = disk_behind c.args.self.now in
    let left = new_left c.args.header (g.D.Disk.seen before) (may_leave before) new only in
    left f (c.len.ensures.crash f l)

pub returns-in-Err-clause-clean : goal.returns-in-Err-clause-clean
returns-in-Err-clause-clean g c = c.len.ensures.clean

pub returns-clause-crash : goal.returns-clause-crash
returns-clause-crash g c = λ new clean only.
    let seen = g.D.Disk.seen in
    let may_leave = g.D.Disk.may_leave in
    let before = disk_behind c.args.self.now in
    let text : c.deref.result.now ≡ header_text c.args.header ++ shut_word = c.deref.ensures.value ∙ c.in_ok-text.ensures.text in
    let fits : IsOf64Bits c.args.header = record { generation = search rules; key = search rules; began = search rules } in
    let seen_is : seen (disk_of c.len.new.self) ≡ seen before = c.len.ensures.seen in
    let clean_len : IsTrue (g.D.Disk.is_clean (disk_of c.len.new.self)) = subst (λ b. IsTrue b) c.make.ensures.clean clean in
    let long : c.in-Ok.len ≡ length (seen (disk_of c.len.new.self)) = c.in-Ok.ensures.len clean_len ∙ ap length (sym seen_is) in
    c.make.ensures.crash c.args.header fits text long (subst IsNewFile (sym seen_is) new) (λ f l. only f (c.len.ensures.crash f l) ∙ sym seen_is)

pub returns-clause-ready : goal.returns-clause-ready
returns-clause-ready g c = (refl, refl)

pub returns-clause-closes : goal.returns-clause-closes
returns-clause-closes g c = tt

pub returns-clause-refused : goal.returns-clause-refused
returns-clause-refused g c = tt

pub returns-clause-small : goal.returns-clause-small
returns-clause-small g c = tt

pub returns-clause-cause : goal.returns-clause-cause
returns-clause-cause g c = tt

pub returns-clause-clean : goal.returns-clause-clean
returns-clause-clean g c = λ clean. c.len.ensures.clean (subst (λ b. IsTrue b) c.make.ensures.clean clean)

pub returns-clause-usable : goal.returns-clause-usable
returns-clause-usable g c = c.in_default.ensures.usable

pub returns-in-Err-make-clause-made : goal.returns-in-Err-make-clause-made
returns-in-Err-make-clause-made g c = tt

pub returns-in-Err-make-clause-ready : goal.returns-in-Err-make-clause-ready
returns-in-Err-make-clause-ready g c = tt

pub returns-in-Err-make-clause-usable : goal.returns-in-Err-make-clause-usable
returns-in-Err-make-clause-usable g c = tt

pub returns-in-Err-make-clause-closes : goal.returns-in-Err-make-clause-closes
returns-in-Err-make-clause-closes g c = refl

pub returns-in-Err-make-clause-refused : goal.returns-in-Err-make-clause-refused
returns-in-Err-make-clause-refused g c = write_refuses_not (is_no_room c.in-Err-make.error) c.in-Err-make.error c.write_error.result c.write_error.ensures

pub returns-in-Err-make-clause-small : goal.returns-in-Err-make-clause-small
returns-in-Err-make-clause-small g c = write_small (is_no_room c.in-Err-make.error) c.in-Err-make.error c.write_error.result c.write_error.ensures

pub returns-in-Err-make-clause-cause : goal.returns-in-Err-make-clause-cause
returns-in-Err-make-clause-cause g c =
    let faults = g.D.Disk.faults in
    let more : MoreFaults (faults (disk_behind c.args.self.now)) (faults (disk_of c.make.new.disk)) = subst (λ n. MoreFaults n (faults (disk_of c.make.new.disk))) c.in-Ok.ensures.faults c.in-Err-make.ensures.counts.faults.0 in
    write_cause _ (is_no_room c.in-Err-make.error) c.in-Err-make.error c.write_error.result more c.write_error.ensures

pub returns-in-Err-make-clause-any_moment : goal.returns-in-Err-make-clause-any_moment
returns-in-Err-make-clause-any_moment g c = λ new clean only.
    let seen = g.D.Disk.seen in
    let may_leave = g.D.Disk.may_leave in
    let before = disk_behind c.args.self.now in
    let text : c.deref.result.now ≡ header_text c.args.header ++ shut_word = c.deref.ensures.value ∙ c.in_ok-text.ensures.text in
    let fits : IsOf64Bits c.args.header = record { generation = search rules; key = search rules; began = search rules } in
    let seen_is : seen (disk_of c.len.new.self) ≡ seen before = c.len.ensures.seen in
    let clean_len : IsTrue (g.D.Disk.is_clean (disk_of c.len.new.self)) = subst (λ b. IsTrue b) c.make.ensures.clean clean in
    let long : c.in-Ok.len ≡ length (seen (disk_of c.len.new.self)) = c.in-Ok.ensures.len clean_len ∙ ap length (sym seen_is) in
    let P : List ℕ → Type 0 = λ f. StandsFor c.args.header f [] in
    let left = new_left c.args.header (seen before) (may_leave before) new only in
    let first = one_call may_leave c.args.note.now P (clocked_of c.args.self.now) c.len.new.self c.len.ensures.noted left (λ f l. left f (c.len.ensures.crash f l)) in
    joined (CrashLeaves may_leave c.args.note.now P) (clocked_of c.args.self.now) c.len.new.self c.make.new.disk first
    (c.make.ensures.any_moment c.args.header fits text long (subst IsNewFile (sym seen_is) new) (λ f l. only f (c.len.ensures.crash f l) ∙ sym seen_is))

pub returns-in-Err-make-clause-crash : goal.returns-in-Err-make-clause-crash
returns-in-Err-make-clause-crash g c = λ new clean only.
    let seen = g.D.Disk.seen in
    let may_leave = g.D.Disk.may_leave in
    let before = disk_behind c.args.self.now in
    let text : c.deref.result.now ≡ header_text c.args.header ++ shut_word = c.deref.ensures.value ∙ c.in_ok-text.ensures.text in
    let fits : IsOf64Bits c.args.header = record { generation = search rules; key = search rules; began = search rules } in
    let seen_is : seen (disk_of c.len.new.self) ≡ seen before = c.len.ensures.seen in
    let clean_len : IsTrue (g.D.Disk.is_clean (disk_of c.len.new.self)) = subst (λ b. IsTrue b) c.make.ensures.clean clean in
    let long : c.in-Ok.len ≡ length (seen (disk_of c.len.new.self)) = c.in-Ok.ensures.len clean_len ∙ ap length (sym seen_is) in
    c.make.ensures.crash c.args.header fits text long (subst IsNewFile (sym seen_is) new) (λ f l. only f (c.len.ensures.crash f l) ∙ sym seen_is)

pub returns-in-Err-make-clause-clean : goal.returns-in-Err-make-clause-clean
returns-in-Err-make-clause-clean g c = λ clean. c.len.ensures.clean (subst (λ b. IsTrue b) c.make.ensures.clean clean)
