use Rattle.std.proofs.Common.{◌≡◌, ◌∙◌, true, false, refl, sym, ap, subst, map}
use Rattle.std.proofs.lemmas.Result.{err_from_is_err_and}
use Rattle.dav_path_core.specs.declared.util.DavMethod.TheVariants as method
use Rattle.dav_path_core.specs.PathText.{PathText}
use Rattle.dav_path_core.specs.Segments.{segments}
use Rattle.dav_files_core.specs.Properties.{patch_update}
use Rattle.dav_xml_core.specs.Writing.{document_bytes}
use Rattle.dav_session_core.specs.Callers.{live}
use Rattle.dav_session_core.specs.Patching.{IsPatched}
use Rattle.dav_guarded_core.specs.Step.{State}
use Rattle.dav_safe_methods_core.proofs.Acting.{held_before, looks_act}
use Rattle.dav_safe_methods_core.specs.SentDocuments.{document_sent}
use Rattle.dav_documents_core.specs.PatchBodies.{any_protected, patch_nodes}
use Rattle.dav_methods_core.specs.ProppatchMethod.{CanPatch, CantPatch, Changes}
use Rattle.dav_methods_core.specs.ToldPaths.{told_path}
use Rattle.dav_session_core.specs.Sessions as spec
use Rattle.dav_session_core.proofs.Asking.{live_as, live_once}
use Rattle.dav_session_core.proofs.Looking.{acts_on, looks_on}
use Rattle.dav_methods_core.proofs.CourseLemmas.{course_stays, stopped_after}
use Rattle.dav_methods_core.proofs.LockMethodLemmas.{told_before}
use Rattle.dav_locks_core.proofs.answers.LockListLemmas.{on_err}
use Rattle.dav_methods_core.proofs.methods.proppatch.proppatch.Goals as goal

pub returns-in_err-check_conditions-clause-err : goal.returns-in_err-check_conditions-clause-err
returns-in_err-check_conditions-clause-err g c =
    let q = err_from_is_err_and c.from_residual-in_err-check_conditions.result c.from_residual-in_err-check_conditions.ensures.1 in
    let who = spec.caller c.args.session.now in
    let s = spec.state g.R.Rng.stream c.args.session.now in
    let p = segments c.args.path.bytes in
    let body = c.args.body.now in
    rw (q.1, q.2) (stopped_after method.PropPatch p c.args.headers.now who.now s (spec.state g.R.Rng.stream c.updates_for.new.session) c.updates_for.ensures.looks.live
    (CantPatch body (live who.now s) who p) (CanPatch body (live who.now s) who p) c.in_err-check_conditions.field-0.0 tt c.in_ok-updates.ensures.can
    c.in_err-check_conditions.ensures.err)

pub returns-then-any_protected-clause-done : goal.returns-then-any_protected-clause-done
returns-then-any_protected-clause-done g c =
    let who = spec.caller c.args.session.now in
    let s = spec.state g.R.Rng.stream c.args.session.now in
    let after = spec.state g.R.Rng.stream c.told_path.new.session in
    let p = segments c.args.path.bytes in
    let updates = map patch_update c.in_ok-updates.updates.items in
    let first = looks_on c.updates_for.ensures.looks c.check_conditions.ensures.looks in
    let looks = looks_on first c.told_path.ensures.looks in
    let told = told_before c.args.path c.in_ok-told.told first
    (subst (λ (q : PathText). c.in_ok-told.told ≡ told_path (spec.state g.R.Rng.stream c.check_conditions.new.session).map q) c.in_ok-copy_of.ensures c.in_ok-told.ensures.ok) in
    let some : any_protected updates ≡ true = ap (λ us. any_protected (map patch_update us)) (sym c.deref-2.ensures.value) ∙ sym c.any_protected.ensures ∙ c.if-any_protected.true in
    let same : Changes true who.now p updates (live who.now s) after = looks.live ∙ sym (live_once who.now s) in (
      document_sent c.in_ok-patch_document.field-0.items,
      c.in_ok-say_document.ensures.sent,
      record {
        status_is = refl;
        updates = updates;
        asks = c.in_ok-updates.ensures.asked;
        stood = c.in_ok-updates.ensures.can.stood;
        free = c.in_ok-updates.ensures.can.free;
        course = course_stays method.PropPatch p c.args.headers.now who.now s (spec.state g.R.Rng.stream c.updates_for.new.session) _ c.updates_for.ensures.looks.live
            c.in_ok-check_conditions.ensures.ok;
        changes = subst (λ b. Changes b who.now p updates (live who.now s) after) (sym some) same;
        tells = ap document_sent (c.in_ok-patch_document.ensures ∙ ap (λ us. document_bytes (patch_nodes c.args.prefix.now c.in_ok-told.told (map patch_update us))) c.deref.ensures.value
            ∙ ap (λ (q : PathText). document_bytes (patch_nodes c.args.prefix.now q updates)) told);
      },
    )

pub returns-clause-done : goal.returns-clause-done
returns-clause-done g c =
    let who = spec.caller c.args.session.now in
    let s = spec.state g.R.Rng.stream c.args.session.now in
    let after = spec.state g.R.Rng.stream c.patch.new.self in
    let p = segments c.args.path.bytes in
    let updates = map patch_update c.in_ok-updates.updates.items in
    let first = looks_on c.updates_for.ensures.looks c.check_conditions.ensures.looks in
    let looks = looks_on first c.told_path.ensures.looks in
    let told = told_before c.args.path c.in_ok-told.told first
    (subst (λ (q : PathText). c.in_ok-told.told ≡ told_path (spec.state g.R.Rng.stream c.check_conditions.new.session).map q) c.in_ok-copy_of.ensures c.in_ok-told.ensures.ok) in
    let none : any_protected updates ≡ false = ap (λ us. any_protected (map patch_update us)) (sym c.deref-2.ensures.value) ∙ sym c.any_protected.ensures ∙ c.if-any_protected.false in
    let patched : IsPatched p updates (live who.now s) after = held_before (λ w (t : State). IsPatched p updates t after) looks c.in_ok-patch.ensures.ok in (
      document_sent c.in_ok-patch_document.field-0.items,
      c.in_ok-say_document.ensures.sent,
      record {
        status_is = refl;
        updates = updates;
        asks = c.in_ok-updates.ensures.asked;
        stood = c.in_ok-updates.ensures.can.stood;
        free = c.in_ok-updates.ensures.can.free;
        course = course_stays method.PropPatch p c.args.headers.now who.now s (spec.state g.R.Rng.stream c.updates_for.new.session) _ c.updates_for.ensures.looks.live
            c.in_ok-check_conditions.ensures.ok;
        changes = subst (λ b. Changes b who.now p updates (live who.now s) after) (sym none) patched;
        tells = ap document_sent (c.in_ok-patch_document.ensures ∙ ap (λ us. document_bytes (patch_nodes c.args.prefix.now c.in_ok-told.told (map patch_update us))) c.deref.ensures.value
            ∙ ap (λ (q : PathText). document_bytes (patch_nodes c.args.prefix.now q updates)) told);
      },
    )

pub returns-in_err-updates-clause-refused : goal.returns-in_err-updates-clause-refused
returns-in_err-updates-clause-refused g c = on_err c.from_residual.result c.updates_for.ensures.looks.live

pub returns-in_err-updates-clause-acts : goal.returns-in_err-updates-clause-acts
returns-in_err-updates-clause-acts g c = looks_act c.updates_for.ensures.looks

pub returns-in_err-check_conditions-clause-refused : goal.returns-in_err-check_conditions-clause-refused
returns-in_err-check_conditions-clause-refused g c =
    on_err c.from_residual-in_err-check_conditions.result (looks_on c.updates_for.ensures.looks c.check_conditions.ensures.looks).live

pub returns-in_err-check_conditions-clause-acts : goal.returns-in_err-check_conditions-clause-acts
returns-in_err-check_conditions-clause-acts g c = looks_act (looks_on c.updates_for.ensures.looks c.check_conditions.ensures.looks)

pub returns-in_err-copy_of-clause-refused : goal.returns-in_err-copy_of-clause-refused
returns-in_err-copy_of-clause-refused g c = on_err c.from_residual-in_err-copy_of.result (looks_on c.updates_for.ensures.looks c.check_conditions.ensures.looks).live

pub returns-in_err-copy_of-clause-acts : goal.returns-in_err-copy_of-clause-acts
returns-in_err-copy_of-clause-acts g c = looks_act (looks_on c.updates_for.ensures.looks c.check_conditions.ensures.looks)

pub returns-in_err-told-clause-refused : goal.returns-in_err-told-clause-refused
returns-in_err-told-clause-refused g c =
    on_err c.from_residual-in_err-told.result (looks_on (looks_on c.updates_for.ensures.looks c.check_conditions.ensures.looks) c.told_path.ensures.looks).live

pub returns-in_err-told-clause-acts : goal.returns-in_err-told-clause-acts
returns-in_err-told-clause-acts g c = looks_act (looks_on (looks_on c.updates_for.ensures.looks c.check_conditions.ensures.looks) c.told_path.ensures.looks)

pub returns-in_err-patch_document-clause-refused : goal.returns-in_err-patch_document-clause-refused
returns-in_err-patch_document-clause-refused g c =
    on_err c.from_residual-in_err-patch_document.result (looks_on (looks_on c.updates_for.ensures.looks c.check_conditions.ensures.looks) c.told_path.ensures.looks).live

pub returns-in_err-patch_document-clause-acts : goal.returns-in_err-patch_document-clause-acts
returns-in_err-patch_document-clause-acts g c = looks_act (looks_on (looks_on c.updates_for.ensures.looks c.check_conditions.ensures.looks) c.told_path.ensures.looks)

pub returns-in_err-say_document-clause-refused : goal.returns-in_err-say_document-clause-refused
returns-in_err-say_document-clause-refused g c =
    on_err c.from_residual-in_err-say_document.result (looks_on (looks_on c.updates_for.ensures.looks c.check_conditions.ensures.looks) c.told_path.ensures.looks).live

pub returns-in_err-say_document-clause-acts : goal.returns-in_err-say_document-clause-acts
returns-in_err-say_document-clause-acts g c = looks_act (looks_on (looks_on c.updates_for.ensures.looks c.check_conditions.ensures.looks) c.told_path.ensures.looks)

pub returns-then-any_protected-clause-acts : goal.returns-then-any_protected-clause-acts
returns-then-any_protected-clause-acts g c = looks_act (looks_on (looks_on c.updates_for.ensures.looks c.check_conditions.ensures.looks) c.told_path.ensures.looks)

pub returns-in_err-patch-clause-refused : goal.returns-in_err-patch-clause-refused
returns-in_err-patch-clause-refused g c =
    let looks = looks_on (looks_on c.updates_for.ensures.looks c.check_conditions.ensures.looks) c.told_path.ensures.looks in
    on_err c.from_residual-in_err-patch.result (live_as (spec.caller c.args.session.now) (spec.caller c.told_path.new.session) (spec.state g.R.Rng.stream c.args.session.now)
    (spec.state g.R.Rng.stream c.told_path.new.session) (spec.state g.R.Rng.stream c.patch.new.self) looks.who looks.live c.in_err-patch.ensures.refused)

pub returns-in_err-patch-clause-acts : goal.returns-in_err-patch-clause-acts
returns-in_err-patch-clause-acts g c =
    acts_on (looks_act (looks_on (looks_on c.updates_for.ensures.looks c.check_conditions.ensures.looks) c.told_path.ensures.looks)) c.patch.ensures.acts

pub returns-clause-acts : goal.returns-clause-acts
returns-clause-acts g c = acts_on (looks_act (looks_on (looks_on c.updates_for.ensures.looks c.check_conditions.ensures.looks) c.told_path.ensures.looks)) c.patch.ensures.acts
