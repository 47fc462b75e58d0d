use Rattle.std.proofs.Common.{◌≡◌, ◌⊎◌, None, Some, ap, sym, ◌∙◌, subst}
use Rattle.std.specs.Prelude.{IfErr, OnOk}
use Rattle.std.proofs.lemmas.Result.{err_from_is_err_and}
use Rattle.dav_path_core.specs.Fronts.{parent}
use Rattle.dav_path_core.specs.PathText.{PathText}
use Rattle.dav_path_core.specs.Segments.{segments}
use Rattle.dav_files_core.specs.declared.memfs.Kind.TheVariants.{Folder}
use Rattle.dav_files_core.specs.Meta.{meta_of}
use Rattle.dav_guarded_core.specs.Step.{State}
use Rattle.dav_faults_core.specs.declared.faults.Fault.TheVariants as fault
use Rattle.dav_fields_core.specs.Marking.{IsNone}
use Rattle.dav_session_core.specs.Callers.{live}
use Rattle.dav_session_core.specs.Ends.{HasFolder, known_at}
use Rattle.dav_session_core.specs.Sessions as spec
use Rattle.dav_session_core.proofs.Looking.{looks_on}
use Rattle.dav_methods_core.specs.MkcolMethod.{CantMake}
use Rattle.dav_methods_core.proofs.MkcolLemmas.{locked_making, makable, stands_there, unmakable}
use Rattle.dav_methods_core.proofs.methods.mkcol.check_making.Goals as goal

pub returns-in_err-check_locks-clause-err : goal.returns-in_err-check_locks-clause-err
returns-in_err-check_locks-clause-err g c =
    let q = err_from_is_err_and c.from_residual.result c.from_residual.ensures.1 in
    let who = spec.caller c.args.session.now in
    let s = spec.state g.R.Rng.stream c.args.session.now in
    rw (q.1, q.2) (locked_making who (live who.now s) (segments c.args.path.now.bytes) c.in_err-check_locks.field-0.0 c.in_err-check_locks.ensures.err)

pub returns-in-Some-clause-err : goal.returns-in-Some-clause-err
returns-in-Some-clause-err g c =
    let who = spec.caller c.args.session.now in
    let s = spec.state g.R.Rng.stream c.args.session.now in
    let mid = spec.state g.R.Rng.stream c.check_locks.new.session in
    let p = segments c.args.path.now.bytes in
    let known = meta_of c.in-Some.known in
    let found : Some known ≡ known_at s.map p =
    c.in-Some.ensures.found ∙ ap (λ (q : PathText). known_at mid.map (segments q.bytes)) c.in_ok-copy_of.ensures
    ∙ ap (λ (t : State). known_at t.map p) c.check_locks.ensures.looks.live in
    subst (λ b. CantMake (live who.now s) who p (fault.MethodNotAllowed b)) (sym c.is_folder-folder.ensures)
    (stands_there who (live who.now s) p known c.in_ok-check_locks.ensures.ok found)

pub returns-in-None-clause-ok : goal.returns-in-None-clause-ok
returns-in-None-clause-ok g c =
    let who = spec.caller c.args.session.now in
    let s = spec.state g.R.Rng.stream c.args.session.now in
    let mid = spec.state g.R.Rng.stream c.check_locks.new.session in
    let p = segments c.args.path.now.bytes in
    let found : None ≡ known_at s.map p =
    c.in-None.ensures.found ∙ ap (λ (q : PathText). known_at mid.map (segments q.bytes)) c.in_ok-copy_of.ensures
    ∙ ap (λ (t : State). known_at t.map p) c.check_locks.ensures.looks.live in
    let looks = looks_on c.check_locks.ensures.looks c.meta.ensures.looks in
    makable who (live who.now s) p c.check_above.result c.in_ok-check_locks.ensures.ok found
    (subst (λ (t : State). OnOk c.check_above.result (HasFolder t.map (parent p))) looks.live c.check_above.ensures.ok)

pub returns-in-None-clause-err : goal.returns-in-None-clause-err
returns-in-None-clause-err g c =
    let who = spec.caller c.args.session.now in
    let s = spec.state g.R.Rng.stream c.args.session.now in
    let mid = spec.state g.R.Rng.stream c.check_locks.new.session in
    let p = segments c.args.path.now.bytes in
    let found : None ≡ known_at s.map p =
    c.in-None.ensures.found ∙ ap (λ (q : PathText). known_at mid.map (segments q.bytes)) c.in_ok-copy_of.ensures
    ∙ ap (λ (t : State). known_at t.map p) c.check_locks.ensures.looks.live in
    let looks = looks_on c.check_locks.ensures.looks c.meta.ensures.looks in
    unmakable who (live who.now s) p c.check_above.result c.in_ok-check_locks.ensures.ok found
    (subst (λ (t : State). IfErr c.check_above.result (λ e. (e ≡ fault.InsufficientStorage) ⊎ ((e ≡ fault.Conflict) × IsNone t.map (parent p) Folder))) looks.live
    c.check_above.ensures.err)

pub returns-in-Some-clause-looks : goal.returns-in-Some-clause-looks
returns-in-Some-clause-looks g c = looks_on c.check_locks.ensures.looks c.meta.ensures.looks

pub returns-in-None-clause-looks : goal.returns-in-None-clause-looks
returns-in-None-clause-looks g c = looks_on (looks_on c.check_locks.ensures.looks c.meta.ensures.looks) c.check_above.ensures.looks
