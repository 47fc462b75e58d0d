use Rattle.std.proofs.Common.{◌≡◌, ◌⊎◌, ◌∙◌, [], sym, ap}
use Rattle.std.proofs.lemmas.Result.{err_from_is_err_and}
use Rattle.dav_path_core.specs.Fronts.{parent}
use Rattle.dav_path_core.specs.Segments.{segments}
use Rattle.dav_files_core.specs.Meta.{meta_of}
use Rattle.dav_files_core.specs.declared.memfs.Kind.TheVariants.{Folder}
use Rattle.dav_faults_core.specs.declared.faults.Fault.TheVariants as fault
use Rattle.dav_fields_core.specs.Marking.{IsNone}
use Rattle.dav_session_core.specs.Sessions as spec
use Rattle.dav_session_core.specs.Callers.{live}
use Rattle.dav_methods_core.specs.LockMethod.{refusing_to_make}
use Rattle.dav_session_core.specs.LocksInTheWay.{IsRefusedBy}
use Rattle.dav_session_core.proofs.Looking.{looks_none, looks_on}
use Rattle.dav_safe_methods_core.proofs.Acting.{held_before}
use Rattle.dav_methods_core.proofs.LockLemmas.{lacks_above, lacks_by_lock, nothing_known, room_found}
use Rattle.dav_session_core.specs.Ends.{known_at}
use Rattle.dav_methods_core.proofs.methods.lock.find_room.Goals as goal

pub returns-clause-ok : goal.returns-clause-ok
returns-clause-ok g c =
    let who = spec.caller c.args.session.now in
    let s = spec.state g.R.Rng.stream c.args.session.now in
    room_found meta_of c.meta-known.result who (spec.caller c.meta-known.new.self) s (spec.state g.R.Rng.stream c.meta-known.new.self) (spec.state g.R.Rng.stream c.check_locks.new.session)
    (segments c.args.path.now.bytes) (c.meta-known.ensures.found ∙ ap (λ p. known_at s.map (segments p.bytes)) c.in_ok-copy_of.ensures)
    (sym c.is_some.ensures ∙ c.if-is_some.false) c.meta-known.ensures.looks.who c.meta-known.ensures.looks.live c.in_ok-check_locks.ensures.ok c.check_locks.ensures.looks.live
    c.in_ok-check_above.ensures.ok

pub returns-in_err-check_locks-clause-looks : goal.returns-in_err-check_locks-clause-looks
returns-in_err-check_locks-clause-looks g c = looks_on c.meta-known.ensures.looks c.check_locks.ensures.looks

pub returns-in_err-check_locks-clause-err : goal.returns-in_err-check_locks-clause-err
returns-in_err-check_locks-clause-err g c =
    let q = err_from_is_err_and c.from_residual-in_err-check_locks.result c.from_residual-in_err-check_locks.ensures.1 in
    let who = spec.caller c.args.session.now in
    let s = spec.state g.R.Rng.stream c.args.session.now in
    let p = segments c.args.path.now.bytes in
    let e = c.in_err-check_locks.field-0.0 in
    let none = nothing_known meta_of c.meta-known.result s p (c.meta-known.ensures.found ∙ ap (λ p. known_at s.map (segments p.bytes)) c.in_ok-copy_of.ensures)
    (sym c.is_some.ensures ∙ c.if-is_some.false) in
    rw (q.1, q.2) (lacks_by_lock (live who.now s) who p e none (held_before (λ w t. IsRefusedBy (refusing_to_make t w p) e) c.meta-known.ensures.looks c.in_err-check_locks.ensures.err))

pub returns-in_err-check_above-clause-err : goal.returns-in_err-check_above-clause-err
returns-in_err-check_above-clause-err g c =
    let q = err_from_is_err_and c.from_residual-in_err-check_above.result c.from_residual-in_err-check_above.ensures.1 in
    let who = spec.caller c.args.session.now in
    let s = spec.state g.R.Rng.stream c.args.session.now in
    let p = segments c.args.path.now.bytes in
    let e = c.in_err-check_above.field-0.0 in
    let none = nothing_known meta_of c.meta-known.result s p (c.meta-known.ensures.found ∙ ap (λ p. known_at s.map (segments p.bytes)) c.in_ok-copy_of.ensures)
    (sym c.is_some.ensures ∙ c.if-is_some.false) in
    let free = held_before (λ w t. refusing_to_make t w p ≡ []) c.meta-known.ensures.looks c.in_ok-check_locks.ensures.ok in
    let looked = looks_on c.meta-known.ensures.looks c.check_locks.ensures.looks in
    rw (q.1, q.2) (lacks_above (live who.now s) who p e none free
    (held_before (λ w t. (e ≡ fault.InsufficientStorage) ⊎ ((e ≡ fault.Conflict) × IsNone t.map (parent p) Folder)) looked c.in_err-check_above.ensures.err))

pub returns-in_err-copy_of-clause-looks : goal.returns-in_err-copy_of-clause-looks
returns-in_err-copy_of-clause-looks g c = looks_none g.R.Rng.stream c.args.session.now

pub returns-in_err-check_above-clause-looks : goal.returns-in_err-check_above-clause-looks
returns-in_err-check_above-clause-looks g c = looks_on (looks_on c.meta-known.ensures.looks c.check_locks.ensures.looks) c.check_above.ensures.looks

pub returns-clause-looks : goal.returns-clause-looks
returns-clause-looks g c = looks_on (looks_on c.meta-known.ensures.looks c.check_locks.ensures.looks) c.check_above.ensures.looks
