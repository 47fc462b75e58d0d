use Rattle.std.proofs.Common.{◌≡◌, ◌⊎◌, ◌<◌, ◌-◌, ◌^◌, List, Err, inl, map, refl, string_bytes, sym, subst}
use Rattle.std.proofs.lemmas.Result.{err_from_is_err_and}
use Rattle.dav_path_core.specs.declared.util.DavMethod.TheVariants as method
use Rattle.dav_path_core.specs.Segments.{segments}
use Rattle.dav_guarded_core.specs.Step.{State}
use Rattle.dav_faults_core.specs.declared.faults.Fault.TheVariants as fault
use Rattle.dav_methods_core.specs.ChangeConditions.{change_course}
use Rattle.dav_session_core.specs.Callers.{live}
use Rattle.dav_methods_core.specs.Rooms.{IsReadyToLock, wanted_of}
use Rattle.dav_fields_core.specs.RequestRefusals.{IsLastMoment}
use Rattle.dav_session_core.specs.Sessions as spec
use Rattle.dav_session_core.proofs.CallerLaws.{by_none}
use Rattle.dav_session_core.proofs.Looking.{acts_none, looks_on}
use Rattle.dav_methods_core.proofs.LockLemmas.{course_by, memory_by, moment_by, not_last, room_by, unread_by}
use Rattle.dav_methods_core.proofs.LockMethodLemmas.{course_before, done, told_before, leaves, ready, refused}
use Rattle.dav_safe_methods_core.proofs.Acting.{acts_ran, held_before, looks_act, looks_thrice, ran_on}
use Rattle.dav_methods_core.proofs.methods.lock.lock.Goals as goal

pub returns-in_err-wanted-clause-err : goal.returns-in_err-wanted-clause-err
returns-in_err-wanted-clause-err g c =
    let p = err_from_is_err_and c.from_residual.result c.from_residual.ensures.1 in
    rw (p.1, p.2) (unread_by c.args.longest c.args.headers.now c.args.body.now (live (spec.caller c.args.session.now).now (spec.state g.R.Rng.stream c.args.session.now)) (spec.caller c.args.session.now) c.args.path c.in_err-wanted.field-0.0
    c.in_err-wanted.ensures.err)

pub returns-in_err-wanted-clause-left : goal.returns-in_err-wanted-clause-left
returns-in_err-wanted-clause-left g c =
    let p = err_from_is_err_and c.from_residual.result c.from_residual.ensures.1 in
    let who = spec.caller c.args.session.now in
    let s = spec.state g.R.Rng.stream c.args.session.now in
    rw (p.1) (inl (by_none who s, refl))

pub returns-in_err-check_moment-clause-err : goal.returns-in_err-check_moment-clause-err
returns-in_err-check_moment-clause-err g c =
    let p = err_from_is_err_and c.from_residual-in_err-check_moment.result c.from_residual-in_err-check_moment.ensures.1 in
    let who = spec.caller c.args.session.now in
    let s = spec.state g.R.Rng.stream c.args.session.now in
    let h = c.in_err-check_moment.ensures.err in
    rw (p.1, p.2) (moment_by c.args.longest c.args.headers.now c.args.body.now (live who.now s) who c.args.path c.in_err-check_moment.field-0.0 (wanted_of c.in_ok-wanted.wanted)
    c.in_ok-wanted.ensures.ok (h.0, subst IsLastMoment c.now.ensures h.1))

pub returns-in_err-check_moment-clause-left : goal.returns-in_err-check_moment-clause-left
returns-in_err-check_moment-clause-left g c =
    let p = err_from_is_err_and c.from_residual-in_err-check_moment.result c.from_residual-in_err-check_moment.ensures.1 in
    let who = spec.caller c.args.session.now in
    let s = spec.state g.R.Rng.stream c.args.session.now in
    rw (p.1) (inl (by_none who s, refl))

pub returns-in_err-missing-clause-err : goal.returns-in_err-missing-clause-err
returns-in_err-missing-clause-err g c =
    let p = err_from_is_err_and c.from_residual-in_err-missing.result c.from_residual-in_err-missing.ensures.1 in
    let who = spec.caller c.args.session.now in
    let s = spec.state g.R.Rng.stream c.args.session.now in
    rw (p.1, p.2) (room_by c.args.longest c.args.headers.now c.args.body.now (live who.now s) who c.args.path c.in_err-missing.field-0.0 (wanted_of c.in_ok-wanted.wanted)
    (c.in_ok-wanted.ensures.ok, not_last _ _ c.in_ok-check_moment.ensures.ok c.now.ensures) c.in_err-missing.ensures.err)

pub returns-in_err-check_conditions-clause-err : goal.returns-in_err-check_conditions-clause-err
returns-in_err-check_conditions-clause-err g c =
    let p = err_from_is_err_and c.from_residual-in_err-check_conditions.result c.from_residual-in_err-check_conditions.ensures.1 in
    let headers = c.args.headers.now in
    let at = segments c.args.path.bytes in
    let e = c.in_err-check_conditions.field-0.0 in
    rw (p.1, p.2) (course_by c.args.longest headers c.args.body.now (spec.live_of g.R.Rng.stream c.args.session.now) (spec.caller c.args.session.now) c.args.path e (wanted_of c.in_ok-wanted.wanted)
    c.in_ok-missing.missing (c.in_ok-wanted.ensures.ok, not_last _ _ c.in_ok-check_moment.ensures.ok c.now.ensures) c.in_ok-missing.ensures.ok
    (held_before (λ w (t : State). (e ≡ fault.InsufficientStorage) ⊎ (change_course method.Lock t.map at headers ≡ Err e)) c.find_room.ensures.looks c.in_err-check_conditions.ensures.err))

pub returns-in_err-check_conditions-clause-left : goal.returns-in_err-check_conditions-clause-left
returns-in_err-check_conditions-clause-left g c =
    let p = err_from_is_err_and c.from_residual-in_err-check_conditions.result c.from_residual-in_err-check_conditions.ensures.1 in
    let looks = looks_on c.find_room.ensures.looks c.check_conditions.ensures.looks in
    rw (p.1) (inl (looks.run, looks.live))

pub returns-in_err-place-clause-err : goal.returns-in_err-place-clause-err
returns-in_err-place-clause-err g c =
    let p = err_from_is_err_and c.from_residual-in_err-place.result c.from_residual-in_err-place.ensures.1 in
    rw (p.1, p.2) (memory_by c.args.longest c.args.headers.now c.args.body.now (spec.live_of g.R.Rng.stream c.args.session.now) (spec.caller c.args.session.now) c.args.path
    c.in_err-place.field-0.0 c.in_err-place.ensures.err)

pub returns-in_err-place-clause-left : goal.returns-in_err-place-clause-left
returns-in_err-place-clause-left g c =
    let p = err_from_is_err_and c.from_residual-in_err-place.result c.from_residual-in_err-place.ensures.1 in
    let looks = looks_thrice c.find_room.ensures.looks c.check_conditions.ensures.looks c.told_path.ensures.looks in
    rw (p.1) (inl (looks.run, looks.live))

pub returns-in_err-above-clause-err : goal.returns-in_err-above-clause-err
returns-in_err-above-clause-err g c =
    let p = err_from_is_err_and c.from_residual-in_err-above.result c.from_residual-in_err-above.ensures.1 in
    rw (p.1, p.2) (memory_by c.args.longest c.args.headers.now c.args.body.now (spec.live_of g.R.Rng.stream c.args.session.now) (spec.caller c.args.session.now) c.args.path
    c.in_err-above.field-0.0 c.in_err-above.ensures.err)

pub returns-in_err-above-clause-left : goal.returns-in_err-above-clause-left
returns-in_err-above-clause-left g c =
    let p = err_from_is_err_and c.from_residual-in_err-above.result c.from_residual-in_err-above.ensures.1 in
    let looks = looks_on (looks_thrice c.find_room.ensures.looks c.check_conditions.ensures.looks c.told_path.ensures.looks) c.tokens_above.ensures.looks in
    rw (p.1) (inl (looks.run, looks.live))

pub grant-requires-clause-ready : goal.grant-requires-clause-ready
grant-requires-clause-ready g c =
    let first = looks_thrice c.find_room.ensures.looks c.check_conditions.ensures.looks c.told_path.ensures.looks in
    let kept = told_before c.args.path c.in_ok-place.place (looks_on c.find_room.ensures.looks c.check_conditions.ensures.looks) c.in_ok-place.ensures.ok in
    subst (λ (above : List _). IsReadyToLock (spec.live_of g.R.Rng.stream c.tokens_above.new.self) (spec.caller c.tokens_above.new.self) c.in_ok-place.place
    (wanted_of c.in_ok-wanted.wanted) c.in_ok-missing.missing (map string_bytes above)) (sym c.deref.ensures.value)
    (ready c.args.longest c.args.headers.now c.args.body.now c.args.path (wanted_of c.in_ok-wanted.wanted) c.in_ok-missing.missing g.R.Rng.stream
    c.args.session.now (c.in_ok-wanted.ensures.ok, not_last _ _ c.in_ok-check_moment.ensures.ok c.now.ensures) c.in_ok-missing.ensures.ok c.in_ok-place.place kept (map string_bytes c.in_ok-above.above.items) first (looks_on first c.tokens_above.ensures.looks)
    (subst (λ n. n < 2 ^ 64 - 1) c.now.ensures c.in_ok-check_moment.ensures.ok) c.in_ok-above.ensures.ok c.in_ok-above.ensures.only)

pub returns-clause-done : goal.returns-clause-done
returns-clause-done g c =
    let looks = looks_on (looks_thrice c.find_room.ensures.looks c.check_conditions.ensures.looks c.told_path.ensures.looks) c.tokens_above.ensures.looks in
    let kept = told_before c.args.path c.in_ok-place.place (looks_on c.find_room.ensures.looks c.check_conditions.ensures.looks) c.in_ok-place.ensures.ok in
    done c.args.longest c.args.headers.now c.args.body.now c.args.path (wanted_of c.in_ok-wanted.wanted) c.in_ok-missing.missing g.R.Rng.stream
    c.args.session.now (c.in_ok-wanted.ensures.ok, not_last _ _ c.in_ok-check_moment.ensures.ok c.now.ensures) c.in_ok-missing.ensures.ok c.in_ok-place.place kept (spec.state g.R.Rng.stream c.grant.new.session) looks
    c.args.prefix.now c.grant.result c.args.response.now c.grant.new.response (course_before (segments c.args.path.bytes) c.args.headers.now c.find_room.ensures.looks c.in_ok-check_conditions.ensures.ok) c.grant.ensures.done

pub returns-clause-err : goal.returns-clause-err
returns-clause-err g c =
    let looks = looks_on (looks_thrice c.find_room.ensures.looks c.check_conditions.ensures.looks c.told_path.ensures.looks) c.tokens_above.ensures.looks in
    let kept = told_before c.args.path c.in_ok-place.place (looks_on c.find_room.ensures.looks c.check_conditions.ensures.looks) c.in_ok-place.ensures.ok in
    refused c.args.longest c.args.headers.now c.args.body.now c.args.path (wanted_of c.in_ok-wanted.wanted) c.in_ok-missing.missing g.R.Rng.stream
    c.args.session.now (c.in_ok-wanted.ensures.ok, not_last _ _ c.in_ok-check_moment.ensures.ok c.now.ensures) c.in_ok-missing.ensures.ok c.in_ok-place.place kept (spec.state g.R.Rng.stream c.grant.new.session) looks
    c.grant.result (course_before (segments c.args.path.bytes) c.args.headers.now c.find_room.ensures.looks c.in_ok-check_conditions.ensures.ok) c.grant.ensures.err

pub returns-clause-left : goal.returns-clause-left
returns-clause-left g c =
    let looks = looks_on (looks_thrice c.find_room.ensures.looks c.check_conditions.ensures.looks c.told_path.ensures.looks) c.tokens_above.ensures.looks in
    let kept = told_before c.args.path c.in_ok-place.place (looks_on c.find_room.ensures.looks c.check_conditions.ensures.looks) c.in_ok-place.ensures.ok in
    leaves c.args.longest c.args.headers.now c.args.body.now c.args.path (wanted_of c.in_ok-wanted.wanted) c.in_ok-missing.missing g.R.Rng.stream
    c.args.session.now (c.in_ok-wanted.ensures.ok, not_last _ _ c.in_ok-check_moment.ensures.ok c.now.ensures) c.in_ok-missing.ensures.ok c.in_ok-place.place kept (spec.state g.R.Rng.stream c.grant.new.session) looks
    c.grant.result c.grant.ensures.left

pub returns-clause-ran : goal.returns-clause-ran
returns-clause-ran g c =
    let looks = looks_on (looks_thrice c.find_room.ensures.looks c.check_conditions.ensures.looks c.told_path.ensures.looks) c.tokens_above.ensures.looks in
    ran_on (acts_ran (looks_act looks)) c.grant.ensures.ran

pub returns-in_err-place-clause-ran : goal.returns-in_err-place-clause-ran
returns-in_err-place-clause-ran g c =
    acts_ran (looks_act (looks_thrice c.find_room.ensures.looks c.check_conditions.ensures.looks c.told_path.ensures.looks))

pub returns-in_err-above-clause-ran : goal.returns-in_err-above-clause-ran
returns-in_err-above-clause-ran g c =
    acts_ran (looks_act (looks_on (looks_thrice c.find_room.ensures.looks c.check_conditions.ensures.looks c.told_path.ensures.looks) c.tokens_above.ensures.looks))

pub returns-in_err-wanted-clause-ran : goal.returns-in_err-wanted-clause-ran
returns-in_err-wanted-clause-ran g c = acts_ran (acts_none g.R.Rng.stream c.args.session.now)

pub returns-in_err-check_moment-clause-ran : goal.returns-in_err-check_moment-clause-ran
returns-in_err-check_moment-clause-ran g c = acts_ran (acts_none g.R.Rng.stream c.args.session.now)

pub returns-in_err-missing-clause-ran : goal.returns-in_err-missing-clause-ran
returns-in_err-missing-clause-ran g c = acts_ran (looks_act c.find_room.ensures.looks)

pub returns-in_err-missing-clause-left : goal.returns-in_err-missing-clause-left
returns-in_err-missing-clause-left g c =
    let p = err_from_is_err_and c.from_residual-in_err-missing.result c.from_residual-in_err-missing.ensures.1 in
    rw (p.1) (inl (c.find_room.ensures.looks.run, c.find_room.ensures.looks.live))

pub returns-in_err-check_conditions-clause-ran : goal.returns-in_err-check_conditions-clause-ran
returns-in_err-check_conditions-clause-ran g c = acts_ran (looks_act (looks_on c.find_room.ensures.looks c.check_conditions.ensures.looks))
