use Rattle.std.proofs.Common.{◌≡◌, ◌+◌, ℕ, [], length, option_map, string_bytes, sym, subst}
use Rattle.dav_notes_core.specs.Costs.{cost_for}
use Rattle.dav_guarded_core.specs.Requests.{Command}
use Rattle.std.proofs.lemmas.Result.{err_from_is_err_and}
use Rattle.dav_path_core.specs.PathText.{PathText}
use Rattle.dav_path_core.specs.Segments.{segments}
use Rattle.dav_locks_core.specs.Locks.{lock_conflicts}
use Rattle.dav_guarded_core.specs.Step.{State}
use Rattle.dav_session_core.specs.Callers.{Caller, live}
use Rattle.dav_session_core.specs.Granting.{IsConflictOf, granted_lock, with_lock}
use Rattle.dav_session_core.specs.Sessions as spec
use Rattle.dav_session_core.proofs.Looking.{from_before, looks_before, looks_on, requests_of, requests_on}
use Rattle.dav_methods_core.specs.Rooms.{IsConflictAt, wanted_of}
use Rattle.dav_methods_core.proofs.LockLemmas.{conflict_placed}
use Rattle.dav_methods_core.proofs.LockRoomLemmas.{granted_token_len}
use Rattle.dav_methods_core.proofs.methods.lock.granted.Goals as goal

pub returns-in_err-make_room_to_lock-clause-refused : goal.returns-in_err-make_room_to_lock-clause-refused
returns-in_err-make_room_to_lock-clause-refused g c =
    let q = err_from_is_err_and c.from_residual.result c.from_residual.ensures.1 in
    rw q.1 (looks_before c.make_room_to_lock.ensures.same)

pub returns-in_err-make_room_to_lock-clause-requests : goal.returns-in_err-make_room_to_lock-clause-requests
returns-in_err-make_room_to_lock-clause-requests g c = requests_of (looks_before c.make_room_to_lock.ensures.same)

pub returns-in_err-place-clause-refused : goal.returns-in_err-place-clause-refused
returns-in_err-place-clause-refused g c =
    let q = err_from_is_err_and c.from_residual-in_err-place.result c.from_residual-in_err-place.ensures.1 in
    rw q.1 (looks_before c.make_room_to_lock.ensures.same)

pub returns-in_err-place-clause-requests : goal.returns-in_err-place-clause-requests
returns-in_err-place-clause-requests g c = requests_of (looks_before c.make_room_to_lock.ensures.same)

pub returns-in_err-by_place-in-Err-clause-refused : goal.returns-in_err-by_place-in-Err-clause-refused
returns-in_err-by_place-in-Err-clause-refused g c =
    let q = err_from_is_err_and c.from_residual-in_err-by_place-in-Err.result c.from_residual-in_err-by_place-in-Err.ensures.1 in
    rw q.1 (looks_on (looks_before c.make_room_to_lock.ensures.same) c.in-Err.ensures.refused)

pub returns-in_err-by_place-in-Err-clause-requests : goal.returns-in_err-by_place-in-Err-clause-requests
returns-in_err-by_place-in-Err-clause-requests g c = requests_on (looks_before c.make_room_to_lock.ensures.same) c.grant.ensures.requests

pub returns-in-Ok-clause-ok : goal.returns-in-Ok-clause-ok
returns-in-Ok-clause-ok g c =
    let who = spec.caller c.args.session.now in
    let s = spec.state g.R.Rng.stream c.args.session.now in
    let wanted = wanted_of c.args.wanted in
    let lock_of : PathText → Caller → State → Type 0 = λ p w t. c.in-Ok.lock ≡ granted_lock (live w.now t) w p wanted.owner wanted.timeout wanted.shared wanted.deep in
    subst (λ (p : PathText). lock_of p who s) c.in_ok-place.ensures (from_before (lock_of c.in_ok-place.place) c.make_room_to_lock.ensures.same c.in-Ok.ensures.ok)

pub returns-in-Ok-clause-left : goal.returns-in-Ok-clause-left
returns-in-Ok-clause-left g c =
    from_before (λ w t. spec.state g.R.Rng.stream c.grant.new.self ≡ with_lock (live w.now t) c.in-Ok.lock) c.make_room_to_lock.ensures.same c.in-Ok.ensures.left

pub returns-in-Ok-clause-free : goal.returns-in-Ok-clause-free
returns-in-Ok-clause-free g c =
    let who = spec.caller c.args.session.now in
    let s = spec.state g.R.Rng.stream c.args.session.now in
    let free_at : PathText → Caller → State → Type 0 = λ p w t. lock_conflicts (live w.now t).locks (segments p.bytes) c.args.wanted.shared c.args.wanted.deep ≡ [] in
    subst (λ (p : PathText). free_at p who s) c.in_ok-place.ensures (from_before (free_at c.in_ok-place.place) c.make_room_to_lock.ensures.same c.in-Ok.ensures.free)

pub returns-in-Ok-clause-requests : goal.returns-in-Ok-clause-requests
returns-in-Ok-clause-requests g c = requests_on (looks_before c.make_room_to_lock.ensures.same) c.grant.ensures.requests

pub returns-in-Ok-clause-room : goal.returns-in-Ok-clause-room
returns-in-Ok-clause-room g c =
    let who = spec.caller c.args.session.now in
    let mid = spec.caller c.make_room_to_lock.new.self in
    let path = c.args.path.now in
    let owner = option_map string_bytes c.args.wanted.owner in
    let token = c.in-Ok.lock.token in
    let back : Caller → ℕ = λ w. cost_for w (Command.Unlock (segments path.bytes) token) in
    let Both : PathText → Caller → ℕ = λ p w. cost_for w (Command.Unlock (segments path.bytes) token) + cost_for w (Command.Lock p owner c.args.wanted.timeout c.args.wanted.shared c.args.wanted.deep) in
    let long : length token ≡ 45 = granted_token_len (live who.now (spec.state g.R.Rng.stream c.args.session.now)) who path owner c.args.wanted.timeout c.args.wanted.shared c.args.wanted.deep
    c.in-Ok.lock (returns-in-Ok-clause-ok g c) in
    let room = subst (λ (p : PathText). spec.HasRoomForNotes 2 (Both p mid) c.make_room_to_lock.new.self) (sym c.in_ok-place.ensures)
    (c.in_ok-make_room_to_lock.ensures.ok c.args.wanted.timeout c.args.wanted.shared c.args.wanted.deep token long) in
    subst (λ (w : Caller). spec.HasRoomForNotes 1 (back w) c.grant.new.self) (sym c.grant.ensures.requests.who) (c.grant.ensures.room 1 (back mid) room)

pub returns-in_ok-by_place-in-Err-clause-err : goal.returns-in_ok-by_place-in-Err-clause-err
returns-in_ok-by_place-in-Err-clause-err g c =
    let who = spec.caller c.args.session.now in
    let s = spec.state g.R.Rng.stream c.args.session.now in
    let in_way : PathText → Caller → State → Type 0 = λ p w t. IsConflictOf (lock_conflicts (live w.now t).locks (segments p.bytes) c.args.wanted.shared c.args.wanted.deep) c.in-Err.fault in
    let told = subst (λ (p : PathText). in_way p who s) c.in_ok-place.ensures (from_before (in_way c.in_ok-place.place) c.make_room_to_lock.ensures.same c.in-Err.ensures.err) in
    subst (IsConflictAt (lock_conflicts (live who.now s).locks (segments c.args.path.now.bytes) c.args.wanted.shared c.args.wanted.deep) c.args.path.now) (sym c.in_ok-by_place-in-Err.ensures)
    (conflict_placed _ c.args.path.now c.in-Err.fault told)

pub returns-in_ok-by_place-in-Err-clause-refused : goal.returns-in_ok-by_place-in-Err-clause-refused
returns-in_ok-by_place-in-Err-clause-refused g c = looks_on (looks_before c.make_room_to_lock.ensures.same) c.in-Err.ensures.refused

pub returns-in_ok-by_place-in-Err-clause-requests : goal.returns-in_ok-by_place-in-Err-clause-requests
returns-in_ok-by_place-in-Err-clause-requests g c = requests_on (looks_before c.make_room_to_lock.ensures.same) c.grant.ensures.requests
