use Rattle.std.proofs.Common.{◌≡◌, ◌+◌, [], ◌∷◌, ◌++◌, IfErr, sym, subst}
use Rattle.std.proofs.lemmas.Result.{err_from_is_err_and}
use Rattle.dav_locks_core.specs.Calls.{Shows}
use Rattle.dav_locks_core.specs.Locks.{lock_path, lock_conflicts}
use Rattle.dav_locks_core.specs.Private.LockPlaces.{IsPlace}
use Rattle.dav_locks_core.proofs.answers.LockListLemmas.{on_err}
use Rattle.dav_locks_core.proofs.answers.PlacingLemmas.{KeptAs, kept_left, place_taken, place_given_up}
use Rattle.dav_locks_core.proofs.ends.EndLemmas.{none_for_next}
use Rattle.dav_locks_core.proofs.memls.MemLs.restore.Goals as goal

pub returns-in_err-check_wanted-clause-shown : goal.returns-in_err-check_wanted-clause-shown
returns-in_err-check_wanted-clause-shown c =
    let l = c.args.lock in
    let p = err_from_is_err_and c.from_residual.result c.from_residual.ensures.1 in
    subst (λ r. IfErr r (Shows (lock_conflicts c.args.self.now (lock_path l) l.shared l.deep))) (sym p.1)
    (subst (Shows (lock_conflicts c.args.self.now (lock_path l) l.shared l.deep)) (sym p.2)
    (subst (λ l. Shows (lock_conflicts c.args.self.now (lock_path l) l.shared l.deep) c.in_err-check_wanted.field-0.0) c.lock.view_is c.in_err-check_wanted.ensures.shown))

pub open_place-requires-clause-fresh : goal.open_place-requires-clause-fresh
open_place-requires-clause-fresh c = none_for_next c.self.inside.tree.keyed c.self.inside.next c.self.invariant.kept.tree c.self.inside.ends c.self.invariant.kept.are_ends

-- no place
left : (c : goal.Joined-lock-4) → KeptAs c.open_place.new.tree.keyed c.self.inside.next c.open_place.new.ends c.args.self.now
left c = kept_left c.self.inside.tree.keyed c.self.inside.next c.self.inside.ends c.self.invariant.kept c.open_place.new.tree.keyed c.open_place.new.ends c.args.self.now c.self.view_is c.in_err-node.ensures.left

pub invariant_of-self : goal.invariant_of-self
invariant_of-self c = record { kept = (left c).kept; indexed = c.open_place.ensures.indexed }

pub returns-in_err-node-clause-unchanged : goal.returns-in_err-node-clause-unchanged
returns-in_err-node-clause-unchanged c = on_err c.from_residual-in_err-node.result (left c).seen

pub returns-in_err-node-clause-exclusive : goal.returns-in_err-node-clause-exclusive
returns-in_err-node-clause-exclusive c = (left c).kept.tree.list.exclusive

-- the lock stands there
taken : (c : goal.After-self-1) → KeptAs c.push_lock.new.tree.keyed (c.self.inside.next + 1) c.open_place.new.ends (c.args.self.now ++ c.args.lock ∷ [])
taken c =
    let place = subst (λ l. IsPlace c.self.inside.tree.keyed c.open_place.new.tree.keyed c.self.inside.ends c.open_place.new.ends (lock_path l) l.timeout_at c.self.inside.next c.in_ok-node.node) c.lock.view_is c.in_ok-node.ensures.open in
    let free = subst (λ l. lock_conflicts c.args.self.now (lock_path l) l.shared l.deep ≡ []) c.lock.view_is c.in_ok-check_wanted.ensures.free in
    place_taken c.self.inside.tree.keyed c.self.inside.next c.self.inside.ends c.self.invariant.kept c.open_place.new.tree.keyed c.push_lock.new.tree.keyed c.open_place.new.ends c.in_ok-node.node c.args.lock c.args.self.now c.self.view_is place free c.in-Ok.ensures.added

pub invariant_of-self-in-Ok : goal.invariant_of-self-in-Ok
invariant_of-self-in-Ok c = record { kept = (taken c).kept; indexed = c.push_lock.ensures.indexed c.open_place.new.index c.open_place.ensures.indexed }

pub returns-in-Ok-clause-added : goal.returns-in-Ok-clause-added
returns-in-Ok-clause-added c = (taken c).seen

pub returns-in-Ok-clause-exclusive : goal.returns-in-Ok-clause-exclusive
returns-in-Ok-clause-exclusive c = (taken c).kept.tree.list.exclusive

-- there is no memory for it
given_up : (c : goal.After-give_up_place) → KeptAs c.give_up_place.new.tree.keyed c.self.inside.next c.give_up_place.new.ends c.args.self.now
given_up c =
    kept_left c.self.inside.tree.keyed c.self.inside.next c.self.inside.ends c.self.invariant.kept c.give_up_place.new.tree.keyed c.give_up_place.new.ends c.args.self.now c.self.view_is
    (place_given_up c.self.inside.tree.keyed c.self.inside.next c.self.inside.ends c.self.invariant.kept c.open_place.new.tree.keyed c.push_lock.new.tree.keyed c.give_up_place.new.tree.keyed c.open_place.new.ends c.give_up_place.new.ends _ _ c.in_ok-node.node c.in_ok-node.ensures.open c.in-Err.ensures.unchanged c.give_up_place.ensures.same c.give_up_place.ensures.needed c.give_up_place.ensures.forgotten)

pub invariant_of-self-in-Err : goal.invariant_of-self-in-Err
invariant_of-self-in-Err c = record { kept = (given_up c).kept; indexed = c.give_up_place.ensures.indexed }

pub returns-in-Err-clause-unchanged : goal.returns-in-Err-clause-unchanged
returns-in-Err-clause-unchanged c = (given_up c).seen

pub returns-in-Err-clause-exclusive : goal.returns-in-Err-clause-exclusive
returns-in-Err-clause-exclusive c = (given_up c).kept.tree.list.exclusive
