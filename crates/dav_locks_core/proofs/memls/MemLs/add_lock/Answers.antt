use Rattle.std.proofs.Common.{◌≡◌, ◌+◌, [], ◌∷◌, ◌++◌, sym, subst}
use Rattle.dav_locks_core.specs.Locks.{lock_path, lock_conflicts}
use Rattle.dav_locks_core.specs.Private.LockPlaces.{IsPlace}
use Rattle.dav_locks_core.proofs.answers.LockListLemmas.{on_err}
use Rattle.dav_locks_core.proofs.answers.PlacingLemmas.{KeptAs, kept_left, place_taken, place_given_up}
use Rattle.dav_locks_core.proofs.ends.EndLemmas.{none_for_next}
use Rattle.dav_locks_core.proofs.memls.MemLs.add_lock.Given.{Over}
use Rattle.dav_locks_core.proofs.memls.MemLs.add_lock.Goals as goal

pub open_place-requires-clause-fresh : goal.open_place-requires-clause-fresh
open_place-requires-clause-fresh g c = none_for_next c.self.inside.tree.keyed c.self.inside.next c.self.invariant.kept.tree c.self.inside.ends c.self.invariant.kept.are_ends

-- no place
left : (g : Over) (c : goal.After-from_residual-in_err-node g) → KeptAs c.open_place.new.tree.keyed c.self.inside.next c.open_place.new.ends c.args.self.now
left g c = kept_left c.self.inside.tree.keyed c.self.inside.next c.self.inside.ends c.self.invariant.kept c.open_place.new.tree.keyed c.open_place.new.ends c.args.self.now c.self.view_is c.in_err-node.ensures.left

pub invariant_of-self : goal.invariant_of-self
invariant_of-self g c = record { kept = (left g c).kept; indexed = c.open_place.ensures.indexed }

pub returns-in_err-node-clause-unchanged : goal.returns-in_err-node-clause-unchanged
returns-in_err-node-clause-unchanged g c = on_err c.from_residual-in_err-node.result (left g c).seen

pub returns-in_err-node-clause-exclusive : goal.returns-in_err-node-clause-exclusive
returns-in_err-node-clause-exclusive g c = (left g c).kept.tree.list.exclusive

-- the lock stands there
taken : (g : Over) (c : goal.After-self-1 g) → KeptAs c.grant.new.tree.keyed (c.self.inside.next + 1) c.open_place.new.ends (c.args.self.now ++ c.in-Ok.lock ∷ [])
taken g c =
    let place = subst (λ l. IsPlace c.self.inside.tree.keyed c.open_place.new.tree.keyed c.self.inside.ends c.open_place.new.ends (lock_path l) l.timeout_at c.self.inside.next c.in_ok-node.node) (sym c.in-Ok.ensures.granted) c.in_ok-node.ensures.open in
    let free = subst (λ l. lock_conflicts c.args.self.now (lock_path l) l.shared l.deep ≡ []) (sym c.in-Ok.ensures.granted) c.in_ok-check_wanted.ensures.free in
    place_taken c.self.inside.tree.keyed c.self.inside.next c.self.inside.ends c.self.invariant.kept c.open_place.new.tree.keyed c.grant.new.tree.keyed c.open_place.new.ends c.in_ok-node.node c.in-Ok.lock c.args.self.now c.self.view_is place free c.in-Ok.ensures.added

pub invariant_of-self-in-Ok : goal.invariant_of-self-in-Ok
invariant_of-self-in-Ok g c = record { kept = (taken g c).kept; indexed = c.grant.ensures.indexed c.open_place.new.index c.open_place.ensures.indexed }

pub returns-in-Ok-clause-added : goal.returns-in-Ok-clause-added
returns-in-Ok-clause-added g c = (taken g c).seen

pub returns-in-Ok-clause-exclusive : goal.returns-in-Ok-clause-exclusive
returns-in-Ok-clause-exclusive g c = (taken g c).kept.tree.list.exclusive

-- there is no memory for it
given_up : (g : Over) (c : goal.After-give_up_place g) → KeptAs c.give_up_place.new.tree.keyed c.self.inside.next c.give_up_place.new.ends c.args.self.now
given_up g c =
    kept_left c.self.inside.tree.keyed c.self.inside.next c.self.inside.ends c.self.invariant.kept c.give_up_place.new.tree.keyed c.give_up_place.new.ends c.args.self.now c.self.view_is
    (place_given_up c.self.inside.tree.keyed c.self.inside.next c.self.inside.ends c.self.invariant.kept c.open_place.new.tree.keyed c.grant.new.tree.keyed c.give_up_place.new.tree.keyed c.open_place.new.ends c.give_up_place.new.ends _ _ c.in_ok-node.node c.in_ok-node.ensures.open c.in-Err.ensures.unchanged c.give_up_place.ensures.same c.give_up_place.ensures.needed c.give_up_place.ensures.forgotten)

pub invariant_of-self-in-Err : goal.invariant_of-self-in-Err
invariant_of-self-in-Err g c = record { kept = (given_up g c).kept; indexed = c.give_up_place.ensures.indexed }

pub returns-in-Err-clause-unchanged : goal.returns-in-Err-clause-unchanged
returns-in-Err-clause-unchanged g c = (given_up g c).seen

pub returns-in-Err-clause-exclusive : goal.returns-in-Err-clause-exclusive
returns-in-Err-clause-exclusive g c = (given_up g c).kept.tree.list.exclusive
