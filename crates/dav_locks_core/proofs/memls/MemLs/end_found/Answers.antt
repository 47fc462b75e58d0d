use Rattle.std.proofs.Common.{◌≡◌, Some, None, get_or, ap, sym, refl, ◌∙◌, subst}
use Rattle.std.specs.Prelude.{remove, option_map}
use Rattle.dav_path_core.specs.Segments.{segments}
use Rattle.dav_locks_core.specs.Locks.{found_token}
use Rattle.dav_locks_core.specs.Private.LockTree.{locks_at, lock_list}
use Rattle.dav_locks_core.specs.Private.NotedEnds.{Notes}
use Rattle.dav_locks_core.proofs.ends.EndLemmas.{ends-end}
use Rattle.dav_locks_core.proofs.answers.LockListLemmas.{place_within, some_granted, Ends, IsKeptAs, seen-end, kept-end, none_found}
use Rattle.dav_locks_core.proofs.memls.MemLs.end_found.Goals as goal

pub end_at-number-requires : goal.end_at-number-requires
end_at-number-requires c =
    place_within c.self.inside.tree.keyed c.self.inside.next c.in-Some.node c.in-Some.place (segments c.args.path.now.bytes) c.args.token.now c.self.invariant.kept.tree.list (sym c.in-Some.ensures)

pub end_lock-requires : goal.end_lock-requires
end_lock-requires c =
    place_within c.self.inside.tree.keyed c.self.inside.next c.in-Some.node c.in-Some.place (segments c.args.path.now.bytes) c.args.token.now c.self.invariant.kept.tree.list (sym c.in-Some.ensures)

pub prune-requires-clause-shape : goal.prune-requires-clause-shape
prune-requires-clause-shape c = let e = seen-end c.self.inside.tree.keyed c.end_lock.new.tree.keyed c.self.inside.next c.in-Some.node c.in-Some.place (segments c.args.path.now.bytes) c.args.token.now c.self.invariant.kept.tree (sym c.in-Some.ensures) c.end_lock.ensures.set in e.ends.after.keeps.represents.tree

pub prune-requires-clause-known : goal.prune-requires-clause-known
prune-requires-clause-known c = let e = seen-end c.self.inside.tree.keyed c.end_lock.new.tree.keyed c.self.inside.next c.in-Some.node c.in-Some.place (segments c.args.path.now.bytes) c.args.token.now c.self.invariant.kept.tree (sym c.in-Some.ensures) c.end_lock.ensures.set in e.ends.known

pub prune-requires-clause-needed : goal.prune-requires-clause-needed
prune-requires-clause-needed c = let e = seen-end c.self.inside.tree.keyed c.end_lock.new.tree.keyed c.self.inside.next c.in-Some.node c.in-Some.place (segments c.args.path.now.bytes) c.args.token.now c.self.invariant.kept.tree (sym c.in-Some.ensures) c.end_lock.ensures.set in e.ends.needed

ends : (c : goal.After-prune) → Ends c.self.inside.tree.keyed c.end_lock.new.tree.keyed c.self.inside.next c.in-Some.node (segments c.args.path.now.bytes) c.args.token.now
ends c = seen-end c.self.inside.tree.keyed c.end_lock.new.tree.keyed c.self.inside.next c.in-Some.node c.in-Some.place (segments c.args.path.now.bytes) c.args.token.now c.self.invariant.kept.tree (sym c.in-Some.ensures) c.end_lock.ensures.set

ended : (c : goal.After-prune) → IsKeptAs c.prune.new.tree.keyed c.self.inside.next (remove (lock_list c.self.inside.tree.keyed) (ends c).at)
ended c =
    kept-end c.self.inside.tree.keyed c.end_lock.new.tree.keyed c.prune.new.tree.keyed c.self.inside.next c.in-Some.node (ends c).at (ends c).ends c.prune.ensures.same c.prune.ensures.needed

pub invariant_of-self : goal.invariant_of-self
invariant_of-self c =
    let g = get_or (locks_at c.self.inside.tree.keyed c.in-Some.node) c.in-Some.place some_granted in
    let within = place_within c.self.inside.tree.keyed c.self.inside.next c.in-Some.node c.in-Some.place (segments c.args.path.now.bytes) c.args.token.now c.self.invariant.kept.tree.list (sym c.in-Some.ensures) in
    let forgotten : Notes c.self.inside.ends c.forget.new.ends g.1.timeout_at g.0 None =
    subst (λ end. Notes c.self.inside.ends c.forget.new.ends end g.0 None) (c.end_at-number.ensures.end some_granted)
    (subst (λ number. Notes c.self.inside.ends c.forget.new.ends (option_map (λ m. m.0) c.end_at-number.result.1) number None) (c.end_at-number.ensures.number some_granted) c.forget.ensures) in
    record {
      kept = record {
        tree = (ended c).keeps;
        are_ends = ends-end c.self.inside.tree.keyed c.self.inside.next c.self.invariant.kept.tree c.self.inside.ends c.self.invariant.kept.are_ends c.end_lock.new.tree.keyed c.forget.new.ends c.in-Some.node c.in-Some.place some_granted within c.prune.new.tree.keyed c.end_lock.ensures.set c.prune.ensures.same forgotten;
      };
      indexed = c.prune.ensures.indexed;
    }

pub returns-in-None-clause-none : goal.returns-in-None-clause-none
returns-in-None-clause-none c =
    let none = none_found c.self.inside.tree.keyed c.self.inside.next (segments c.args.path.now.bytes) c.args.token.now c.self.invariant.kept.tree.list (sym c.in-None.ensures) in
    (subst (λ locks. found_token locks (segments c.args.path.now.bytes) c.args.token.now ≡ None) c.self.view_is none, refl)

pub returns-in-Some-clause-done : goal.returns-in-Some-clause-done
returns-in-Some-clause-done c =
    let at = (ends c).at in
    let is_found = (ends c).is_found in
    let seen = (ended c).seen in (
      at,
      subst (λ locks. found_token locks (segments c.args.path.now.bytes) c.args.token.now ≡ Some at) c.self.view_is is_found,
      seen ∙ ap (λ locks. remove locks at) c.self.view_is,
    )

pub returns-in-Some-clause-exclusive : goal.returns-in-Some-clause-exclusive
returns-in-Some-clause-exclusive c = (ended c).keeps.list.exclusive
