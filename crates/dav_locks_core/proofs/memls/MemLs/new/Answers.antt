use Rattle.std.proofs.Common.{◌≡◌, ℕ, [], ap, sym, subst, ◌∙◌}
use Rattle.dav_path_core.specs.ChildIndex.{IsIndex}
use Rattle.dav_path_core.specs.Keyed.{lone}
use Rattle.dav_path_core.proofs.index.IndexLemmas.{IsIndex-empty}
use Rattle.dav_locks_core.specs.Private.LockTree.{LockTree, locks_at}
use Rattle.dav_locks_core.proofs.ends.EndLemmas.{AreEnds-none}
use Rattle.dav_locks_core.proofs.trees.StandingLemmas.{lone-none}
use Rattle.dav_locks_core.proofs.trees.PruningLemmas.{lone_needed}
use Rattle.dav_locks_core.proofs.answers.LockListLemmas.{IsSeenAs, seen-none}
use Rattle.dav_locks_core.proofs.memls.MemLs.new.Goals as goal

nothing : (c : goal.After-new-4) → (n : ℕ) → locks_at c.in_ok-tree.tree.keyed n ≡ []
nothing c = λ n. ap (λ (t : LockTree). locks_at t n) (c.in_ok-tree.ensures.answer.1 ∙ ap lone c.new.ensures.items) ∙ lone-none n

empty : (c : goal.After-new-4) → IsSeenAs c.in_ok-tree.tree.keyed 1 []
empty c =
    seen-none c.in_ok-tree.tree.keyed 1 c.in_ok-tree.ensures.shape.tree
    (nothing c)

pub invariant_of-result : goal.invariant_of-result
invariant_of-result c = record {
  kept = record {
    tree = record { list = (empty c).keeps; needed = lone_needed c.in_ok-tree.tree.keyed c.new.result.items c.in_ok-tree.ensures.answer.1 };
    are_ends = AreEnds-none c.in_ok-tree.tree.keyed c.new-4.result (nothing c) c.new-4.ensures;
  };
  indexed = subst (IsIndex c.in_ok-tree.tree.keyed) (sym c.new-3.ensures) (IsIndex-empty c.in_ok-tree.tree.keyed);
}

pub returns-clause-empty : goal.returns-clause-empty
returns-clause-empty c = (empty c).seen

pub returns-clause-exclusive : goal.returns-clause-exclusive
returns-clause-exclusive c = (empty c).keeps.exclusive
