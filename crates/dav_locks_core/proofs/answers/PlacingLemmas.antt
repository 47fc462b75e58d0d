-- A tree of locks in which a place for one more is opened, and taken or given up.
use Rattle.std.proofs.Common.{◌≡◌, ℕ, ◌+◌, List, [], ◌∷◌, ◌++◌, Option, None, subst}
use Rattle.dav_path_core.specs.Fronts.{Path}
use Rattle.dav_path_core.specs.Keyed.{with_item}
use Rattle.dav_locks_core.specs.Lock.{Lock}
use Rattle.dav_locks_core.specs.Locks.{lock_path, lock_conflicts}
use Rattle.dav_locks_core.specs.Private.NotedEnds.{Ends, IsKeyOf, Notes, IsNotedTree}
use Rattle.dav_locks_core.specs.Private.LockTree.{LockTree, locks_at, lock_list}
use Rattle.dav_locks_core.specs.Private.LockPlaces.{IsPlace, IsPruned}
use Rattle.dav_locks_core.specs.Private.Pruning.{AllNeeded, SameLocks}
use Rattle.dav_locks_core.proofs.answers.LockListLemmas.{kept-same, kept-grant}
use Rattle.dav_locks_core.proofs.ends.EndLemmas.{cases_key, ends-same, ends-grant, none_for_next, undone}
use Rattle.dav_locks_core.proofs.trees.PruningLemmas.{SameLocks-trans}

-- the tree and the ends keep what they ought to, and are seen as these locks
pub record KeptAs (t : LockTree) (next : ℕ) (ends : Ends) (locks : List Lock) : Type 0 where
  pub kept : IsNotedTree t next ends
  pub seen : lock_list t ≡ locks

module _ (t : LockTree) (next : ℕ) (old : Ends) (keeps : IsNotedTree t next old) where
  pub kept_left : (u : LockTree) (new : Ends) (locks : List Lock) → lock_list t ≡ locks → IsPruned t u old new → KeptAs u next new locks
  kept_left u new locks seen left =
      let k = kept-same t u next locks keeps.tree seen left.same left.needed in
      record {
        kept = record { tree = k.keeps; are_ends = ends-same t next keeps.tree old keeps.are_ends u new left.same left.ends };
        seen = k.seen;
      }

  pub place_taken : (v u : LockTree) (mid : Ends) (n : ℕ) (l : Lock) (locks : List Lock) → lock_list t ≡ locks → IsPlace t v old mid (lock_path l) l.timeout_at next n
      → lock_conflicts locks (lock_path l) l.shared l.deep ≡ [] → u ≡ with_item v n (locks_at v n ++ (next, l) ∷ []) → KeptAs u (next + 1) mid (locks ++ l ∷ [])
  place_taken v u mid n l locks seen place free is =
      let k = kept-grant t v u next n l locks keeps.tree seen place.same place.leads place.known place.needed free is in
      record {
        kept = record { tree = k.keeps; are_ends = ends-grant t next keeps.tree old keeps.are_ends v u mid n l place.same place.known is place.noted };
        seen = k.seen;
      }

  pub place_given_up : (v w u : LockTree) (mid new : Ends) (p : Path) (end : Option ℕ) (n : ℕ) → IsPlace t v old mid p end next n → w ≡ v → SameLocks w u → AllNeeded u → Notes mid new end next None → IsPruned t u old new
  place_given_up v w u mid new p end n place is same needed forgotten = record {
    same = SameLocks-trans t v u place.same (subst (λ w. SameLocks w u) is same);
    needed = needed;
    ends = undone (IsKeyOf end) (cases_key end) old mid new next n (none_for_next t next keeps.tree old keeps.are_ends) place.noted forgotten;
  }
