-- A tree of locks by what is noted of their numbers and nodes: that is its list.
use Rattle.std.proofs.Common.{◌≡◌, ℕ, List, [], ◌∷◌, Option, Some, None, is_some, refl, sym, ap, ◌∙◌}
use Rattle.std.specs.Prelude.{option_and_then}
use Rattle.std.specs.BTreeMap.{keys, get}
use Rattle.std.specs.Cmp.{nat_cmp_total}
use Rattle.std.specs.FinMap.{find, nat_cmp-IsAntisymmetric}
use Rattle.std.specs.FinMap.Entries.{same_entries}
use Rattle.std.specs.List.{All}
use Rattle.std.specs.List.Sorted.{IsStrictlySortedBy}
use Rattle.std.specs.Ordering.{nat_cmp}
use Rattle.std.proofs.lemmas.List.Elements.{recursion_from_All}
use Rattle.dav_path_core.proofs.trees.Trees.{none≢some}
use Rattle.dav_locks_core.specs.Lock.{Lock}
use Rattle.dav_locks_core.specs.Private.NotedEnds.{Ends, IsNotedTree}
use Rattle.dav_locks_core.specs.Private.LockTree.{LockTree, locks_at, all_granted, locks_of, lock_list}
use Rattle.dav_locks_core.specs.Private.LockRepresents.{Represents}
use Rattle.dav_locks_core.specs.Private.LockWalking.{AllThere, locks_by, with_lock_first}
use Rattle.dav_locks_core.proofs.lists.NumberedLemmas.{InOrder, with_value, values_by, InOrder-values, find-values, found_in_map, InOrder-map}

abbrev stands : LockTree → ℕ → ℕ → Option Lock
stands t g n = find nat_cmp g (locks_at t n)

pub none_by : (t : LockTree) → locks_by t [] ≡ []
unfolding locks_by
none_by t = refl

pub first_by : (t : LockTree) (p : ℕ × ℕ) (places : List (ℕ × ℕ)) (l : Lock) → find nat_cmp p.0 (locks_at t p.1) ≡ Some l → locks_by t (p ∷ places) ≡ l ∷ locks_by t places
unfolding locks_by
first_by t p places l found = ap (λ o. with_lock_first o (locks_by t places)) found

locks_of_values : (t : LockTree) (places : List (ℕ × ℕ)) → locks_by t places ≡ locks_of (values_by (stands t) places)
unfolding locks_by values_by
locks_of_values t [] = refl
locks_of_values t (p ∷ places) = by (locks_of_values t places) (find nat_cmp p.0 (locks_at t p.1))
  where
    by : locks_by t places ≡ locks_of (values_by (stands t) places) → (o : Option Lock) → with_lock_first o (locks_by t places) ≡ locks_of (with_value (stands t) p.0 o (values_by (stands t) places))
    by rest None = rest
    by rest (Some l) = ap (λ r. l ∷ r) rest

module _ (t : LockTree) (next : ℕ) (ends : Ends) (keeps : IsNotedTree t next ends) where
  pub all_stand : All (λ e. get nat_cmp ends.nodes e.0 ≡ Some e.1) ends.nodes.entries → AllThere t ends.nodes.entries
  all_stand found = record {
    in_order = keeps.tree.list.represents.nodes_in_order;
    stand = recursion_from_All _ ends.nodes.entries (λ k d lt. ap is_some (keeps.are_ends.only None _ _ (found k d lt)).1);
  }

  found_all : (q : ℕ) → option_and_then (stands t q) (find nat_cmp q ends.nodes.entries) ≡ find nat_cmp q (all_granted t)
  found_all q = by (find nat_cmp q ends.nodes.entries) refl
    where
      r : Represents t (all_granted t) next
      r = keeps.tree.list.represents

      none : (o : Option Lock) → find nat_cmp q (all_granted t) ≡ o → find nat_cmp q ends.nodes.entries ≡ None → None ≡ o
      none None h e = refl
      none (Some l) h e =
          let w = r.stands q l h in
          absurd (none≢some w.0 (sym e ∙ sym (found_in_map ends.nodes.entries q) ∙ keeps.are_ends.noted None q w.0 l w.1 tt))

      by : (o : Option ℕ) → find nat_cmp q ends.nodes.entries ≡ o → option_and_then (stands t q) o ≡ find nat_cmp q (all_granted t)
      by None e = none (find nat_cmp q (all_granted t)) refl e
      by (Some n) e =
          let w = keeps.are_ends.only None q n (found_in_map ends.nodes.entries q ∙ e) in
          w.1 ∙ sym (r.listed n q w.0 w.1).0

  pub all_walked : IsStrictlySortedBy nat_cmp (keys ends.nodes) → locks_by t ends.nodes.entries ≡ lock_list t
  all_walked ordered =
      let places = ends.nodes.entries in
      let sorted : InOrder places = InOrder-map places ordered in
      locks_of_values t places
      ∙ ap locks_of (same_entries nat_cmp nat_cmp_total nat_cmp-IsAntisymmetric (values_by (stands t) places) (all_granted t) (InOrder-values (stands t) places sorted) keeps.tree.list.represents.in_order
      (λ q. find-values (stands t) places q sorted ∙ found_all q))
