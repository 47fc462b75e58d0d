-- What a move that nothing refuses finds, once the node in its way is gone.
use Rattle.std.proofs.Common.{◌≡◌, ◌≢◌, ℕ, Bool, is_some, not, false, Some, None, ap, sym, ◌∙◌}
use Rattle.std.proofs.lemmas.Bool.{or_parts}
use Rattle.std.specs.Cmp.{IsEquivalence}
use Rattle.dav_path_core.specs.Keyed.{Keyed, child, has_child, is_kept, is_under, without_node, delete_refusal, move_refusal, IsKnown, IsTree}
use Rattle.dav_path_core.proofs.trees.Trees.{child-some, known_from_child}
use Rattle.dav_path_core.proofs.trees.KeyedCuts.{IsLeaf, leaf, entry-without}
use Rattle.dav_path_core.proofs.trees.KeyedMoves.{c_not_root, known_rest, outside_rest, free_rest}
use Rattle.dav_path_core.proofs.trees.Refusals.{delete-leaf, Allowed, allowed}

module _ {K D : Type 0} (eq : K → K → Bool) (laws : IsEquivalence eq) (t : Keyed K D) (n p : ℕ) (k : K) (overwrite : Bool) (tree : IsTree eq t)
    (none : move_refusal eq t n p k overwrite ≡ None) (c : ℕ) (at : child (eq k) t p ≡ Some c) (ne : c ≢ n) where
  is_allowed : Allowed t eq n p k overwrite
  is_allowed = allowed t eq n p k overwrite none

  no_child_c : has_child t c ≡ false
  no_child_c = (or_parts (not overwrite) (has_child t c) (sym (ap (is_kept t overwrite) at) ∙ is_allowed.replaceable)).1

  leaf_c : IsLeaf t c
  leaf_c = leaf t c no_child_c

  known_c : IsKnown t c
  known_c = let w = child-some t (eq k) p c at in known_from_child t p w.0 c w.1

  pub replaced-leaf : delete_refusal t c ≡ None
  replaced-leaf = delete-leaf t c known_c (c_not_root eq laws t n p k tree is_allowed.known is_allowed.known_parent is_allowed.not_root is_allowed.outside c at leaf_c ne) no_child_c

  pub replaced-known : IsKnown (without_node t c) n
  replaced-known = ap is_some ((entry-without t c).other n (λ e. ne (sym e))) ∙ is_allowed.known

  pub replaced-known_parent : IsKnown (without_node t c) p
  replaced-known_parent = known_rest eq laws t n p k tree is_allowed.known is_allowed.known_parent is_allowed.not_root is_allowed.outside c at leaf_c ne

  pub replaced-outside : is_under (without_node t c) n p ≡ false
  replaced-outside = outside_rest eq laws t n p k tree is_allowed.known is_allowed.known_parent is_allowed.not_root is_allowed.outside c at leaf_c ne

  pub replaced-free : child (eq k) (without_node t c) p ≡ None
  replaced-free = free_rest eq laws t n p k tree is_allowed.known is_allowed.known_parent is_allowed.not_root is_allowed.outside c at leaf_c ne
