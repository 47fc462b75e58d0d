-- The pairs of a node's children, gathered along the list of them.
use Rattle.std.proofs.Common.{◌≡◌, ℕ, Bool, true, is_some, List, [], ◌∷◌, ◌++◌, map, Some, None, Option, refl, ap, sym, ◌∙◌, subst}
use Rattle.std.specs.Option.{option_map}
use Rattle.std.specs.List.{All}
use Rattle.std.proofs.lemmas.Bool.{false≢true}
use Rattle.std.proofs.lemmas.List.{map_push}
use Rattle.std.proofs.lemmas.List.Elements.{All-nil, All-push}
use Rattle.dav_path_core.specs.declared.tree.Node.{Node}
use Rattle.dav_path_core.specs.Keyed.{Keyed, entry, parent_and_key, parent_number, IsChild, IsKnown}
use Rattle.dav_path_core.specs.TreeValue.{TreeValue, first, after, IsTreeValue}
use Rattle.dav_path_core.specs.View.{tree_value_of}
use Rattle.dav_path_core.specs.Private.Nodes.{node_numbered}
use Rattle.dav_path_core.specs.Children.{IsChildNamed, ListsChildren}
use Rattle.dav_path_core.proofs.trees.Trees.{none≢some}
use Rattle.dav_path_core.proofs.children.Views.{entry-view}
use Rattle.dav_path_core.proofs.children.Walks.{Walk, walk_start, walk_next, walk_end}

module _ {K D : Type 0} where
  -- a walk along the children of p that stands at a number, with the pairs of those that it has passed
  pub record Gathered (eq : K → K → Bool) (t : TreeValue K D) (p : ℕ) (at : Option ℕ) (pairs : List (K × ℕ)) : Type 0 where
    pub walk : Walk t p at (map (λ q. q.1) pairs)
    pub named : All (IsChildNamed eq t p) pairs

  module _ (eq : K → K → Bool) (t : TreeValue K D) (p : ℕ) where
    pub gather_start : IsTreeValue eq t → IsKnown t.keyed p → Gathered eq t p (first t p) []
    gather_start shape known = record { walk = walk_start t p shape known; named = All-nil (IsChildNamed eq t p) }

    pub gather_next : (id : ℕ) (pairs : List (K × ℕ)) → Gathered eq t p (Some id) pairs → (name copy : K) → IsChild t.keyed p name id → eq name copy ≡ true → Gathered eq t p (after t id) (pairs ++ (copy, id) ∷ [])
    gather_next id pairs g name copy is same = record {
      walk = subst (Walk t p (after t id)) (sym (map_push (λ (q : K × ℕ). q.1) pairs (copy, id))) (walk_next t p id (map (λ q. q.1) pairs) g.walk);
      named = All-push (IsChildNamed eq t p) pairs (copy, id) g.named (name, is, same);
    }

    pub gather_end : (pairs : List (K × ℕ)) → Gathered eq t p None pairs → ListsChildren eq t p pairs
    gather_end pairs g = record { listed = walk_end t p (map (λ q. q.1) pairs) g.walk; named = g.named }

  module _ (es : List (ℕ × Node K D)) (next : ℕ) (t : TreeValue K D) (view : tree_value_of es next ≡ t) (n : ℕ) where
    -- where a node stands, the number is known
    pub known_there : (x : Node K D) → Some x ≡ node_numbered es n → IsKnown t.keyed n
    known_there x at = ap (λ t. is_some (entry t.keyed n)) (sym view) ∙ ap is_some (entry-view es next n (Some x) at)

    pub not_known : None ≡ node_numbered es n → IsKnown t.keyed n → ⊥
    not_known at known = false≢true (ap is_some (sym (entry-view es next n None at)) ∙ ap (λ t. is_some (entry t.keyed n)) view ∙ known)

    pub not_unknown : (x : Node K D) → Some x ≡ node_numbered es n → entry t.keyed n ≡ None → ⊥
    not_unknown x at none = false≢true (ap is_some (sym none) ∙ known_there x at)
