-- The names of a folder's children, gathered along the list of them.
use Rattle.std.proofs.Common.{◌≡◌, inl, inr, ℕ, true, List, [], ◌∷◌, ◌++◌, Option, Some, None, refl, sym, ap, ◌∙◌, subst, eqb}
use Rattle.std.specs.Option.{option_map}
use Rattle.std.specs.List.{list_any}
use Rattle.std.specs.Prelude.{nat_eq}
use Rattle.std.specs.Cmp.Lexicographic.{pointwise, bytes_decides}
use Rattle.std.specs.FinMap.{get, insert, empty, get-empty}
use Rattle.std.proofs.lemmas.Bool.{or_cases, eqb-true, false≢true}
use Rattle.std.proofs.lemmas.List.Folds.{list_any-append}
use Rattle.dav_path_core.specs.Fronts.{Segment, segment_cmp}
use Rattle.dav_path_core.specs.Keyed.{IsChild, IsKnown, child}
use Rattle.dav_path_core.specs.TreeValue.{TreeValue, IsTreeValue, first, after}
use Rattle.dav_path_core.specs.ChildIndex.{NumbersByName, is_key_named}
use Rattle.dav_path_core.proofs.lists.FinMaps.{dec, get_same, get_other}
use Rattle.dav_path_core.proofs.lists.Orders.{segment_total, segment_exact}
use Rattle.dav_path_core.proofs.trees.Trees.{none≢some, same_some}
use Rattle.dav_path_core.proofs.index.IndexLemmas.{only, nobody}
use Rattle.dav_path_core.proofs.children.Walks.{Walk, walk_start, walk_next, walk_end}

-- a walk along the children of p that stands at a number; the names are those of the children that it has passed
pub record Naming {D : Type 0} (t : TreeValue Segment D) (p : ℕ) (names : NumbersByName) (at : Option ℕ) : Type 0 where
  pub passed : List ℕ
  pub walk : Walk t p at passed
  pub has : (n : ℕ) (s : Segment) → list_any (eqb n) passed ≡ true → IsChild t.keyed p s n → get names s ≡ Some n
  pub all : (s : Segment) (n : ℕ) → get names s ≡ Some n → IsChild t.keyed p s n

module _ {D : Type 0} (t : TreeValue Segment D) (p : ℕ) (shape : IsTreeValue (pointwise nat_eq) t) where
  pub naming_start : IsKnown t.keyed p → Naming t p empty (first t p)
  naming_start known = record {
    passed = [];
    walk = walk_start t p shape known;
    has = λ n s h. absurd (false≢true h);
    all = λ s n is. absurd (none≢some n (sym (get-empty segment_cmp s) ∙ is));
  }

  pub naming_next : (names : NumbersByName) (id : ℕ) (k : Segment) → Naming t p names (Some id) → IsChild t.keyed p k id → Naming t p (insert names k id) (after t id)
  naming_next names id k w is = record {
    passed = w.passed ++ id ∷ [];
    walk = walk_next t p id w.passed w.walk;
    has = λ n s h child. elim (dec segment_total segment_exact s k) [
      | inl same ↦ ap (get (insert names k id)) same ∙ get_same segment_total segment_exact names k id
          ∙ ap (λ (x : ℕ). Some x) (shape.tree.distinct p k k id n is (subst (λ v. IsChild t.keyed p v n) same child) ((bytes_decides k k).1 refl))
      | inr ne ↦ get_other segment_total segment_exact names k id s ne ∙ elim (or_cases (list_any (eqb n) w.passed) (list_any (eqb n) (id ∷ [])) (sym (list_any-append (eqb n) w.passed (id ∷ [])) ∙ h)) [
        | inl before ↦ w.has n s before child
        | inr last ↦ elim (or_cases (eqb n id) _ last) [
          | inl this ↦ absurd (ne (ap (λ (v : ℕ × Segment). v.1) (same_some (p, s) (p, k) (sym (subst (λ v. IsChild t.keyed p s v) (eqb-true n id this) child) ∙ is))))
          | inr nowhere ↦ absurd (false≢true nowhere)
        ]
      ]
    ];
    all = λ s n h. elim (dec segment_total segment_exact s k) [
      | inl same ↦
          let this : id ≡ n = same_some id n (sym (ap (get (insert names k id)) same ∙ get_same segment_total segment_exact names k id) ∙ h) in
          subst (λ v. IsChild t.keyed p s v) this (subst (λ v. IsChild t.keyed p v id) (sym same) is)
      | inr ne ↦ w.all s n (sym (get_other segment_total segment_exact names k id s ne) ∙ h)
    ];
  }

  pub naming_end : (names : NumbersByName) → Naming t p names None → (s : Segment) → get names s ≡ child (is_key_named s) t.keyed p
  naming_end names w s =
      elim (get names s) as (λ o. get names s ≡ o → o ≡ child (is_key_named s) t.keyed p) [
        | Some n ↦ λ some. sym (only t.keyed shape.tree.distinct p n s (w.all s n some))
        | None ↦ λ none. sym (nobody t.keyed p s (λ n is. none≢some n (sym none ∙ w.has n s (((walk_end t p w.passed w.walk).members n).1 (ap (option_map (λ q. q.0)) is)) is)))
      ] refl
