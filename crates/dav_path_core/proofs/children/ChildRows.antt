-- Worked rows of the listing of children.
use Rattle.std.proofs.Common.{◌≡◌, ℕ, zero, suc, ◌||◌, ◌↔◌, true, false, cond, [], ◌∷◌, Some, None, Option, refl, ap, sym, ◌∙◌, subst, eqb, arith}
use Rattle.std.specs.Ordering.{nat_cmp, eq_by_cmp}
use Rattle.std.specs.Cmp.{nat_cmp_total, unsigned_tied}
use Rattle.std.specs.FinMap.{FinMap, get, insert, empty, get-empty, get-insert}
use Rattle.std.specs.List.{list_any, IsDistinct}
use Rattle.std.proofs.lemmas.Bool.{false≢true, ne_eqb}
use Rattle.std.proofs.lemmas.List.Elements.{All-nil, All-cons, All-head}
use Rattle.dav_path_core.specs.Keyed.{Entry, parent_and_key, parent_number}
use Rattle.dav_path_core.specs.TreeValue.{TreeValue, Links, Siblings, done, more, first, after, IsChildList}
use Rattle.dav_path_core.specs.Children.{IsChildNamed, ListsChildren}
use Rattle.dav_path_core.proofs.trees.Trees.{same_some, none≢some}

abbrev node : Option (ℕ × ℕ) → Entry ℕ ℕ
node at = record { parent_and_key = at; item = 0 }

abbrev leading : Option ℕ → Option ℕ → Links
leading f a = record { first = f; after = a }

-- 2 and 3 are the children of 1, at 7 and 8, and 4 is the child of 2, at 7
abbrev tree : TreeValue ℕ ℕ
tree = record {
  keyed = record {
    nodes = insert (insert (insert (insert empty 1 (node None)) 2 (node (Some (1, 7)))) 3 (node (Some (1, 8)))) 4 (node (Some (2, 7)));
    next = 5;
  };
  links = insert (insert (insert (insert empty 1 (leading (Some 3) None)) 2 (leading (Some 4) None)) 3 (leading None (Some 2))) 4 (leading None None);
}

node-insert : (m : FinMap nat_cmp (Entry ℕ ℕ)) (k : ℕ) (v : Entry ℕ ℕ) (q : ℕ) → get (insert m k v) q ≡ cond (eq_by_cmp nat_cmp q k) (Some v) (get m q)
node-insert = get-insert nat_cmp_total

node-empty : (q : ℕ) → get (empty {X = Entry ℕ ℕ} {R = nat_cmp}) q ≡ None
node-empty q = get-empty nat_cmp q

links-insert : (m : FinMap nat_cmp Links) (k : ℕ) (v : Links) (q : ℕ) → get (insert m k v) q ≡ cond (eq_by_cmp nat_cmp q k) (Some v) (get m q)
links-insert = get-insert nat_cmp_total

links-empty : (q : ℕ) → get (empty {X = Links} {R = nat_cmp}) q ≡ None
links-empty q = get-empty nat_cmp q

ruleset literals = (node-insert, node-empty, links-insert, links-empty)

apart : (q k : ℕ) → (q ≡ k → ⊥) → eq_by_cmp nat_cmp q k ≡ false
apart q k ne = unsigned_tied q k ∙ ne_eqb q k ne

first_of_root : first tree 1 ≡ Some 3
first_of_root = simp literals

after_three : after tree 3 ≡ Some 2
after_three = simp literals

after_two : after tree 2 ≡ None
after_two = simp literals

parent_and_key_of_two : parent_and_key tree.keyed 2 ≡ Some (1, 7)
parent_and_key_of_two = simp literals

parent_and_key_of_three : parent_and_key tree.keyed 3 ≡ Some (1, 8)
parent_and_key_of_three = simp literals

parent_of_zero : parent_number tree.keyed 0 ≡ None
parent_of_zero = simp literals

parent_of_root : parent_number tree.keyed 1 ≡ None
parent_of_root = simp literals

parent_of_two : parent_number tree.keyed 2 ≡ Some 1
parent_of_two = simp literals

parent_of_three : parent_number tree.keyed 3 ≡ Some 1
parent_of_three = simp literals

parent_of_four : parent_number tree.keyed 4 ≡ Some 2
parent_of_four = simp literals

parent_of_others : (n : ℕ) → parent_number tree.keyed (suc (suc (suc (suc (suc n))))) ≡ None
parent_of_others n =
    let above = suc (suc (suc (suc (suc n)))) in
    let not_4 = apart above 4 (λ e. absurd (omega (arith, e))) in
    let not_3 = apart above 3 (λ e. absurd (omega (arith, e))) in
    let not_2 = apart above 2 (λ e. absurd (omega (arith, e))) in
    let not_1 = apart above 1 (λ e. absurd (omega (arith, e))) in
    simp (literals, not_4, not_3, not_2, not_1)

outside : (n : ℕ) → list_any (eqb (suc (suc (suc (suc (suc n)))))) (3 ∷ 2 ∷ []) ≡ false
outside n =
    let above = suc (suc (suc (suc (suc n)))) in
    let not_3 = ne_eqb above 3 (λ e. absurd (omega (arith, e))) in
    let not_2 = ne_eqb above 2 (λ e. absurd (omega (arith, e))) in
    ap (λ b. b || list_any (eqb above) (2 ∷ [])) not_3 ∙ ap (λ b. b || false) not_2

members : (n : ℕ) → (list_any (eqb n) (3 ∷ 2 ∷ []) ≡ true) ↔ (parent_number tree.keyed n ≡ Some 1)
members zero = (λ h. absurd (false≢true h), λ e. absurd (none≢some 1 (sym parent_of_zero ∙ e)))
members (suc zero) = (λ h. absurd (false≢true h), λ e. absurd (none≢some 1 (sym parent_of_root ∙ e)))
members (suc (suc zero)) = (λ _. parent_of_two, λ _. refl)
members (suc (suc (suc zero))) = (λ _. parent_of_three, λ _. refl)
members (suc (suc (suc (suc zero)))) = (λ h. absurd (false≢true h), λ e. let same : 2 ≡ 1 = same_some 2 1 (sym parent_of_four ∙ e) in absurd (omega (arith, same)))
members (suc (suc (suc (suc (suc n))))) = (λ h. absurd (false≢true (sym (outside n) ∙ h)), λ e. absurd (none≢some 1 (sym (parent_of_others n) ∙ e)))

once : IsDistinct eqb (3 ∷ 2 ∷ [])
unfolding IsDistinct
once = ((refl, tt), (tt, tt))

children : IsChildList tree 1 (3 ∷ 2 ∷ [])
children = record {
  linked = subst (λ o. Siblings (after tree) o (3 ∷ 2 ∷ [])) (sym first_of_root)
      (more (subst (λ o. Siblings (after tree) o (2 ∷ [])) (sym after_three) (more (subst (λ o. Siblings (after tree) o []) (sym after_two) done))));
  once = once;
  members = members;
}

-- each child once, with its key
listed : ListsChildren eqb tree 1 ((8, 3) ∷ (7, 2) ∷ [])
listed = record {
  listed = children;
  named = All-cons (IsChildNamed eqb tree 1) (8, 3) ((7, 2) ∷ []) (8, parent_and_key_of_three, refl)
      (All-cons (IsChildNamed eqb tree 1) (7, 2) [] (7, parent_and_key_of_two, refl) (All-nil (IsChildNamed eqb tree 1)));
}

-- a child left out
not_left_out : ¬ ListsChildren eqb tree 1 ((8, 3) ∷ [])
not_left_out l = false≢true ((l.listed.members 2).1 parent_of_two)

-- a child's child
not_below : ¬ ListsChildren eqb tree 1 ((8, 3) ∷ (7, 2) ∷ (7, 4) ∷ [])
not_below l = let same : 2 ≡ 1 = same_some 2 1 (sym parent_of_four ∙ (l.listed.members 4).0 refl) in absurd (omega (arith, same))

-- a child twice
not_twice : ¬ ListsChildren eqb tree 1 ((8, 3) ∷ (7, 2) ∷ (7, 2) ∷ [])
unfolding IsDistinct
not_twice l = false≢true (sym l.listed.once.1.0.0)

-- a child under another's key
not_misnamed : ¬ ListsChildren eqb tree 1 ((7, 3) ∷ (7, 2) ∷ [])
not_misnamed l =
    let n = All-head (IsChildNamed eqb tree 1) (7, 3) ((7, 2) ∷ []) l.named in
    false≢true (subst (λ k. eqb k 7 ≡ true) (sym (ap (λ (q : ℕ × ℕ). q.1) (same_some (1, 8) (1, n.0) (sym parent_and_key_of_three ∙ n.1)))) n.2)
