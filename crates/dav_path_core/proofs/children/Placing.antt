-- What becomes of the links of a tree's nodes where a node moves to a free place below another.
use Rattle.std.proofs.Common.{◌≡◌, ◌≢◌, ◌==◌, ℕ, Bool, is_some, IsSome, false, cond, List, Some, None, Option, refl, ap, sym, ◌∙◌, subst, inl, inr}
use Rattle.std.specs.Option.{option_map}
use Rattle.std.specs.Ordering.{nat_cmp}
use Rattle.std.specs.FinMap.{FinMap}
use Rattle.std.proofs.lemmas.Bool.{cases_eq, eq-eqb, ne_eqb, false≢true}
use Rattle.dav_path_core.specs.declared.tree.Node.{Node}
use Rattle.dav_path_core.specs.Keyed.{Entry, Keyed, LeadsToRoot, root, up, parent_and_key_of, parent_number, child, is_under, with_new_place, placed_at, IsKnown, IsTree}
use Rattle.dav_path_core.specs.TreeValue.{links_after}
use Rattle.dav_path_core.specs.Private.Chains.{Linked}
use Rattle.dav_path_core.specs.View.{entry_of, links_of, keyed_of}
use Rattle.dav_path_core.specs.Private.Nodes.{node_numbered, parent_in, first_in, next_in, previous_in, previous_of, IsChained, IsLinked, with_node_at, with_first_child, put_before, with_parent_and_key, closed_up, with_change_at}
use Rattle.dav_path_core.proofs.trees.Trees.{none≢some, same_some}
use Rattle.dav_path_core.proofs.children.Chains.{Linked-put, first_child_of}
use Rattle.dav_path_core.proofs.trees.KeyedMoves.{IsTree-placed}
use Rattle.dav_path_core.proofs.children.Views.{seen-insert, with_node-here, with_node-other, known-view, entry-view, changed-here, changed-other, mapped-some}
use Rattle.dav_path_core.proofs.children.Walks.{parent_known}
use Rattle.dav_path_core.proofs.children.Links.{parent-view, first_keeps, after_keeps, before_keeps, entry_keeps, some_node, with_first-here, with_first-other, back_entry, back_first, back_after, back_here, back_other}
use Rattle.dav_path_core.proofs.children.Unlinking.{some_from_parent, closed-entry, closed-first-here, closed-after, not_before, Linked-closed}

-- no number is its own parent
own_parent : {f : ℕ → Option ℕ} {m : ℕ} (n : ℕ) → f 1 ≡ None → LeadsToRoot f m → m ≡ n → f n ≡ Some n → ⊥
own_parent {f = f} n top root is e = none≢some n (sym top ∙ ap f is ∙ e)
own_parent {f = f} n top (up {p = p} g l) is e = own_parent n top l (same_some p n (sym g ∙ ap f is ∙ e)) e

known_node : {X : Type 0} (o : Option X) → IsSome o → (x : X) × (o ≡ Some x)
known_node None h = absurd (false≢true h)
known_node (Some x) h = (x, refl)

module _ {K D : Type 0} (eq : K → K → Bool) (symm : (a b : K) → eq a b ≡ eq b a) (es fs : List (ℕ × Node K D)) (next n p r : ℕ) (k l : K) (x : Node K D) (linked : IsLinked eq es next)
    (known_p : IsKnown (keyed_of es next) p) (not_root : n ≢ 1) (outside : is_under (keyed_of es next) n p ≡ false) (free : child (eq k) (keyed_of es next) p ≡ None)
    (here : Some x ≡ node_numbered es n) (parent_and_key : x.parent_and_key ≡ Some (r, l))
    (is : node_numbered fs ≡ put_before (with_parent_and_key (closed_up (node_numbered es) r x.previous_sibling x.next_sibling) n p k (first_in (closed_up (node_numbered es) r x.previous_sibling x.next_sibling) p)) p n
    (first_in (closed_up (node_numbered es) r x.previous_sibling x.next_sibling) p)) where
  abbrev at0 : ℕ → Option (Node K D)
  at0 = node_numbered es

  abbrev at1 : ℕ → Option (Node K D)
  at1 = closed_up at0 r (previous_in at0 n) (next_in at0 n)

  abbrev head : Option ℕ
  head = first_in at1 p

  abbrev set : Node K D → Node K D
  set y = record y { parent_and_key = Some (p, k); next_sibling = head; previous_sibling = None }

  abbrev at2 : ℕ → Option (Node K D)
  at2 = with_change_at at1 n set

  abbrev mid : ℕ → Option (Node K D)
  mid = with_first_child at2 p (Some n)

  is0 : node_numbered fs ≡ put_before at2 p n head
  is0 = is ∙ ap (λ o. let at = closed_up at0 r (previous_of o) (links_after (option_map links_of o)) in put_before (with_parent_and_key at n p k (first_in at p)) p n (first_in at p)) here

  child_n : parent_in at0 n ≡ Some r
  child_n = ap (λ o. option_map (λ w. w.0) (parent_and_key_of (option_map entry_of o))) (sym here) ∙ ap (option_map (λ w. w.0)) parent_and_key

  child_view : parent_number (keyed_of es next) n ≡ Some r
  child_view = ap (λ f. f n) (parent-view es next) ∙ child_n

  top : parent_number (keyed_of es next) 1 ≡ None
  top = ap (option_map (λ w. w.0)) linked.tree.root.1

  known_n : IsKnown (keyed_of es next) n
  known_n = known-view es next n ∙ sym (ap is_some here)

  apart : r ≢ n
  apart e = own_parent n top (linked.tree.attached n known_n) refl (child_view ∙ ap (λ (v : ℕ). Some v) e)

  known_r : IsSome (at0 r)
  known_r = sym (known-view es next r) ∙ parent_known eq (keyed_of es next) linked.tree n r child_view

  entry1 : (q : ℕ) → option_map entry_of (at1 q) ≡ option_map entry_of (at0 q)
  entry1 = closed-entry at0 linked.chained n r child_n apart known_r

  some1 : (q : ℕ) → IsSome (at0 q) → IsSome (at1 q)
  some1 q h = sym (mapped-some entry_of (at1 q)) ∙ ap is_some (entry1 q) ∙ mapped-some entry_of (at0 q) ∙ h

  some2 : (q : ℕ) → IsSome (at0 q) → IsSome (at2 q)
  some2 q h = some_node at1 n set q ∙ some1 q h

  node1 : (y : Node K D) × (at1 n ≡ Some y)
  node1 = known_node (at1 n) (some1 n (sym (ap is_some here)))

  here2 : at2 n ≡ Some (set node1.0)
  here2 = changed-here at1 n set ∙ ap (option_map set) node1.1

  other2 : (q : ℕ) → q ≢ n → at2 q ≡ at1 q
  other2 = changed-other at1 n set

  entry3 : (q : ℕ) → option_map entry_of (put_before at2 p n head q) ≡ option_map entry_of (at2 q)
  entry3 q = back_entry mid head (Some n) q ∙ entry_keeps at2 p (λ y. record y { first_child = Some n }) (λ y. refl) q

  -- the parents while n is in no list
  abbrev without_n : ℕ → Option ℕ
  without_n q = cond (q == n) None (parent_in at0 q)

  none_n : without_n n ≡ None
  none_n = ap (λ b. cond b None (parent_in at0 n)) (eq-eqb n n refl)

  other_n : (q : ℕ) → q ≢ n → without_n q ≡ parent_in at0 q
  other_n q ne = ap (λ b. cond b None (parent_in at0 q)) (ne_eqb q n ne)

  loose : Linked without_n (first_in at1) (next_in at1) (previous_in at1)
  loose = Linked-closed at0 linked.chained n r child_n apart known_r (λ q e. none≢some q (sym none_n ∙ e)) other_n
      (closed-first-here at0 linked.chained n r child_n apart known_r) (λ q ne. refl) (λ q ne. refl) (λ q ne. refl)

  head_child : (q : ℕ) → head ≡ Some q → (q ≢ n) × IsSome (at0 q)
  head_child q e =
      let up_p = (first_child_of loose p q e).0 in
      let ne : q ≢ n = λ i. none≢some p (sym none_n ∙ ap without_n (sym i) ∙ up_p) in
      (ne, some_from_parent (at0 q) p (sym (other_n q ne) ∙ up_p))

  relinked : IsChained (put_before at2 p n head)
  relinked = Linked-put n p loose (λ q e. none≢some q (sym none_n ∙ e))
      (ap (λ o. option_map (λ w. w.0) (parent_and_key_of o)) (entry3 n ∙ ap (option_map entry_of) here2))
      (λ q ne. ap (λ o. option_map (λ w. w.0) (parent_and_key_of o)) (entry3 q ∙ ap (option_map entry_of) (other2 q ne) ∙ entry1 q) ∙ sym (other_n q ne))
      (back_first mid head (Some n) p ∙ with_first-here at2 p (Some n) (some2 p (sym (known-view es next p) ∙ known_p)))
      (λ q ne. back_first mid head (Some n) q ∙ with_first-other at2 p (Some n) q ne ∙ first_keeps at1 n set (λ y. refl) q)
      (back_after mid head (Some n) n ∙ after_keeps at2 p (λ y. record y { first_child = Some n }) (λ y. refl) n ∙ ap (λ o. links_after (option_map links_of o)) here2)
      (λ q ne. back_after mid head (Some n) q ∙ after_keeps at2 p (λ y. record y { first_child = Some n }) (λ y. refl) q ∙ ap (λ o. links_after (option_map links_of o)) (other2 q ne))
      (back_other mid head (Some n) n (λ e. (head_child n e).0 refl) ∙ before_keeps at2 p (λ y. record y { first_child = Some n }) (λ y. refl) n ∙ ap previous_of here2)
      (λ q ne e. back_here mid head (Some n) q e (some_node at2 p (λ y. record y { first_child = Some n }) q ∙ some2 q (head_child q e).1))
      (λ q ne e. back_other mid head (Some n) q e ∙ before_keeps at2 p (λ y. record y { first_child = Some n }) (λ y. refl) q ∙ ap previous_of (other2 q ne))

  abbrev moved_node : Node K D
  moved_node = record x { parent_and_key = Some (p, k) }

  abbrev replace : Option (Entry K D) → Option (Entry K D)
  replace o = option_map {T = Entry K D} (λ e. record e { parent_and_key = Some (p, k) }) o

  entry_moved : (q : ℕ) → option_map entry_of (node_numbered fs q) ≡ option_map entry_of (with_node_at at0 n (Some moved_node) q)
  entry_moved q = ap (λ f. option_map entry_of (f q)) is0 ∙ entry3 q ∙ elim (cases_eq q n) [
    | inl e ↦ subst (λ v. option_map entry_of (at2 v) ≡ option_map entry_of (with_node_at at0 n (Some moved_node) v)) (sym e)
        (ap (option_map entry_of) here2 ∙ same_item ∙ ap (option_map entry_of) (sym (with_node-here at0 n (Some moved_node))))
    | inr ne ↦ ap (option_map entry_of) (other2 q ne) ∙ entry1 q ∙ ap (option_map entry_of) (sym (with_node-other at0 n (Some moved_node) q ne))
  ]
    where
      same_item : Some (entry_of (set node1.0)) ≡ Some (entry_of moved_node)
      same_item = ap replace (ap (option_map entry_of) (sym node1.1) ∙ entry1 n ∙ ap (option_map entry_of) (sym here))

  pub keyed-placed : keyed_of fs next ≡ with_new_place (keyed_of es next) n p k
  keyed-placed =
      ap (λ (m : FinMap nat_cmp (Entry K D)). let t : Keyed K D = record { nodes = m; next = next } in t) (seen-insert entry_of es fs n moved_node entry_moved)
      ∙ ap (placed_at (keyed_of es next) n p k) (sym (entry-view es next n (Some x) here))

  pub IsLinked-placed : IsLinked eq fs next
  IsLinked-placed = record {
    tree = subst (IsTree eq) (sym keyed-placed) (IsTree-placed eq symm (keyed_of es next) n p k linked.tree known_p not_root outside free);
    chained = subst IsChained (sym is0) relinked;
    root_alone = ap (λ f. next_in f 1) is0 ∙ back_after mid head (Some n) 1 ∙ after_keeps at2 p (λ y. record y { first_child = Some n }) (λ y. refl) 1
        ∙ ap (λ o. links_after (option_map links_of o)) (other2 1 (λ e. not_root (sym e)))
        ∙ closed-after at0 linked.chained n r child_n apart known_r 1 (not_before at0 linked.chained n r child_n apart known_r 1 (ap (λ f. f 1) (sym (parent-view es next)) ∙ top))
        ∙ linked.root_alone;
  }
