-- What becomes of the links of a tree's nodes where a child goes out of its list.
use Rattle.std.proofs.Common.{◌≡◌, ◌≢◌, ℕ, Bool, is_some, IsSome, List, Some, None, Option, refl, ap, sym, ◌∙◌, subst, inl, inr}
use Rattle.std.specs.Option.{option_map}
use Rattle.std.specs.Ordering.{nat_cmp}
use Rattle.std.specs.FinMap.{FinMap, get, from_entries, same_map, nat_cmp-IsAntisymmetric}
use Rattle.std.specs.Cmp.{nat_cmp_total}
use Rattle.std.proofs.lemmas.Bool.{cases_eq}
use Rattle.dav_path_core.specs.declared.tree.Node.{Node}
use Rattle.dav_path_core.specs.Keyed.{Entry, Keyed, entry, parent_and_key_of, parent_number, without_node, IsTree}
use Rattle.dav_path_core.specs.TreeValue.{links_first, links_after}
use Rattle.dav_path_core.specs.Private.Chains.{Linked}
use Rattle.dav_path_core.specs.View.{entry_of, links_of, views_of, keyed_of}
use Rattle.dav_path_core.specs.Private.Nodes.{node_numbered, parent_in, first_in, next_in, previous_in, previous_of, IsChained, IsLinked, with_node_at, with_next, led_on, closed_up}
use Rattle.dav_path_core.proofs.trees.Trees.{none≢some, same_some}
use Rattle.dav_path_core.proofs.children.Chains.{Linked-out, no_child, sibling_after, sibling_before}
use Rattle.dav_path_core.proofs.trees.KeyedCuts.{IsTree-without, entry-without}
use Rattle.dav_path_core.proofs.children.Views.{get-seen, with_node-here, with_node-other, known-view}
use Rattle.dav_path_core.proofs.children.Walks.{parent_known}
use Rattle.dav_path_core.proofs.children.Links.{parent-view, first_keeps, after_keeps, before_keeps, entry_keeps, some_node, with_first-here, with_first-other, with_next-here, with_next-other, back_entry, back_first, back_after, back_here, back_other}

module _ {K D : Type 0} where
  -- ---- a link that leads to a child, led on
  module _ (at : ℕ → Option (Node K D)) (p : ℕ) where
    pub on_entry : (b o : Option ℕ) (q : ℕ) → option_map entry_of (led_on at p b o q) ≡ option_map entry_of (at q)
    on_entry None o q = entry_keeps at p (λ x. record x { first_child = o }) (λ x. refl) q
    on_entry (Some b) o q = entry_keeps at b (λ x. record x { next_sibling = o }) (λ x. refl) q

    on_some : (b o : Option ℕ) (q : ℕ) → is_some (led_on at p b o q) ≡ is_some (at q)
    on_some None o q = some_node at p (λ x. record x { first_child = o }) q
    on_some (Some b) o q = some_node at b (λ x. record x { next_sibling = o }) q

    on_before : (b o : Option ℕ) (q : ℕ) → previous_in (led_on at p b o) q ≡ previous_in at q
    on_before None o q = before_keeps at p (λ x. record x { first_child = o }) (λ x. refl) q
    on_before (Some b) o q = before_keeps at b (λ x. record x { next_sibling = o }) (λ x. refl) q

    on_first_here : (b o : Option ℕ) → b ≡ None → IsSome (at p) → first_in (led_on at p b o) p ≡ o
    on_first_here None o e h = with_first-here at p o h
    on_first_here (Some b) o e h = absurd (none≢some b (sym e))

    on_first_later : (b o : Option ℕ) (m : ℕ) → b ≡ Some m → (q : ℕ) → first_in (led_on at p b o) q ≡ first_in at q
    on_first_later None o m e q = absurd (none≢some m e)
    on_first_later (Some b) o m e q = first_keeps at b (λ x. record x { next_sibling = o }) (λ x. refl) q

    on_first_other : (b o : Option ℕ) (q : ℕ) → q ≢ p → first_in (led_on at p b o) q ≡ first_in at q
    on_first_other None o q ne = with_first-other at p o q ne
    on_first_other (Some b) o q ne = first_keeps at b (λ x. record x { next_sibling = o }) (λ x. refl) q

    on_after_here : (b o : Option ℕ) (k : ℕ) → b ≡ Some k → IsSome (at k) → next_in (led_on at p b o) k ≡ o
    on_after_here None o k e h = absurd (none≢some k e)
    on_after_here (Some b) o k e h = ap (λ v. next_in (with_next at v o) k) (same_some b k e) ∙ with_next-here at k o h

    on_after_other : (b o : Option ℕ) (k : ℕ) → b ≢ Some k → next_in (led_on at p b o) k ≡ next_in at k
    on_after_other None o k ne = after_keeps at p (λ x. record x { first_child = o }) (λ x. refl) k
    on_after_other (Some b) o k ne = with_next-other at b o k (λ e. ne (ap (λ (x : ℕ). Some x) (sym e)))

  pub some_from_parent : (o : Option (Node K D)) (p : ℕ) → option_map (λ w. w.0) (parent_and_key_of (option_map entry_of o)) ≡ Some p → IsSome o
  some_from_parent None p e = absurd (none≢some p e)
  some_from_parent (Some x) p e = refl

  -- ---- the child n of p goes out of its list
  module _ (at : ℕ → Option (Node K D)) (chained : IsChained at) (n p : ℕ) (child : parent_in at n ≡ Some p) (apart : p ≢ n) (known : IsSome (at p)) where
    abbrev closed : ℕ → Option (Node K D)
    closed = closed_up at p (previous_in at n) (next_in at n)

    abbrev led : ℕ → Option (Node K D)
    led = led_on at p (previous_in at n) (next_in at n)

    pub closed-entry : (q : ℕ) → option_map entry_of (closed q) ≡ option_map entry_of (at q)
    closed-entry q = back_entry led (next_in at n) (previous_in at n) q ∙ on_entry at p (previous_in at n) (next_in at n) q

    pub closed-first-here : first_in closed n ≡ first_in at n
    closed-first-here = back_first led (next_in at n) (previous_in at n) n ∙ on_first_other at p (previous_in at n) (next_in at n) n (λ e. apart (sym e))

    pub closed-after : (q : ℕ) → previous_in at n ≢ Some q → next_in closed q ≡ next_in at q
    closed-after q ne = back_after led (next_in at n) (previous_in at n) q ∙ on_after_other at p (previous_in at n) (next_in at n) q ne

    pub not_before : (q : ℕ) → parent_in at q ≡ None → previous_in at n ≢ Some q
    not_before q none e = none≢some p (sym none ∙ (sibling_before chained p n q child e).0)

    module _ {parent' first' after' before' : ℕ → Option ℕ} (p_none : (q : ℕ) → parent' n ≢ Some q) (p_same : (q : ℕ) → q ≢ n → parent' q ≡ parent_in at q)
        (f_here : first' n ≡ first_in at n) (f_same : (q : ℕ) → q ≢ n → first' q ≡ first_in closed q)
        (a_same : (q : ℕ) → q ≢ n → after' q ≡ next_in closed q) (b_same : (q : ℕ) → q ≢ n → before' q ≡ previous_in closed q) where
      pub Linked-closed : Linked parent' first' after' before'
      Linked-closed = Linked-out n p chained child p_none p_same
          (λ e. f_same p apart ∙ back_first led (next_in at n) (previous_in at n) p ∙ on_first_here at p (previous_in at n) (next_in at n) e known)
          (λ b e. f_same p apart ∙ back_first led (next_in at n) (previous_in at n) p ∙ on_first_later at p (previous_in at n) (next_in at n) b e p)
          (λ q ne. elim (cases_eq q n) [
            | inl is ↦ subst (λ v. first' v ≡ first_in at v) (sym is) f_here
            | inr qn ↦ f_same q qn ∙ back_first led (next_in at n) (previous_in at n) q ∙ on_first_other at p (previous_in at n) (next_in at n) q ne
          ])
          (λ k ne e. a_same k ne ∙ back_after led (next_in at n) (previous_in at n) k
          ∙ on_after_here at p (previous_in at n) (next_in at n) k e (some_from_parent (at k) p (sibling_before chained p n k child e).0))
          (λ k ne e. a_same k ne ∙ closed-after k e)
          (λ k ne e. b_same k ne ∙ back_here led (next_in at n) (previous_in at n) k e
          (on_some at p (previous_in at n) (next_in at n) k ∙ some_from_parent (at k) p (sibling_after chained p n k child e).0))
          (λ k ne e. b_same k ne ∙ back_other led (next_in at n) (previous_in at n) k e ∙ on_before at p (previous_in at n) (next_in at n) k)

  -- ---- a leaf is deleted
  module _ (eq : K → K → Bool) (es : List (ℕ × Node K D)) (next n p : ℕ) (k : K) (x : Node K D) (linked : IsLinked eq es next)
      (here : Some x ≡ node_numbered es n) (parent_and_key : x.parent_and_key ≡ Some (p, k)) (no_first : x.first_child ≡ None) where
    abbrev at0 : ℕ → Option (Node K D)
    at0 = node_numbered es

    child_n : parent_in at0 n ≡ Some p
    child_n = ap (λ o. option_map (λ w. w.0) (parent_and_key_of (option_map entry_of o))) (sym here) ∙ ap (option_map (λ w. w.0)) parent_and_key

    first_n : first_in at0 n ≡ None
    first_n = ap (λ o. links_first (option_map links_of o)) (sym here) ∙ no_first

    -- nothing has the parent n
    no_child_n : (m : ℕ) → parent_in at0 m ≢ Some n
    no_child_n m e = no_child linked.chained n first_n m e

    apart_n : p ≢ n
    apart_n e = no_child_n n (child_n ∙ ap (λ (v : ℕ). Some v) e)

    known_p : IsSome (at0 p)
    known_p = sym (known-view es next p) ∙ parent_known eq (keyed_of es next) linked.tree n p (ap (λ f. f n) (parent-view es next) ∙ child_n)

    abbrev closed0 : ℕ → Option (Node K D)
    closed0 = closed_up at0 p (previous_in at0 n) (next_in at0 n)

    -- the node itself stays until it is taken
    pub closed-node : option_map entry_of (closed_up at0 p x.previous_sibling x.next_sibling n) ≡ option_map entry_of (at0 n)
    closed-node = ap (λ o. option_map entry_of (closed_up at0 p (previous_of o) (links_after (option_map links_of o)) n)) here ∙ closed-entry at0 linked.chained n p child_n apart_n known_p n

    pub not_root : n ≢ 1
    not_root e = none≢some p (sym (ap (option_map (λ w. w.0)) linked.tree.root.1) ∙ ap (parent_number (keyed_of es next)) (sym e) ∙ ap (λ f. f n) (parent-view es next) ∙ child_n)

    pub leaf_n : (m : ℕ) → parent_number (keyed_of es next) m ≢ Some n
    leaf_n m e = no_child_n m (ap (λ f. f m) (sym (parent-view es next)) ∙ e)

    module _ (fs : List (ℕ × Node K D)) (is : node_numbered fs ≡ with_node_at (closed_up (node_numbered es) p x.previous_sibling x.next_sibling) n None) where
      is0 : node_numbered fs ≡ with_node_at closed0 n None
      is0 = is ∙ ap (λ o. with_node_at (closed_up at0 p (previous_of o) (links_after (option_map links_of o))) n None) here

      gone : node_numbered fs n ≡ None
      gone = ap (λ f. f n) is0 ∙ with_node-here closed0 n None

      other : (q : ℕ) → q ≢ n → node_numbered fs q ≡ closed0 q
      other q ne = ap (λ f. f q) is0 ∙ with_node-other closed0 n None q ne

      other_entry : (q : ℕ) → q ≢ n → option_map entry_of (node_numbered fs q) ≡ option_map entry_of (at0 q)
      other_entry q ne = ap (option_map entry_of) (other q ne) ∙ closed-entry at0 linked.chained n p child_n apart_n known_p q

      same_entries : (q : ℕ) → get (from_entries {R = nat_cmp} (views_of entry_of fs)) q ≡ entry (without_node (keyed_of es next) n) q
      same_entries q = get-seen entry_of fs q ∙ elim (cases_eq q n) [
        | inl e ↦ subst (λ v. option_map entry_of (node_numbered fs v) ≡ entry (without_node (keyed_of es next) n) v) (sym e) (ap (option_map entry_of) gone ∙ sym (entry-without (keyed_of es next) n).here)
        | inr ne ↦ other_entry q ne ∙ sym (get-seen entry_of es q) ∙ sym ((entry-without (keyed_of es next) n).other q ne)
      ]

      pub keyed-removed : keyed_of fs next ≡ without_node (keyed_of es next) n
      keyed-removed = ap (λ (m : FinMap nat_cmp (Entry K D)). let t : Keyed K D = record { nodes = m; next = next } in t)
          (same_map nat_cmp_total nat_cmp-IsAntisymmetric (keyed_of fs next).nodes (without_node (keyed_of es next) n).nodes same_entries)

      pub IsLinked-removed : IsLinked eq fs next
      IsLinked-removed = record {
        tree = subst (IsTree eq) (sym keyed-removed) (IsTree-without eq (keyed_of es next) n linked.tree not_root leaf_n);
        chained = Linked-closed at0 linked.chained n p child_n apart_n known_p
            (λ q e. none≢some q (ap (λ o. option_map (λ w. w.0) (parent_and_key_of (option_map entry_of o))) (sym gone) ∙ e))
            (λ q ne. ap (λ o. option_map (λ w. w.0) (parent_and_key_of o)) (other_entry q ne))
            (ap (λ o. links_first (option_map links_of o)) gone ∙ sym first_n)
            (λ q ne. ap (λ o. links_first (option_map links_of o)) (other q ne))
            (λ q ne. ap (λ o. links_after (option_map links_of o)) (other q ne))
            (λ q ne. ap previous_of (other q ne));
        root_alone = ap (λ o. links_after (option_map links_of o)) (other 1 (λ e. not_root (sym e)))
            ∙ closed-after at0 linked.chained n p child_n apart_n known_p 1
            (not_before at0 linked.chained n p child_n apart_n known_p 1 (ap (λ f. f 1) (sym (parent-view es next)) ∙ ap (option_map (λ w. w.0)) linked.tree.root.1))
            ∙ linked.root_alone;
      }
