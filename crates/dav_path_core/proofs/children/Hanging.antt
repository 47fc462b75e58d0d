-- What becomes of the links of a tree's nodes where a new child takes the place of another, which hangs below it.
use Rattle.std.proofs.Common.{◌≡◌, ◌≢◌, ◌+◌, ◌<◌, ℕ, arith, Bool, IsSome, false, List, Some, None, Option, refl, ap, sym, ◌∙◌, subst, inl, inr}
use Rattle.std.specs.Cmp.{IsEquivalence}
use Rattle.std.specs.Option.{option_map}
use Rattle.std.proofs.lemmas.Bool.{cases_eq}
use Rattle.dav_path_core.specs.declared.tree.Node.{Node}
use Rattle.dav_path_core.specs.Keyed.{Keyed, parent_and_key, parent_and_key_of, child, add, without_subtree, is_under, with_new_place, IsKnown, IsTree}
use Rattle.dav_path_core.specs.TreeValue.{TreeValue}
use Rattle.dav_path_core.specs.View.{entry_of, keyed_of, tree_value_of}
use Rattle.dav_path_core.specs.Private.Nodes.{node_numbered, first_in, IsLinked, new_node, with_node_at, put_before, with_parent_and_key, with_parent, closed_up, led_on}
use Rattle.dav_path_core.proofs.trees.Trees.{none≢some, next_positive}
use Rattle.dav_path_core.proofs.children.Views.{get-seen, known-view, changed-here, changed-other}
use Rattle.dav_path_core.proofs.children.Links.{next_unused, keyed-added, IsLinked-added, back_entry}
use Rattle.dav_path_core.proofs.children.Unlinking.{on_entry}
use Rattle.dav_path_core.proofs.children.Placing.{keyed-placed, IsLinked-placed}
use Rattle.dav_path_core.proofs.trees.Overwriting.{never, never-symm, child-never, IsTree-never, IsTree-over, over, cut-over, new_known, new_outside, old_not_root, old_known_over, old_parent_and_key_added, found}

module _ {K D : Type 0} where
  -- the node that has a place
  node_placed : (o : Option (Node K D)) (w : ℕ × K) → parent_and_key_of (option_map entry_of o) ≡ Some w → (x : Node K D) × (Some x ≡ o) × (x.parent_and_key ≡ Some w)
  node_placed None w e = absurd (none≢some w e)
  node_placed (Some x) w e = (x, refl, e)

  -- a node under a known key is put below another under it
  module _ (at : ℕ → Option (Node K D)) (n p r : ℕ) (k : K) (f : Option ℕ) (placed_n : parent_and_key_of (option_map entry_of (at n)) ≡ Some (r, k)) where
    abbrev kept_key : Node K D → Node K D
    kept_key x = record x { parent_and_key = option_map (λ q. (p, q.1)) x.parent_and_key; next_sibling = f; previous_sibling = None }

    abbrev given_key : Node K D → Node K D
    given_key x = record x { parent_and_key = Some (p, k); next_sibling = f; previous_sibling = None }

    one : (o : Option (Node K D)) → parent_and_key_of (option_map entry_of o) ≡ Some (r, k) → option_map kept_key o ≡ option_map given_key o
    one None h = refl
    one (Some x) h = ap (λ (w : Option (ℕ × K)). let y : Node K D = record x { parent_and_key = option_map (λ q. (p, q.1)) w; next_sibling = f; previous_sibling = None } in Some y) h

    each : (q : ℕ) → with_parent at n p f q ≡ with_parent_and_key at n p k f q
    each q = elim (cases_eq q n) [
      | inl is ↦ subst (λ v. with_parent at n p f v ≡ with_parent_and_key at n p k f v) (sym is) (changed-here at n kept_key ∙ one (at n) placed_n ∙ sym (changed-here at n given_key))
      | inr ne ↦ changed-other at n kept_key q ne ∙ sym (changed-other at n given_key q ne)
    ]

    pub with_parent-same_key : with_parent at n p f ≡ with_parent_and_key at n p k f
    with_parent-same_key = λ i q. each q i

  -- leading neighbours to each other changes no entry
  pub closed_up-entry : (at : ℕ → Option (Node K D)) (p : ℕ) (b a : Option ℕ) (q : ℕ) → option_map entry_of (closed_up at p b a q) ≡ option_map entry_of (at q)
  closed_up-entry at p b a q = back_entry (led_on at p b a) a b q ∙ on_entry at p b a q

  module _ (eq : K → K → Bool) (laws : IsEquivalence eq) (es fs gs : List (ℕ × Node K D)) (next p : ℕ) (k : K) (d : D) (c : ℕ) (linked : IsLinked eq es next)
      (s : TreeValue K D) (view : tree_value_of es next ≡ s) (known_s : IsKnown s.keyed p) (taken_s : child (eq k) s.keyed p ≡ Some c)
      (is_put : node_numbered fs ≡ put_before (with_node_at (node_numbered es) next (Some (new_node p k d (first_in (node_numbered es) p)))) p next (first_in (node_numbered es) p))
      (is_hung : (x : Node K D) (r : ℕ) (l : K) → Some x ≡ node_numbered fs c → x.parent_and_key ≡ Some (r, l)
      → node_numbered gs ≡ put_before (with_parent_and_key (closed_up (node_numbered fs) p x.previous_sibling x.next_sibling) c next l (first_in (closed_up (node_numbered fs) p x.previous_sibling x.next_sibling) next)) next c
      (first_in (closed_up (node_numbered fs) p x.previous_sibling x.next_sibling) next)) where
    abbrev t : Keyed K D
    t = keyed_of es next

    known : IsKnown t p
    known = subst (λ u. IsKnown u.keyed p) (sym view) known_s

    taken : child (eq k) t p ≡ Some c
    taken = subst (λ u. child (eq k) u.keyed p ≡ Some c) (sym view) taken_s

    abbrev v : Node K D
    v = new_node p k d (first_in (node_numbered es) p)

    loose : IsLinked never es next
    loose = record { tree = IsTree-never eq t linked.tree; chained = linked.chained; root_alone = linked.root_alone }

    unused : node_numbered es next ≡ None
    unused = next_unused never es next loose.tree

    positive : 0 < next
    positive = next_positive never t loose.tree

    known_node : IsSome (node_numbered es p)
    known_node = sym (known-view es next p) ∙ known

    linked1 : IsLinked never fs (next + 1)
    linked1 = IsLinked-added never never-symm es fs next next (next + 1) p k v loose unused positive (omega arith) (omega arith) known_node (child-never k t p) refl refl refl refl is_put

    keyed1 : keyed_of fs (next + 1) ≡ add t p k d
    keyed1 = keyed-added never never-symm es fs next next (next + 1) p k v loose unused positive (omega arith) (omega arith) known_node (child-never k t p) refl refl refl refl is_put

    -- the key of the old child
    abbrev l : K
    l = (found eq laws t p k d linked.tree known c taken).0

    node_old : (x : Node K D) × (Some x ≡ node_numbered fs c) × (x.parent_and_key ≡ Some (p, l))
    node_old = node_placed (node_numbered fs c) (p, l) (ap parent_and_key_of (sym (get-seen entry_of fs c)) ∙ ap (λ u. parent_and_key u c) keyed1 ∙ old_parent_and_key_added eq laws t p k d linked.tree known c taken)

    tree1 : IsTree never (add t p k d)
    tree1 = subst (IsTree never) keyed1 linked1.tree

    known1 : IsKnown (keyed_of fs (next + 1)) next
    known1 = subst (λ u. IsKnown u next) (sym keyed1) (new_known eq laws t p k d linked.tree known c taken)

    outside1 : is_under (keyed_of fs (next + 1)) c next ≡ false
    outside1 = subst (λ u. is_under u c next ≡ false) (sym keyed1) (new_outside eq laws t p k d linked.tree known c taken tree1)

    pub over_not_root : c ≢ 1
    over_not_root = old_not_root eq laws t p k d linked.tree known c taken

    linked2 : IsLinked never gs (next + 1)
    linked2 = IsLinked-placed never never-symm fs gs (next + 1) c next p l l node_old.0 linked1 known1 over_not_root outside1 (child-never l (keyed_of fs (next + 1)) next) node_old.1 node_old.2 (is_hung node_old.0 p l node_old.1 node_old.2)

    keyed2 : keyed_of gs (next + 1) ≡ over eq laws t p k d linked.tree known c taken
    keyed2 = keyed-placed never never-symm fs gs (next + 1) c next p l l node_old.0 linked1 known1 over_not_root outside1 (child-never l (keyed_of fs (next + 1)) next) node_old.1 node_old.2 (is_hung node_old.0 p l node_old.1 node_old.2)
        ∙ ap (λ u. with_new_place u c next l) keyed1

    tree2 : IsTree never (over eq laws t p k d linked.tree known c taken)
    tree2 = subst (IsTree never) keyed2 linked2.tree

    pub IsLinked-over : IsLinked eq gs (next + 1)
    IsLinked-over = record {
      tree = subst (IsTree eq) (sym keyed2) (IsTree-over eq laws t p k d linked.tree known c taken tree2);
      chained = linked2.chained;
      root_alone = linked2.root_alone;
    }

    pub known-over : IsKnown (keyed_of gs (next + 1)) c
    known-over = subst (λ u. IsKnown u c) (sym keyed2) (old_known_over eq laws t p k d linked.tree known c taken tree2)

    -- what is left when the old one is cut
    pub keyed-over : without_subtree (keyed_of gs (next + 1)) c ≡ add (without_subtree s.keyed c) p k d
    keyed-over = ap (λ u. without_subtree u c) keyed2 ∙ cut-over eq laws t p k d linked.tree known c taken tree2 ∙ ap (λ u. add (without_subtree u.keyed c) p k d) view
