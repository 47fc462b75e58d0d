-- What the links of a tree's nodes tell, and what a change of the tree does to them.
use Rattle.std.proofs.Common.{nat_eq, ◌≡◌, ◌≢◌, ◌<◌, ◌≤◌, ◌==◌, ℕ, Bool, is_some, IsSome, true, false, cond, List, [], ◌∷◌, Some, None, Option, Ok, Err, refl, ap, sym, ◌∙◌, subst, inl, inr}
use Rattle.std.specs.Option.{option_map, ok_or}
use Rattle.std.specs.HashMap.{HashMap, Updates, WritesThrough}
use Rattle.std.proofs.lemmas.Bool.{cases_eq, false≢true}
use Rattle.dav_path_core.specs.declared.errors.FsError.TheVariants.{NotFound}
use Rattle.dav_path_core.specs.declared.tree.Node.{Node}
use Rattle.dav_path_core.specs.Keyed.{Entry, entry, parent_and_key, parent_and_key_of, parent_number, child, add_as, IsKnown, IsTree}
use Rattle.dav_path_core.specs.TreeValue.{TreeValue, Siblings, done, more, IsTreeValue, if_known, first, after, links_first, links_after}
use Rattle.dav_path_core.specs.Private.Chains.{AreLinks, Linked}
use Rattle.dav_path_core.specs.View.{entry_of, links_of, keyed_of, tree_value_of}
use Rattle.dav_path_core.specs.Private.Nodes.{node_numbered, parent_in, first_in, next_in, previous_in, previous_of, IsChained, IsLinked, with_node_at, with_change_at, with_first_child, with_next, with_previous, led_back, put_before}
use Rattle.dav_path_core.proofs.trees.Trees.{none≢some, none_from_is_some, same_some, known_from_parent, no_next, IsTree-add_as, IsTree-lone, IsTree-with_item}
use Rattle.dav_path_core.proofs.children.Chains.{no_distinct, Linked-put, first_child_of}
use Rattle.dav_path_core.proofs.children.Views.{Hasher, with_node-here, with_node-other, get-seen, known-view, entry-view, changed-here, changed-other, changed-keeps, view-add, view-lone, node_at-updated, mapped-some, view-write, write-keeps}

siblings : (after before : ℕ → Option ℕ) (b o : Option ℕ) (ks : List ℕ) → AreLinks after before b o ks → Siblings after o ks
siblings after before b o [] c = subst (λ v. Siblings after v []) (sym c) done
siblings after before b o (k ∷ ks) c = subst (λ v. Siblings after v (k ∷ ks)) (sym c.0) (more (siblings after before (Some k) (after k) ks c.2))

pub first_of : (o : Option ℕ) → is_some o ≡ true → (m : ℕ) × (o ≡ Some m)
first_of None h = absurd (false≢true h)
first_of (Some m) h = (m, refl)

module _ {K D : Type 0} where
  pub parent-view : (es : List (ℕ × Node K D)) (next : ℕ) → parent_number (keyed_of es next) ≡ parent_in (node_numbered es)
  parent-view es next = λ i q. option_map (λ w. w.0) (parent_and_key_of (get-seen entry_of es q i))

  pub first-view : (es : List (ℕ × Node K D)) (next : ℕ) → first (tree_value_of es next) ≡ first_in (node_numbered es)
  first-view es next = λ i q. links_first (get-seen links_of es q i)

  pub after-view : (es : List (ℕ × Node K D)) (next : ℕ) → after (tree_value_of es next) ≡ next_in (node_numbered es)
  after-view es next = λ i q. links_after (get-seen links_of es q i)

  -- what callers may know of a tree
  pub tree_value_from : (eq : K → K → Bool) (es : List (ℕ × Node K D)) (next : ℕ) → IsLinked eq es next → IsTreeValue eq (tree_value_of es next)
  tree_value_from eq es next linked = record {
    tree = linked.tree;
    listed = λ p known. let l = linked.chained.listed p in (
      l.0,
      record {
        linked = subst (λ f. Siblings f (first (tree_value_of es next) p) l.0) (sym (after-view es next))
            (subst (λ f. Siblings (next_in (node_numbered es)) (f p) l.0) (sym (first-view es next)) (siblings _ _ None _ l.0 l.1.linked));
        once = l.1.once;
        members = λ n. ((λ h. ap (λ f. f n) (parent-view es next) ∙ (l.1.members n).0 h), (λ e. (l.1.members n).1 (sym (ap (λ f. f n) (parent-view es next)) ∙ e)));
      },
    );
    root_alone = ap (λ f. f 1) (after-view es next) ∙ linked.root_alone;
  }

  -- the same of the value that the fields stand for
  pub shape_of : {eq : K → K → Bool} {es : List (ℕ × Node K D)} {next : ℕ} {t : TreeValue K D} → IsLinked eq es next → tree_value_of es next ≡ t → IsTreeValue eq t
  shape_of {eq} {es} {next} linked is = subst (IsTreeValue eq) is (tree_value_from eq es next linked)

  -- ---- what is told of a number
  module _ (es : List (ℕ × Node K D)) (next : ℕ) (t : TreeValue K D) (view : tree_value_of es next ≡ t) (n : ℕ) where
    pub tells_none : None ≡ node_numbered es n → {X : Type 0} (y : X) → None ≡ if_known t n y
    tells_none at y = sym (ap (λ t. if_known t n y) (sym view) ∙ ap (option_map (λ _. y)) (entry-view es next n None at))

    pub told_nowhere : None ≡ node_numbered es n → {X : Type 0} (y : X) → Err NotFound ≡ ok_or (if_known t n y) NotFound
    told_nowhere at y = ap (λ o. ok_or o NotFound) (tells_none at y)

    pub nothing_there : entry t.keyed n ≡ None → node_numbered es n ≡ None
    nothing_there h = none_from_is_some (node_numbered es n) (sym (known-view es next n) ∙ ap (λ t. is_some (entry t.keyed n)) view ∙ ap is_some h)

    module _ (x : Node K D) (at : Some x ≡ node_numbered es n) where
      pub known : {X : Type 0} (y : X) → Some y ≡ if_known t n y
      known y = sym (ap (λ t. if_known t n y) (sym view) ∙ ap (option_map (λ _. y)) (entry-view es next n (Some x) at))

      pub first-told : first t n ≡ x.first_child
      first-told = ap (λ t. first t n) (sym view) ∙ ap (λ f. f n) (first-view es next) ∙ ap (λ o. links_first (option_map links_of o)) (sym at)

      pub after-told : after t n ≡ x.next_sibling
      after-told = ap (λ t. after t n) (sym view) ∙ ap (λ f. f n) (after-view es next) ∙ ap (λ o. links_after (option_map links_of o)) (sym at)

      -- the answer of a call that gives one of these links
      pub told_there : (link told : Option ℕ) → told ≡ link → Ok link ≡ ok_or (if_known t n told) NotFound
      told_there link told e = ap (λ o. ok_or o NotFound) (ap (λ (o : Option ℕ). Some o) (sym e) ∙ known told)

      pub parent_and_key-told : parent_and_key t.keyed n ≡ x.parent_and_key
      parent_and_key-told = ap (λ t. parent_and_key t.keyed n) (sym view) ∙ ap parent_and_key_of (entry-view es next n (Some x) at)

  pub next_unused : (eq : K → K → Bool) (es : List (ℕ × Node K D)) (next : ℕ) → IsTree eq (keyed_of es next) → node_numbered es next ≡ None
  next_unused eq es next tree = nothing_there es next (tree_value_of es next) refl next (no_next eq (keyed_of es next) tree)

  pub root_known : (eq : K → K → Bool) (es : List (ℕ × Node K D)) (next : ℕ) → IsLinked eq es next → (n : ℕ) → n ≡ 1 → None ≡ node_numbered es n → ⊥
  root_known eq es next linked n e none = false≢true (ap is_some none ∙ sym (known-view es next n) ∙ subst (IsKnown (keyed_of es next)) (sym e) linked.tree.root.0)

  -- ---- a write of an item
  pub same_chained : (at at' : ℕ → Option (Node K D)) → ((f : Option (Node K D) → Option ℕ) → ((n : Node K D) (w : D) → f (Some (record n { item = w })) ≡ f (Some n)) → (q : ℕ) → f (at' q) ≡ f (at q)) → IsChained at → IsChained at'
  same_chained at at' h chained =
      subst (λ f. Linked f (first_in at') (next_in at') (previous_in at')) (λ i q. sym (h (λ o. option_map (λ w. w.0) (parent_and_key_of (option_map entry_of o))) (λ n w. refl) q) i)
      (subst (λ f. Linked (parent_in at) f (next_in at') (previous_in at')) (λ i q. sym (h (λ o. links_first (option_map links_of o)) (λ n w. refl) q) i)
      (subst (λ f. Linked (parent_in at) (first_in at) f (previous_in at')) (λ i q. sym (h (λ o. links_after (option_map links_of o)) (λ n w. refl) q) i)
      (subst (λ f. Linked (parent_in at) (first_in at) (next_in at) f) (λ i q. sym (h previous_of (λ n w. refl) q) i) chained)))

  pub IsLinked-write : (eq : K → K → Bool) (m n : HashMap ℕ (Node K D) Hasher) (next k : ℕ) (v : Node K D) (w : D) → Some v ≡ node_numbered m.entries k → WritesThrough nat_eq (nat_eq k) m (record v { item = w }) n → IsLinked eq m.entries next → IsLinked eq n.entries next
  IsLinked-write eq m n next k v w at h linked =
      let keeps : (f : Option (Node K D) → Option ℕ) → ((x : Node K D) (d : D) → f (Some (record x { item = d })) ≡ f (Some x)) → (q : ℕ) → f (node_numbered n.entries q) ≡ f (node_numbered m.entries q) =
      λ f e. write-keeps m n next k v w at h f (e v w) in
      record {
        tree = subst (IsTree eq) (sym (view-write m n next k v w at h)) (IsTree-with_item eq (keyed_of m.entries next) k w linked.tree);
        chained = same_chained (node_numbered m.entries) (node_numbered n.entries) keeps linked.chained;
        root_alone = keeps (λ o. links_after (option_map links_of o)) (λ x d. refl) 1 ∙ linked.root_alone;
      }

  -- ---- a root alone
  pub IsLinked-lone : (eq : K → K → Bool) (m n : HashMap ℕ (Node K D) Hasher) (v : Node K D) → m.entries ≡ [] → v.parent_and_key ≡ None → v.first_child ≡ None → v.next_sibling ≡ None → Updates nat_eq m n 1 (Some v) → IsLinked eq n.entries 2
  IsLinked-lone eq m n v nil at first_none after_none h =
      let is : node_numbered n.entries ≡ with_node_at (λ _. None) 1 (Some v) = node_at-updated m n 1 (Some v) h ∙ ap (λ (es : List (ℕ × Node K D)). with_node_at (node_numbered es) 1 (Some v)) nil in
      record {
        tree = subst (IsTree eq) (sym (view-lone m n v nil at h)) (IsTree-lone eq v.item);
        chained = subst IsChained (sym is) (record {
          listed = λ p. (
            [],
            record {
              linked = either p (λ o. links_first (option_map links_of o)) refl first_none;
              once = no_distinct;
              members = λ q. ((λ h. absurd (false≢true h)), (λ e. absurd (none≢some p (sym (either q (λ o. option_map (λ w. w.0) (parent_and_key_of (option_map entry_of o))) refl (ap (option_map (λ w. w.0)) at)) ∙ e))));
            },
          );
        });
        root_alone = ap (λ f. next_in f 1) is ∙ either 1 (λ o. links_after (option_map links_of o)) refl after_none;
      }
    where
      either : (q : ℕ) (f : Option (Node K D) → Option ℕ) → f None ≡ None → f (Some v) ≡ None → f (with_node_at (λ _. None) 1 (Some v) q) ≡ None
      either q f e g = elim (q == 1) as (λ b. f (cond b (Some v) None) ≡ None) [ true ↦ g | false ↦ e ]

  -- ---- what a write of one link changes
  module _ (at : ℕ → Option (Node K D)) where
    pub first_keeps : (n : ℕ) (f : Node K D → Node K D) → ((x : Node K D) → (f x).first_child ≡ x.first_child) → (q : ℕ) → first_in (with_change_at at n f) q ≡ first_in at q
    first_keeps n f e = changed-keeps at n f (λ o. links_first (option_map links_of o)) (each f e)
      where
        each : (f : Node K D → Node K D) → ((x : Node K D) → (f x).first_child ≡ x.first_child) → (o : Option (Node K D)) → links_first (option_map links_of (option_map f o)) ≡ links_first (option_map links_of o)
        each f e None = refl
        each f e (Some x) = e x

    pub after_keeps : (n : ℕ) (f : Node K D → Node K D) → ((x : Node K D) → (f x).next_sibling ≡ x.next_sibling) → (q : ℕ) → next_in (with_change_at at n f) q ≡ next_in at q
    after_keeps n f e = changed-keeps at n f (λ o. links_after (option_map links_of o)) (each f e)
      where
        each : (f : Node K D → Node K D) → ((x : Node K D) → (f x).next_sibling ≡ x.next_sibling) → (o : Option (Node K D)) → links_after (option_map links_of (option_map f o)) ≡ links_after (option_map links_of o)
        each f e None = refl
        each f e (Some x) = e x

    pub before_keeps : (n : ℕ) (f : Node K D → Node K D) → ((x : Node K D) → (f x).previous_sibling ≡ x.previous_sibling) → (q : ℕ) → previous_in (with_change_at at n f) q ≡ previous_in at q
    before_keeps n f e = changed-keeps at n f previous_of (each f e)
      where
        each : (f : Node K D → Node K D) → ((x : Node K D) → (f x).previous_sibling ≡ x.previous_sibling) → (o : Option (Node K D)) → previous_of (option_map f o) ≡ previous_of o
        each f e None = refl
        each f e (Some x) = e x

    pub entry_keeps : (n : ℕ) (f : Node K D → Node K D) → ((x : Node K D) → entry_of (f x) ≡ entry_of x) → (q : ℕ) → option_map entry_of (with_change_at at n f q) ≡ option_map entry_of (at q)
    entry_keeps n f e = changed-keeps at n f (option_map entry_of) (each f e)
      where
        each : (f : Node K D → Node K D) → ((x : Node K D) → entry_of (f x) ≡ entry_of x) → (o : Option (Node K D)) → option_map entry_of (option_map f o) ≡ option_map entry_of o
        each f e None = refl
        each f e (Some x) = ap (λ (y : Entry K D). Some y) (e x)

    pub some_node : (n : ℕ) (f : Node K D → Node K D) (q : ℕ) → is_some (with_change_at at n f q) ≡ is_some (at q)
    some_node n f = changed-keeps at n f is_some (mapped-some f)

    pub with_first-here : (n : ℕ) (o : Option ℕ) → IsSome (at n) → first_in (with_first_child at n o) n ≡ o
    with_first-here n o h = ap (λ v. links_first (option_map links_of v)) (changed-here at n (λ x. record x { first_child = o })) ∙ each (at n) h
      where
        each : (v : Option (Node K D)) → IsSome v → links_first (option_map links_of (option_map {T = Node K D} (λ x. record x { first_child = o }) v)) ≡ o
        each None h = absurd (false≢true h)
        each (Some x) h = refl

    pub with_first-other : (n : ℕ) (o : Option ℕ) (q : ℕ) → q ≢ n → first_in (with_first_child at n o) q ≡ first_in at q
    with_first-other n o q ne = ap (λ v. links_first (option_map links_of v)) (changed-other at n (λ x. record x { first_child = o }) q ne)

    pub with_next-here : (n : ℕ) (o : Option ℕ) → IsSome (at n) → next_in (with_next at n o) n ≡ o
    with_next-here n o h = ap (λ v. links_after (option_map links_of v)) (changed-here at n (λ x. record x { next_sibling = o })) ∙ each (at n) h
      where
        each : (v : Option (Node K D)) → IsSome v → links_after (option_map links_of (option_map {T = Node K D} (λ x. record x { next_sibling = o }) v)) ≡ o
        each None h = absurd (false≢true h)
        each (Some x) h = refl

    pub with_next-other : (n : ℕ) (o : Option ℕ) (q : ℕ) → q ≢ n → next_in (with_next at n o) q ≡ next_in at q
    with_next-other n o q ne = ap (λ v. links_after (option_map links_of v)) (changed-other at n (λ x. record x { next_sibling = o }) q ne)

    pub with_previous-here : (n : ℕ) (o : Option ℕ) → IsSome (at n) → previous_in (with_previous at n o) n ≡ o
    with_previous-here n o h = ap previous_of (changed-here at n (λ x. record x { previous_sibling = o })) ∙ each (at n) h
      where
        each : (v : Option (Node K D)) → IsSome v → previous_of (option_map {T = Node K D} (λ x. record x { previous_sibling = o }) v) ≡ o
        each None h = absurd (false≢true h)
        each (Some x) h = refl

    pub with_previous-other : (n : ℕ) (o : Option ℕ) (q : ℕ) → q ≢ n → previous_in (with_previous at n o) q ≡ previous_in at q
    with_previous-other n o q ne = ap previous_of (changed-other at n (λ x. record x { previous_sibling = o }) q ne)

  -- ---- a link back
  module _ (at : ℕ → Option (Node K D)) where
    pub back_entry : (m o : Option ℕ) (q : ℕ) → option_map entry_of (led_back at m o q) ≡ option_map entry_of (at q)
    back_entry None o q = refl
    back_entry (Some m) o q = entry_keeps at m (λ x. record x { previous_sibling = o }) (λ x. refl) q

    pub back_first : (m o : Option ℕ) (q : ℕ) → first_in (led_back at m o) q ≡ first_in at q
    back_first None o q = refl
    back_first (Some m) o q = first_keeps at m (λ x. record x { previous_sibling = o }) (λ x. refl) q

    pub back_after : (m o : Option ℕ) (q : ℕ) → next_in (led_back at m o) q ≡ next_in at q
    back_after None o q = refl
    back_after (Some m) o q = after_keeps at m (λ x. record x { previous_sibling = o }) (λ x. refl) q

    pub back_here : (m o : Option ℕ) (q : ℕ) → m ≡ Some q → IsSome (at q) → previous_in (led_back at m o) q ≡ o
    back_here None o q e h = absurd (none≢some q e)
    back_here (Some m) o q e h = ap (λ v. previous_in (with_previous at v o) q) (same_some m q e) ∙ with_previous-here at q o h

    pub back_other : (m o : Option ℕ) (q : ℕ) → m ≢ Some q → previous_in (led_back at m o) q ≡ previous_in at q
    back_other None o q ne = refl
    back_other (Some m) o q ne = with_previous-other at m o q (λ e. ne (ap (λ (x : ℕ). Some x) (sym e)))

  -- ---- a new first child
  module _ (eq : K → K → Bool) (symm : (a b : K) → eq a b ≡ eq b a) (es fs : List (ℕ × Node K D)) (next id later p : ℕ) (k : K) (v : Node K D) (linked : IsLinked eq es next)
      (none : node_numbered es id ≡ None) (positive : 0 < id) (small : id < later) (grows : next ≤ later)
      (known_p : IsSome (node_numbered es p)) (free : child (eq k) (keyed_of es next) p ≡ None) (parent_and_key_v : v.parent_and_key ≡ Some (p, k)) (first_v : v.first_child ≡ None)
      (after_v : v.next_sibling ≡ first_in (node_numbered es) p) (before_v : v.previous_sibling ≡ None)
      (is : node_numbered fs ≡ put_before (with_node_at (node_numbered es) id (Some v)) p id (first_in (node_numbered es) p)) where
    abbrev at0 : ℕ → Option (Node K D)
    at0 = node_numbered es

    abbrev at1 : ℕ → Option (Node K D)
    at1 = with_node_at at0 id (Some v)

    kept_entry : (q : ℕ) → option_map entry_of (put_before at1 p id (first_in at0 p) q) ≡ option_map entry_of (at1 q)
    kept_entry q = back_entry (with_first_child at1 p (Some id)) (first_in at0 p) (Some id) q ∙ entry_keeps at1 p (λ x. record x { first_child = Some id }) (λ x. refl) q

    pub keyed-added : keyed_of fs later ≡ add_as (keyed_of es next) id later p k v.item
    keyed-added = view-add es fs next id later p k v parent_and_key_v (λ q. ap (λ f. option_map entry_of (f q)) is ∙ kept_entry q)

    pub IsLinked-added : IsLinked eq fs later
    IsLinked-added =
        let below : (q : ℕ) → IsSome (at0 q) → q ≢ id = λ q h e. false≢true (sym (ap is_some none) ∙ subst (λ v. IsSome (at0 v)) e h) in
        let child_below : (q r : ℕ) → parent_in at0 q ≡ Some r → IsSome (at0 q) = λ q r e. sym (known-view es next q) ∙ known_from_parent (keyed_of es next) q r (ap (λ f. f q) (parent-view es next) ∙ e) in
        let here1 : at1 id ≡ Some v = with_node-here at0 id (Some v) in
        let other1 : (q : ℕ) → q ≢ id → at1 q ≡ at0 q = with_node-other at0 id (Some v) in
        let head : (q : ℕ) → first_in at0 p ≡ Some q → IsSome (at0 q) = λ q e. child_below q p (first_child_of linked.chained p q e).0 in
        let mid : ℕ → Option (Node K D) = with_first_child at1 p (Some id) in
        let known1 : (q : ℕ) → IsSome (at0 q) → IsSome (at1 q) = λ q h. ap is_some (other1 q (below q h)) ∙ h in
        record {
          tree = subst (IsTree eq) (sym keyed-added) (IsTree-add_as eq symm (keyed_of es next) id later p k v.item linked.tree (entry-view es next id None (sym none)) positive small grows (known-view es next p ∙ known_p) free);
          chained = subst IsChained (sym is) (Linked-put id p linked.chained
              (λ q e. false≢true (sym (ap is_some none) ∙ child_below id q e))
              (ap (λ o. option_map (λ w. w.0) (parent_and_key_of o)) (kept_entry id ∙ ap (option_map entry_of) here1) ∙ ap (option_map (λ w. w.0)) parent_and_key_v)
              (λ q ne. ap (λ o. option_map (λ w. w.0) (parent_and_key_of o)) (kept_entry q ∙ ap (option_map entry_of) (other1 q ne)))
              (back_first mid (first_in at0 p) (Some id) p ∙ with_first-here at1 p (Some id) (known1 p known_p))
              (λ q ne. back_first mid (first_in at0 p) (Some id) q ∙ with_first-other at1 p (Some id) q ne
              ∙ elim (cases_eq q id) [
                | inl e ↦ subst (λ x. first_in at1 x ≡ first_in at0 x) (sym e) (ap (λ o. links_first (option_map links_of o)) here1 ∙ first_v ∙ sym (ap (λ o. links_first (option_map links_of o)) none))
                | inr e ↦ ap (λ o. links_first (option_map links_of o)) (other1 q e)
              ])
              (back_after mid (first_in at0 p) (Some id) id ∙ after_keeps at1 p (λ x. record x { first_child = Some id }) (λ x. refl) id ∙ ap (λ o. links_after (option_map links_of o)) here1 ∙ after_v)
              (λ q ne. back_after mid (first_in at0 p) (Some id) q ∙ after_keeps at1 p (λ x. record x { first_child = Some id }) (λ x. refl) q ∙ ap (λ o. links_after (option_map links_of o)) (other1 q ne))
              (back_other mid (first_in at0 p) (Some id) id (λ e. below id (head id e) refl) ∙ before_keeps at1 p (λ x. record x { first_child = Some id }) (λ x. refl) id ∙ ap previous_of here1 ∙ before_v)
              (λ q ne e. back_here mid (first_in at0 p) (Some id) q e (some_node at1 p (λ x. record x { first_child = Some id }) q ∙ known1 q (head q e)))
              (λ q ne e. back_other mid (first_in at0 p) (Some id) q e ∙ before_keeps at1 p (λ x. record x { first_child = Some id }) (λ x. refl) q ∙ ap previous_of (other1 q ne)));
          root_alone = ap (λ f. next_in f 1) is ∙ back_after mid (first_in at0 p) (Some id) 1 ∙ after_keeps at1 p (λ x. record x { first_child = Some id }) (λ x. refl) 1
              ∙ ap (λ o. links_after (option_map links_of o)) (other1 1 (below 1 (sym (known-view es next 1) ∙ linked.tree.root.0))) ∙ linked.root_alone;
        }
