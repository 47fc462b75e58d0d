-- What the view of a tree answers, by the entries of its map.
use Rattle.std.proofs.Common.{◌≡◌, nat_eq, ◌≢◌, ◌==◌, ℕ, Bool, is_some, true, false, cond, List, [], ◌∷◌, Some, None, Option, refl, ap, sym, ◌∙◌, subst, inl, inr}
use Rattle.std.specs.Ordering.{nat_cmp, eq_by_cmp}
use Rattle.std.specs.Cmp.{nat_cmp_total, unsigned_tied}
use Rattle.std.specs.Option.{option_map}
use Rattle.std.specs.Map.{lookup}
use Rattle.std.specs.HashMap.{HashMap, Updates, WritesThrough}
use Rattle.std.specs.declared.hash.FoldHasher.{FoldHasher}
use Rattle.std.specs.declared.hash.BuildHasherDefault.{BuildHasherDefault}
use Rattle.std.proofs.lemmas.Cmp.{nat_eq_equiv}
use Rattle.std.proofs.lemmas.Bool.{cases_eq, eq-eqb, ne_eqb}
use Rattle.std.specs.FinMap.{FinMap, get, find, from_entries, insert, empty, get-insert, get-from_entries, same_map, nat_cmp-IsAntisymmetric}
use Rattle.std.proofs.lemmas.Map.Made.{lookup-map_values}
use Rattle.dav_path_core.specs.declared.tree.Node.{Node}
use Rattle.dav_path_core.specs.Keyed.{Entry, Keyed, entry, lone, add_as, with_item, with_item_at}
use Rattle.dav_path_core.specs.View.{entry_of, links_of, views_of, keyed_of, tree_value_of}
use Rattle.dav_path_core.specs.Private.Nodes.{node_numbered, with_node_at, with_change_at}

-- how the map of nodes hashes its numbers
abbrev pub Hasher : Type 0
Hasher = BuildHasherDefault FoldHasher

pub find-lookup : {X : Type 0} (q : ℕ) (es : List (ℕ × X)) → find nat_cmp q es ≡ lookup (nat_eq q) es
find-lookup q [] = refl
find-lookup q (e ∷ es) = ap (cond (eq_by_cmp nat_cmp q e.0) (Some e.1)) (find-lookup q es) ∙ ap (λ b. cond b (Some e.1) (lookup (nat_eq q) es)) (unsigned_tied q e.0)

turned : (k q : ℕ) → nat_eq k q ≡ (q == k)
turned k q = nat_eq_equiv.symm k q

-- two maps with the same look-ups
same : {Y : Type 0} (m n : FinMap nat_cmp Y) → ((q : ℕ) → get m q ≡ get n q) → m ≡ n
same = same_map nat_cmp_total nat_cmp-IsAntisymmetric

module _ {K D : Type 0} (at : ℕ → Option (Node K D)) (n : ℕ) (o : Option (Node K D)) where
  pub with_node-here : with_node_at at n o n ≡ o
  with_node-here = ap (λ b. cond b o (at n)) (eq-eqb n n refl)

  pub with_node-other : (q : ℕ) → q ≢ n → with_node_at at n o q ≡ at q
  with_node-other q ne = ap (λ b. cond b o (at q)) (ne_eqb q n ne)

module _ {K D : Type 0} where
  pub mapped-some : {Y : Type 0} (f : Node K D → Y) (o : Option (Node K D)) → is_some (option_map f o) ≡ is_some o
  mapped-some f None = refl
  mapped-some f (Some x) = refl

  pub get-seen : {Y : Type 0} (f : Node K D → Y) (es : List (ℕ × Node K D)) (q : ℕ) → get (from_entries {R = nat_cmp} (views_of f es)) q ≡ option_map f (node_numbered es q)
  get-seen f es q = get-from_entries nat_cmp_total (views_of f es) q ∙ find-lookup q (views_of f es) ∙ lookup-map_values f _ es

  pub same_seen : {Y : Type 0} (f : Node K D → Y) (es fs : List (ℕ × Node K D)) → ((q : ℕ) → option_map f (node_numbered fs q) ≡ option_map f (node_numbered es q)) → from_entries {R = nat_cmp} (views_of f fs) ≡ from_entries (views_of f es)
  same_seen f es fs h = same _ _ (λ q. get-seen f fs q ∙ h q ∙ sym (get-seen f es q))

  branch : {Y : Type 0} (f : Node K D → Y) (b : Bool) (v : Node K D) (o : Option (Node K D)) → option_map f (cond b (Some v) o) ≡ cond b (Some (f v)) (option_map f o)
  branch f true v o = refl
  branch f false v o = refl

  -- the nodes after an update of the map
  pub node_at-updated : (m n : HashMap ℕ (Node K D) Hasher) (k : ℕ) (o : Option (Node K D)) → Updates nat_eq m n k o → node_numbered n.entries ≡ with_node_at (node_numbered m.entries) k o
  node_at-updated m n k o h = λ i q. (h.0 q ∙ ap (λ b. cond b o (node_numbered m.entries q)) (turned k q)) i

  pub seen-insert : {Y : Type 0} (f : Node K D → Y) (es fs : List (ℕ × Node K D)) (k : ℕ) (v : Node K D) → ((q : ℕ) → option_map f (node_numbered fs q) ≡ option_map f (with_node_at (node_numbered es) k (Some v) q))
      → from_entries {R = nat_cmp} (views_of f fs) ≡ insert (from_entries (views_of f es)) k (f v)
  seen-insert f es fs k v h = same _ _ (λ q.
      get-seen f fs q ∙ h q ∙ branch f (q == k) v (node_numbered es q)
      ∙ ap (cond (q == k) (Some (f v))) (sym (get-seen f es q))
      ∙ ap (λ b. cond b (Some (f v)) (get (from_entries {R = nat_cmp} (views_of f es)) q)) (sym (unsigned_tied q k))
      ∙ sym (get-insert nat_cmp_total (from_entries (views_of f es)) k (f v) q))

  pub entry-view : (es : List (ℕ × Node K D)) (next q : ℕ) (o : Option (Node K D)) → o ≡ node_numbered es q → entry (keyed_of es next) q ≡ option_map entry_of o
  entry-view es next q o h = get-seen entry_of es q ∙ ap (option_map entry_of) (sym h)

  pub known-view : (es : List (ℕ × Node K D)) (next q : ℕ) → is_some (entry (keyed_of es next) q) ≡ is_some (node_numbered es q)
  known-view es next q = ap is_some (get-seen entry_of es q) ∙ mapped-some entry_of (node_numbered es q)

  pub view-add : (es fs : List (ℕ × Node K D)) (next id later p : ℕ) (k : K) (v : Node K D) → v.parent_and_key ≡ Some (p, k)
      → ((q : ℕ) → option_map entry_of (node_numbered fs q) ≡ option_map entry_of (with_node_at (node_numbered es) id (Some v) q))
      → keyed_of fs later ≡ add_as (keyed_of es next) id later p k v.item
  view-add es fs next id later p k v at h =
      ap (λ (f : FinMap nat_cmp (Entry K D)). let t : Keyed K D = record { nodes = f; next = later } in t)
      (seen-insert entry_of es fs id v h
      ∙ ap (λ (w : Option (ℕ × K)). let e : Entry K D = record { parent_and_key = w; item = v.item } in insert (from_entries {R = nat_cmp} (views_of entry_of es)) id e) at)

  pub view-lone : (m n : HashMap ℕ (Node K D) Hasher) (v : Node K D) → m.entries ≡ [] → v.parent_and_key ≡ None → Updates nat_eq m n 1 (Some v) → keyed_of n.entries 2 ≡ lone v.item
  view-lone m n v nil at h =
      ap (λ (f : FinMap nat_cmp (Entry K D)). let t : Keyed K D = record { nodes = f; next = 2 } in t)
      (seen-insert entry_of m.entries n.entries 1 v (λ q. ap (λ g. option_map entry_of (g q)) (node_at-updated m n 1 (Some v) h))
      ∙ ap (λ (es : List (ℕ × Node K D)). insert (from_entries {R = nat_cmp} (views_of entry_of es)) 1 (entry_of v)) nil
      ∙ ap (λ (w : Option (ℕ × K)). let e : Entry K D = record { parent_and_key = w; item = v.item } in insert (empty {R = nat_cmp}) 1 e) at)

  -- a write of an item through a reference into the map
  module _ (m n : HashMap ℕ (Node K D) Hasher) (next k : ℕ) (v : Node K D) (w : D) (at : Some v ≡ node_numbered m.entries k) (h : WritesThrough nat_eq (nat_eq k) m (record v { item = w }) n) where
    written : node_numbered n.entries ≡ with_node_at (node_numbered m.entries) k (Some (record v { item = w }))
    written = node_at-updated m n k (Some (record v { item = w })) (h.3 (ap is_some (sym at)))

    pub view-write : keyed_of n.entries next ≡ with_item (keyed_of m.entries next) k w
    view-write =
        ap (λ (f : FinMap nat_cmp (Entry K D)). let t : Keyed K D = record { nodes = f; next = next } in t) (seen-insert entry_of m.entries n.entries k (record v { item = w }) (λ q. ap (λ g. option_map entry_of (g q)) written))
        ∙ ap (λ o. with_item_at (keyed_of m.entries next) k o w) (sym (entry-view m.entries next k (Some v) at))

    -- what does not look at items stays
    pub write-keeps : {Y : Type 0} (f : Option (Node K D) → Y) → f (Some (record v { item = w })) ≡ f (Some v) → (q : ℕ) → f (node_numbered n.entries q) ≡ f (node_numbered m.entries q)
    write-keeps f e q = ap (λ g. f (g q)) written ∙ elim (cases_eq q k) [
      | inl is ↦ subst (λ x. f (with_node_at (node_numbered m.entries) k (Some (record v { item = w })) x) ≡ f (node_numbered m.entries x)) (sym is) (ap f (with_node-here (node_numbered m.entries) k (Some (record v { item = w }))) ∙ e ∙ ap f at)
      | inr ne ↦ ap f (with_node-other (node_numbered m.entries) k (Some (record v { item = w })) q ne)
    ]

    pub tree_value-write : tree_value_of n.entries next ≡ record (tree_value_of m.entries next) { keyed = with_item (keyed_of m.entries next) k w }
    tree_value-write = λ i. record { keyed = view-write i; links = same_seen links_of m.entries n.entries (write-keeps (option_map links_of) refl) i }

  -- ---- a change of one node
  module _ (at : ℕ → Option (Node K D)) (n : ℕ) (f : Node K D → Node K D) where
    pub changed-here : with_change_at at n f n ≡ option_map f (at n)
    changed-here = ap (λ b. cond b (option_map f (at n)) (at n)) (eq-eqb n n refl)

    pub changed-other : (q : ℕ) → q ≢ n → with_change_at at n f q ≡ at q
    changed-other q ne = ap (λ b. cond b (option_map f (at q)) (at q)) (ne_eqb q n ne)

    -- what does not look at the changed field stays
    pub changed-keeps : {Y : Type 0} (g : Option (Node K D) → Y) → ((o : Option (Node K D)) → g (option_map f o) ≡ g o) → (q : ℕ) → g (with_change_at at n f q) ≡ g (at q)
    changed-keeps g e q = elim (q == n) as (λ b. g (cond b (option_map f (at q)) (at q)) ≡ g (at q)) [ true ↦ e (at q) | false ↦ refl ]
