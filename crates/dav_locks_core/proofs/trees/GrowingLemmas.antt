-- What an added child, and other locks at a node, do to a tree of locks.
use Rattle.std.proofs.Common.{◌≡◌, ◌≢◌, ◌⊎◌, inl, inr, ℕ, List, [], ◌∷◌, Option, Some, None, Result, Ok, Err, OnErr, is_some, refl, sym, ap, ◌∙◌, subst, arith}
use Rattle.std.specs.Prelude.{option_and_then}
use Rattle.std.specs.Option.{option_map, unwrap_or}
use Rattle.std.specs.Ordering.{nat_cmp}
use Rattle.std.specs.Cmp.{nat_cmp_total}
use Rattle.std.specs.FinMap.{FinMap, get, insert, same_map, nat_cmp-IsAntisymmetric}
use Rattle.std.specs.Cmp.Lexicographic.{bytes_decides}
use Rattle.std.proofs.lemmas.Bool.{cases_eq, true≢false}
use Rattle.dav_path_core.specs.Fronts.{Segment, Path}
use Rattle.dav_path_core.specs.Keyed.{Entry, Under, here, below, entry, item, parent_number, parent_and_key_of, child, IsKnown, IsTree, add, with_item, with_item_at}
use Rattle.dav_path_core.proofs.trees.Trees.{Sets, Sets-insert, child-some, child-none, known_from_child, same_some}
use Rattle.dav_path_core.proofs.trees.KeyedCuts.{parent_child, Under-mono}
use Rattle.dav_locks_core.specs.Private.LockTree.{NumberedLock, LockTree, is_segment, child_at, node_below, Grown}
use Rattle.dav_locks_core.specs.Private.Pruning.{AllNeeded, NeededBut, SameLocks}
use Rattle.dav_locks_core.proofs.walks.SubtreeLemmas.{is_parent, way_stays}
use Rattle.dav_locks_core.proofs.trees.WayLemmas.{child_at-is, child_at-from, is_segment-refl}

-- ---- the same locks once more

with_same_at : (t : LockTree) (n : ℕ) (d : List NumberedLock) (o : Option (Entry Segment (List NumberedLock))) → entry t n ≡ o → option_map (λ e. e.item) o ≡ Some d → with_item_at t n o d ≡ t
with_same_at t n d None e h = refl
with_same_at t n d (Some x) e h =
    let same : d ≡ x.item = sym (same_some x.item d h) in
    let s = Sets-insert t.nodes n (record x { item = d }) in
    let nodes : insert t.nodes n (record x { item = d }) ≡ t.nodes = same_map nat_cmp_total nat_cmp-IsAntisymmetric _ _ (λ q. elim (cases_eq q n) [
      | inl i ↦ ap (get (insert t.nodes n (record x { item = d }))) i ∙ s.here ∙ ap (λ (d : List NumberedLock). Some (record x { item = d })) same ∙ sym e ∙ ap (get t.nodes) (sym i)
      | inr ne ↦ s.other q ne
    ]) in
    ap (λ (m : FinMap nat_cmp (Entry Segment (List NumberedLock))). let u : LockTree = record { nodes = m; next = t.next } in u) nodes

with_same : (t : LockTree) (n : ℕ) (d : List NumberedLock) → item t n ≡ Some d → with_item t n d ≡ t
with_same t n d h = with_same_at t n d (entry t n) refl h

pub same_after : {A E : Type 0} (t : LockTree) (n : ℕ) (d inside after : List NumberedLock) (r : Result A E) → item t n ≡ Some d → inside ≡ d → OnErr r (after ≡ inside) → OnErr r (with_item t n after ≡ t)
same_after t n d inside after (Ok x) at is h = tt
same_after t n d inside after (Err e) at is h = ap (with_item t n) (h ∙ is) ∙ with_same t n d at

-- ---- an added child

pub child_known : (t : LockTree) (n : ℕ) (s : Segment) (c : ℕ) → child_at t n s ≡ Some c → IsKnown t c
child_known t n s c h = known_from_child t n s c (child_at-is t n s c h)

-- no child is in the way
pub free_child : (t : LockTree) (n : ℕ) (s : Segment) → child_at t n s ≡ None → child (is_segment s) t n ≡ None
free_child t n s h = by (child (is_segment s) t n) refl
  where
    by : (o : Option ℕ) → child (is_segment s) t n ≡ o → o ≡ None
    by None e = refl
    by (Some c) e =
        let w = child-some t (is_segment s) n c e in
        let same : s ≡ w.0 = (bytes_decides s w.0).0 w.2 in
        absurd (true≢false (sym (is_segment-refl s) ∙ ap (λ k. is_segment k s) same ∙ child-none t (λ k. is_segment k s) n h c w.0 w.1))

-- u is t with a child of n under s
pub record Grows (t u : LockTree) (n : ℕ) (s : Segment) : Type 0 where
  pub grown : Grown t u
  pub child : child_at u n s ≡ Some t.next
  pub known : IsKnown u t.next

Grows-add : (t : LockTree) (n : ℕ) (s : Segment) → IsTree is_segment t → IsTree is_segment (add t n s []) → Grows t (add t n s []) n s
Grows-add t n s tree tree' =
    let u : LockTree = add t n s [] in
    let e : Entry Segment (List NumberedLock) = record { parent_and_key = Some (n, s); item = [] } in
    let sets : Sets (entry t) (entry u) t.next (Some e) = Sets-insert t.nodes t.next e in
    let old : (m : ℕ) → IsKnown t m → m ≢ t.next = λ m h i. omega (arith, (tree.numbered m h).1, i) in
    let kept : (m : ℕ) → IsKnown t m → entry u m ≡ entry t m = λ m h. sets.other m (old m h) in
    record {
      grown = record {
        known = λ m h. ap is_some (kept m h) ∙ h;
        locks = λ m. elim (cases_eq m t.next) [
          | inl i ↦ ap (λ o. unwrap_or (option_map (λ e. e.item) o) []) (ap (entry u) i ∙ sets.here) ∙ sym (ap (λ o. unwrap_or (option_map (λ e. e.item) o) []) (ap (entry t) i ∙ none (entry t t.next) refl))
          | inr ne ↦ ap (λ o. unwrap_or (option_map (λ e. e.item) o) []) (sets.other m ne)
        ];
        ways = λ k c w h.
            let is = child_at-is t k w c h in
            child_at-from u tree' k w c (ap parent_and_key_of (kept c (known_from_child t k w c is)) ∙ is);
      };
      child = child_at-from u tree' n s t.next (ap parent_and_key_of sets.here);
      known = ap is_some sets.here;
    }
  where
    none : (o : Option (Entry Segment (List NumberedLock))) → entry t t.next ≡ o → entry t t.next ≡ None
    none None i = i
    none (Some x) i = absurd (omega (arith, (tree.numbered t.next (ap is_some i)).1))

pub Grows-by : (t u : LockTree) (n : ℕ) (s key : Segment) (standing : List NumberedLock) → IsTree is_segment t → IsTree is_segment u → key ≡ s → standing ≡ []
    → u ≡ add t n key standing → Grows t u n s
Grows-by t u n s key standing tree tree' key_is standing_is is =
    let same : u ≡ add t n s [] = is ∙ ap (λ (k : Segment). add t n k standing) key_is ∙ ap (add t n s) standing_is in
    subst (λ v. Grows t v n s) (sym same) (Grows-add t n s tree (subst (IsTree is_segment) same tree'))

-- ---- the way to a path, made node by node

Grown-refl : (t : LockTree) → Grown t t
Grown-refl t = record { known = λ n h. h; locks = λ n. refl; ways = λ n c s h. h }

pub Grown-trans : (t u v : LockTree) → Grown t u → Grown u v → Grown t v
Grown-trans t u v g h = record {
  known = λ n k. h.known n (g.known n k);
  locks = λ n. h.locks n ∙ g.locks n;
  ways = λ n c s k. h.ways n c s (g.ways n c s k);
}

-- what lay above a node lies above it still
pub parents-grown : (t u : LockTree) → IsTree is_segment t → Grown t u → (k p : ℕ) → parent_number t k ≡ Some p → parent_number u k ≡ Some p
parents-grown t u tree g k p e =
    let c = parent_child (entry t k) p e in
    is_parent u p k c.0 (g.ways p k c.0 (child_at-from t tree p c.0 k c.1))

pub Under-grown : (t u : LockTree) → IsTree is_segment t → Grown t u → {n m : ℕ} → Under (parent_number t) n m → Under (parent_number u) n m
Under-grown t u tree g v = Under-mono (parents-grown t u tree g) v

pub SameLocks-grown : (t u : LockTree) → Grown t u → IsTree is_segment u → SameLocks t u
SameLocks-grown t u g tree = record {
  tree = tree;
  locks = g.locks;
  ways = λ n p some h. way_stays t u g.ways 1 n p h;
}

-- t has grown to u, where the way to p is made as far as node n, with this rest to come; each new node is on that way
pub record IsMade (t u : LockTree) (p rest : Path) (n : ℕ) : Type 0 where
  pub shape : IsTree is_segment u
  pub known : IsKnown u n
  pub grown : Grown t u
  pub leads : (v : LockTree) → Grown u v → node_below v 1 p ≡ node_below v n rest
  pub on_way : (q : ℕ) → IsKnown u q → IsKnown t q ⊎ Under (parent_number u) q n

pub IsMade-none : (t : LockTree) (p : Path) → IsTree is_segment t → IsMade t t p p 1
IsMade-none t p tree = record { shape = tree; known = tree.root.0; grown = Grown-refl t; leads = λ v g. refl; on_way = λ q h. inl h }

pub IsMade-more : (t u v : LockTree) (p rest : Path) (s : Segment) (n c : ℕ) → IsMade t u p (s ∷ rest) n → Grown u v → IsTree is_segment v → child_at v n s ≡ Some c → IsKnown v c
    → ((k : ℕ) → IsKnown v k → IsKnown u k ⊎ (k ≡ c)) → IsMade t v p rest c
unfolding node_below
IsMade-more t u v p rest s n c m g tree child known alone = record {
  shape = tree;
  known = known;
  grown = Grown-trans t u v m.grown g;
  leads = λ w h. m.leads w (Grown-trans u v w g h) ∙ ap (λ o. option_and_then (λ c. node_below w c rest) o) (h.ways n c s child);
  on_way = λ q h. elim (alone q h) [
    | inl old ↦ elim (m.on_way q old) [
      | inl older ↦ inl older
      | inr way ↦ inr (below (is_parent v n c s child) (Under-grown u v m.shape g way))
    ]
    | inr is ↦ inr (subst (λ k. Under (parent_number v) k c) (sym is) here)
  ];
}

pub IsMade-end : (t u : LockTree) (p rest : Path) (n : ℕ) → IsMade t u p rest n → rest ≡ [] → node_below u 1 p ≡ Some n
unfolding node_below
IsMade-end t u p rest n m e = m.leads u (Grown-refl u) ∙ ap (node_below u n) e

-- where each node was needed, all but those on the way are
pub IsMade-needed : (t u : LockTree) (p rest : Path) (n : ℕ) → IsTree is_segment t → AllNeeded t → IsMade t u p rest n → NeededBut u n
IsMade-needed t u p rest n tree needed m k known = elim (m.on_way k known) [
  | inl old ↦ inl (elim (needed k old) [
    | inl one ↦ inl one
    | inr w ↦ inr (w.0, Under-grown t u tree m.grown w.1, λ e. w.2 (sym (m.grown.locks w.0) ∙ e))
  ])
  | inr way ↦ inr way
]

-- the one new node is the child
pub alone-add : (t u : LockTree) (n : ℕ) (s key : Segment) (standing : List NumberedLock) (c : ℕ) → key ≡ s → c ≡ t.next
    → u ≡ add t n key standing → (k : ℕ) → IsKnown u k → IsKnown t k ⊎ (k ≡ c)
alone-add t u n s key standing c key_is number is k known =
    let same : u ≡ add t n s standing = is ∙ ap (λ (k : Segment). add t n k standing) key_is in
    let e : Entry Segment (List NumberedLock) = record { parent_and_key = Some (n, s); item = standing } in
    elim (cases_eq k t.next) [
      | inl i ↦ inr (i ∙ sym number)
      | inr ne ↦ inl (ap is_some (sym ((Sets-insert t.nodes t.next e).other k ne)) ∙ ap (λ (v : LockTree). is_some (entry v k)) (sym same) ∙ known)
    ]
