-- What is left of a tree of locks where nodes that no lock needs go.
use Rattle.std.proofs.Common.{◌≡◌, ◌≢◌, ◌⊎◌, inl, inr, ℕ, true, false, List, [], ◌∷◌, Option, Some, None, is_some, refl, sym, ap, ◌∙◌, subst, arith}
use Rattle.std.specs.Option.{option_map}
use Rattle.std.specs.Prelude.{option_and_then}
use Rattle.std.proofs.lemmas.Bool.{cases_eq, false≢true}
use Rattle.dav_path_core.specs.Fronts.{Segment, Path}
use Rattle.dav_path_core.specs.Keyed.{Entry, Under, here, below, entry, parent_number, parent_and_key, parent_and_key_of, has_child, without_node, lone, IsKnown, IsTree, child}
use Rattle.dav_path_core.proofs.trees.Cutting.{Under-trans}
use Rattle.dav_path_core.proofs.trees.KeyedCuts.{IsLeaf, leaf, entry-without, apart, parent-without, known-without, IsTree-without}
use Rattle.dav_path_core.proofs.trees.Trees.{none≢some, child-some, known_from_child, known_from_parent, IsTree-lone}
use Rattle.dav_path_core.proofs.children.Walks.{parent_known}
use Rattle.dav_locks_core.specs.Private.LockTree.{NumberedLock, LockTree, is_segment, locks_at, child_at, node_below}
use Rattle.dav_locks_core.specs.Private.Pruning.{IsNeeded, AllNeeded, NeededBut, SameLocks}
use Rattle.dav_locks_core.proofs.trees.StandingLemmas.{Changes, locks_of_entry}
use Rattle.dav_path_core.proofs.walks.AboveLemmas.{Under-up, not_below_child, root_top, not_root}
use Rattle.dav_locks_core.proofs.walks.SubtreeLemmas.{node_at-step}
use Rattle.dav_locks_core.proofs.trees.WayLemmas.{child_at-is, child_at-from}

pub SameLocks-refl : (t : LockTree) → IsTree is_segment t → SameLocks t t
SameLocks-refl t tree = record { tree = tree; locks = λ n. refl; ways = λ n p some h. h }

pub SameLocks-trans : (t u v : LockTree) → SameLocks t u → SameLocks u v → SameLocks t v
SameLocks-trans t u v g h = record {
  tree = h.tree;
  locks = λ n. h.locks n ∙ g.locks n;
  ways = λ n p some w. h.ways n p (λ e. some (sym (g.locks n) ∙ e)) (g.ways n p some w);
}

-- ---- a tree with fewer nodes, at their places

module _ (t u : LockTree) (tree : IsTree is_segment u) (same : (q : ℕ) → IsKnown u q → parent_and_key u q ≡ parent_and_key t q) where
  same_parent : (q : ℕ) → IsKnown u q → parent_number u q ≡ parent_number t q
  same_parent q known = ap (option_map (λ w. w.0)) (same q known)

  -- a number that is left lies below what it lay below
  pub Under-kept : {n q : ℕ} → Under (parent_number t) n q → IsKnown u q → Under (parent_number u) n q
  Under-kept here known = here
  Under-kept {q = q} (below {p = p} e v) known =
      let up : parent_number u q ≡ Some p = same_parent q known ∙ e in
      below up (Under-kept v (parent_known is_segment u tree q p up))

  pub Under-before : {n q : ℕ} → Under (parent_number u) n q → Under (parent_number t) n q
  Under-before here = here
  Under-before {q = q} (below {p = p} e v) = below (sym (same_parent q (known_from_parent u q p e)) ∙ e) (Under-before v)

  -- and the way to it is left
  pub way_kept : (c n : ℕ) (p : Path) → node_below t c p ≡ Some n → IsKnown u n → IsKnown u c × (node_below u c p ≡ Some n)
  unfolding node_below
  way_kept c n [] h known = (subst (IsKnown u) (sym is) known, h)
    where
      is : c ≡ n
      is = cc
  way_kept c n (s ∷ p) h known = by (λ d h. way_kept d n p h known) (child_at t c s) refl h
    where
      by : ((d : ℕ) → node_below t d p ≡ Some n → IsKnown u d × (node_below u d p ≡ Some n))
          → (o : Option ℕ) → child_at t c s ≡ o → option_and_then (λ d. node_below t d p) o ≡ Some n → IsKnown u c × (node_below u c (s ∷ p) ≡ Some n)
      by rec None e h = absurd (none≢some n h)
      by rec (Some d) e h =
          let w = rec d h in
          let place : parent_and_key u d ≡ Some (c, s) = same d w.0 ∙ child_at-is t c s d e in
          (parent_known is_segment u tree d c (ap (option_map (λ w. w.0)) place), node_at-step u c d s p (child_at-from u tree c s d place) ∙ w.1)

-- u is t without some nodes at which no locks stand
pub record Pruned (t u : LockTree) : Type 0 where
  pub tree : IsTree is_segment u
  pub kept : (n : ℕ) → IsKnown u n → entry u n ≡ entry t n
  pub gone : (n : ℕ) → entry u n ≡ None → locks_at t n ≡ []

no_locks : (t : LockTree) (n : ℕ) → entry t n ≡ None → locks_at t n ≡ []
no_locks t n e = locks_of_entry t n None e

same_locks : (t u : LockTree) (n : ℕ) → entry u n ≡ entry t n → locks_at u n ≡ locks_at t n
same_locks t u n e = locks_of_entry u n (entry t n) e

SameLocks-pruned : (t u : LockTree) → Pruned t u → SameLocks t u
SameLocks-pruned t u p = record {
  tree = p.tree;
  locks = λ n. by n (entry u n) refl;
  ways = λ n q some h. (way_kept t u p.tree (λ q known. ap parent_and_key_of (p.kept q known)) 1 n q h (left n some (entry u n) refl)).1;
}
  where
    by : (n : ℕ) (o : Option (Entry Segment (List NumberedLock))) → entry u n ≡ o → locks_at u n ≡ locks_at t n
    by n None e = no_locks u n e ∙ sym (p.gone n e)
    by n (Some x) e = same_locks t u n (p.kept n (ap is_some e))

    left : (n : ℕ) → locks_at t n ≢ [] → (o : Option (Entry Segment (List NumberedLock))) → entry u n ≡ o → IsKnown u n
    left n some None e = absurd (some (p.gone n e))
    left n some (Some x) e = ap is_some e

-- ---- node by node

-- u is t without some nodes; what isn't needed stands at node or above it
pub record PrunesTo (t u : LockTree) (node : ℕ) : Type 0 where
  pub pruned : Pruned t u
  pub known : IsKnown u node
  pub needed : NeededBut u node

pub prunes_from : (t : LockTree) (node : ℕ) → IsTree is_segment t → IsKnown t node → NeededBut t node → PrunesTo t t node
prunes_from t node tree known needed = record {
  pruned = record { tree = tree; kept = λ n k. refl; gone = λ n e. no_locks t n e };
  known = known;
  needed = needed;
}

module _ (t u : LockTree) (node : ℕ) (g : PrunesTo t u node) where
  pub prunes_tree : IsTree is_segment u
  prunes_tree = g.pruned.tree

  pub prunes_on : (p : ℕ) → parent_number u node ≡ Some p → locks_at u node ≡ [] → has_child u node ≡ false → PrunesTo t (without_node u node) p
  prunes_on p up empty childless =
      let alone : IsLeaf u node = leaf u node childless in
      let v : LockTree = without_node u node in
      let gone = entry-without u node in
      let apart_up : p ≢ node = λ is. alone node (up ∙ ap (λ (x : ℕ). Some x) is) in
      record {
        pruned = record {
          tree = IsTree-without is_segment u node g.pruned.tree (not_root is_segment u g.pruned.tree node p up) alone;
          kept = λ n k. gone.other n (apart u node n k) ∙ g.pruned.kept n (known-without u node n k);
          gone = λ n e. elim (cases_eq n node) [
            | inl is ↦ ap (locks_at t) is ∙ sym (same_locks t u node (g.pruned.kept node g.known)) ∙ empty
            | inr ne ↦ g.pruned.gone n (sym (gone.other n ne) ∙ e)
          ];
        };
        known = ap is_some (gone.other p apart_up) ∙ parent_known is_segment u g.pruned.tree node p up;
        needed = λ k known. elim (g.needed k (known-without u node k known)) [
          | inl (inl one) ↦ inl (inl one)
          | inl (inr w) ↦
              let other : w.0 ≢ node = λ is. w.2 (ap (locks_at u) is ∙ empty) in
              inl (inr (w.0, still alone w.1 other, λ e. w.2 (sym (same_locks u v w.0 (gone.other w.0 other)) ∙ e)))
          | inr way ↦ inr (still alone (Under-up way (apart u node k known) up) apart_up)
        ];
      }
    where
      still : IsLeaf u node → {k m : ℕ} → Under (parent_number u) k m → m ≢ node → Under (parent_number (without_node u node)) k m
      still alone here ne = here
      still alone {m = m} (below {p = q} e w) ne = below (parent-without u node m ne ∙ e) (still alone w (λ is. alone m (e ∙ ap (λ (x : ℕ). Some x) is)))

  -- a node that stays is needed, and with it all
  node_needed : (node ≡ 1) ⊎ ((locks_at u node ≢ []) ⊎ (has_child u node ≡ true)) → IsNeeded u node
  node_needed (inl one) = inl one
  node_needed (inr (inl some)) = inr (node, here, some)
  node_needed (inr (inr parented)) = by (child (λ _. true) u node) refl parented
    where
      by : (o : Option ℕ) → child (λ _. true) u node ≡ o → is_some o ≡ true → IsNeeded u node
      by None e h = absurd (false≢true h)
      by (Some c) e h =
          let w = child-some u (λ _. true) node c e in
          let up : parent_number u c ≡ Some node = ap (option_map (λ q. q.0)) w.1 in
          elim (g.needed c (known_from_child u node w.0 c w.1)) [
            | inl (inl one) ↦ absurd (not_root is_segment u g.pruned.tree c node up one)
            | inl (inr m) ↦ inr (m.0, Under-trans (below up here) m.1, m.2)
            | inr way ↦ absurd (not_below_child is_segment u g.pruned.tree c node up way)
          ]

  pub prunes_end : (node ≡ 1) ⊎ ((locks_at u node ≢ []) ⊎ (has_child u node ≡ true)) → SameLocks t u × AllNeeded u
  prunes_end stays = (
    SameLocks-pruned t u g.pruned,
    λ k known. elim (g.needed k known) [
      | inl needed ↦ needed
      | inr way ↦ elim (node_needed stays) [
        | inl one ↦ inl (root_top is_segment u g.pruned.tree k (subst (λ v. Under (parent_number u) k v) one way))
        | inr m ↦ inr (m.0, Under-trans way m.1, m.2)
      ]
    ],
  )

-- ---- other locks at one node

module _ (t u : LockTree) (n : ℕ) (standing : List NumberedLock) (c : Changes t u n standing) where
  still_under : {k m : ℕ} → Under (parent_number t) k m → Under (parent_number u) k m
  still_under here = here
  still_under {m = m} (below e w) = below (ap (option_map (λ w. w.0)) (c.places m) ∙ e) (still_under w)

  pub NeededBut-changes : NeededBut t n → NeededBut u n
  NeededBut-changes needed k known = elim (needed k (c.known k known)) [
    | inl (inl one) ↦ inl (inl one)
    | inl (inr m) ↦ elim (cases_eq m.0 n) [
      | inl is ↦ inr (subst (λ v. Under (parent_number u) k v) is (still_under m.1))
      | inr ne ↦ inl (inr (m.0, still_under m.1, λ e. m.2 (sym (c.other m.0 ne) ∙ e)))
    ]
    | inr way ↦ inr (still_under way)
  ]

-- all are needed, where a lock stands at the one node that might not be
pub all_needed : (t : LockTree) (n : ℕ) → NeededBut t n → locks_at t n ≢ [] → AllNeeded t
all_needed t n needed some k known = elim (needed k known) [
  | inl h ↦ h
  | inr way ↦ inr (n, way, some)
]

-- a root alone
pub lone_needed : (t : LockTree) (standing : List NumberedLock) → t ≡ lone standing → AllNeeded t
lone_needed t standing is n known =
    let b = (IsTree-lone is_segment standing).numbered n (subst (λ (v : LockTree). IsKnown v n) is known) in
    inl (omega (arith, b.0, b.1))

pub needed_but : (t : LockTree) (n : ℕ) → AllNeeded t → NeededBut t n
needed_but t n needed k known = inl (needed k known)
