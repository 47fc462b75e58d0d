-- What is left of a tree of locks, and of its list, where all goes that stands at a node and below it.
use Rattle.std.proofs.Common.{◌≡◌, ◌≢◌, inl, inr, ℕ, ◌<◌, Bool, true, false, not, cond, List, [], ◌∷◌, Option, Some, None, is_some, refl, sym, ap, ◌∙◌, subst}
use Rattle.std.specs.Prelude.{filter}
use Rattle.std.specs.Ordering.{nat_cmp}
use Rattle.std.specs.FinMap.{find}
use Rattle.std.proofs.lemmas.Bool.{cases_eq, cases_Bool, false≢true, true≢false}
use Rattle.dav_path_core.specs.Fronts.{Segment, Path, is_front}
use Rattle.dav_path_core.specs.Keyed.{Entry, Under, here, below, entry, parent_number, parent_and_key, parent_and_key_of, is_under, with_item, with_item_at, IsKnown, IsTree, IsCut}
use Rattle.dav_path_core.specs.TreeValue.{first, IsTreeValue}
use Rattle.dav_path_core.proofs.trees.Cutting.{Under-trans, known_below, fewer_gone}
use Rattle.dav_path_core.proofs.trees.KeyedDepth.{is_under-true}
use Rattle.dav_path_core.proofs.trees.Trees.{Sets, Sets-insert, IsTree-with_item, none≢some, same_some, none_from_is_some}
use Rattle.dav_locks_core.specs.Lock.{Lock}
use Rattle.dav_locks_core.specs.Locks.{lock_path, is_at_or_below}
use Rattle.dav_locks_core.specs.Private.LockTree.{NumberedLock, LockTree, is_segment, locks_at, node_below}
use Rattle.dav_locks_core.specs.Private.Pruning.{AllNeeded, NeededBut, Cleared}
use Rattle.dav_locks_core.specs.Private.SubtreeWalks.{LinkedLocks}
use Rattle.dav_locks_core.specs.Private.LockRepresents.{Represents}
use Rattle.dav_locks_core.proofs.lists.NumberedLemmas.{InOrder, kept_if, find-filter, InOrder-filter}
use Rattle.dav_locks_core.proofs.trees.PruningLemmas.{Under-kept, Under-before, way_kept}
use Rattle.dav_path_core.proofs.walks.SiblingLemmas.{no_first}
use Rattle.dav_locks_core.proofs.trees.StandingLemmas.{locks_of_entry}
use Rattle.dav_path_core.proofs.walks.AboveLemmas.{one_above, not_below_child}
use Rattle.dav_locks_core.proofs.walks.SubtreeLemmas.{through, front_of}

-- ---- child by child

-- u is t without some of what stands below top
pub record ClearsTo (t u : LockTree) (top : ℕ) : Type 0 where
  pub tree : IsTree is_segment u
  pub known : IsKnown u top
  pub inside : (n : ℕ) → IsKnown u n → entry u n ≡ entry t n
  pub kept : (n : ℕ) → (Under (parent_number t) top n → ⊥) → entry u n ≡ entry t n

pub clears_from : (t : LockTree) (top : ℕ) → IsTree is_segment t → IsKnown t top → ClearsTo t t top
clears_from t top tree known = record { tree = tree; known = known; inside = λ n k. refl; kept = λ n u. refl }

same_places : (t u : LockTree) (top : ℕ) → ClearsTo t u top → (q : ℕ) → IsKnown u q → parent_and_key u q ≡ parent_and_key t q
same_places t u top g q known = ap parent_and_key_of (g.inside q known)

module _ (t u w : LockTree) (top c : ℕ) (g : ClearsTo t u top) (up : parent_number u c ≡ Some top) (known : IsKnown u c) (cut : IsCut u w c) where
  stays : (n : ℕ) → IsKnown w n → Under (parent_number u) c n → ⊥
  stays n k v = false≢true (sym (ap is_some (cut.gone n v)) ∙ k)

  left : (n : ℕ) → IsKnown w n → entry w n ≡ entry u n
  left n k = cut.kept n (stays n k)

  pub clears_on : IsTree is_segment w → ClearsTo t w top
  clears_on tree = record {
    tree = tree;
    known = ap is_some (cut.kept top (λ v. not_below_child is_segment u g.tree c top up v)) ∙ g.known;
    inside = λ n k. left n k ∙ g.inside n (ap is_some (sym (left n k)) ∙ k);
    kept = λ n outside. cut.kept n (λ v. outside (Under-before t u g.tree (same_places t u top g) (Under-trans (below up here) v))) ∙ g.kept n outside;
  }

  pub clears_fewer : known_below w w.next < known_below u u.next
  clears_fewer =
      subst (λ m. known_below w m < known_below u u.next) (sym cut.next)
      (fewer_gone u w c u.next (λ q k. ap is_some (sym (left q k)) ∙ k) known (cut.gone c here) (g.tree.numbered c known).1)

-- ---- the locks at the node

pub entry-with_item : (u : LockTree) (n : ℕ) (standing : List NumberedLock) (x : Entry Segment (List NumberedLock)) → entry u n ≡ Some x
    → Sets (entry u) (entry (with_item u n standing)) n (Some (record x { item = standing }))
entry-with_item u n standing x e =
    subst (λ (v : LockTree). Sets (entry u) (entry v) n (Some (record x { item = standing }))) (sym (ap (λ o. with_item_at u n o standing) e)) (Sets-insert u.nodes n (record x { item = standing }))

last_child : {f : ℕ → Option ℕ} {n k : ℕ} → Under f n k → k ≢ n → (c : ℕ) × (f c ≡ Some n)
last_child here ne = absurd (ne refl)
last_child {n = n} {k = k} (below {p = p} e u) ne = elim (cases_eq p n) [ inl is ↦ (k, e ∙ ap (λ (x : ℕ). Some x) is) | inr further ↦ last_child u further ]

pub clears_end : (t : LockTree) (u : LinkedLocks) (top : ℕ) → IsTreeValue is_segment u → ClearsTo t u.keyed top → first u top ≡ None → Cleared t (with_item u.keyed top []) top
clears_end t u top shape g last = by (entry u.keyed top) refl
  where
    by : (o : Option (Entry Segment (List NumberedLock))) → entry u.keyed top ≡ o → Cleared t (with_item u.keyed top []) top
    by None e = absurd (false≢true (sym (ap is_some e) ∙ g.known))
    by (Some x) e =
        let s = entry-with_item u.keyed top [] x e in
        record {
          tree = IsTree-with_item is_segment u.keyed top [] g.tree;
          known = ap is_some s.here;
          same_place = ap parent_and_key_of s.here ∙ ap parent_and_key_of (sym e) ∙ same_places t u.keyed top g top g.known;
          here = locks_of_entry (with_item u.keyed top []) top _ s.here;
          below = λ n v ne. s.other n ne ∙ elim (cases_Bool (is_some (entry u.keyed n))) [
            | inl k ↦
                let w = last_child (Under-kept t u.keyed g.tree (same_places t u.keyed top g) v k) ne in
                absurd (no_first is_segment u shape top w.0 last w.1)
            | inr none ↦ none_from_is_some _ none
          ];
          kept = λ n outside. s.other n (λ is. outside (subst (λ v. Under (parent_number t) top v) (sym is) here)) ∙ g.kept n outside;
        }

-- ---- the list that is left

module _ (t u : LockTree) (top : ℕ) (g : Cleared t u top) where
  -- what is known outside the subtree, or where locks stand
  outside_known : (n : ℕ) → IsKnown u n → n ≢ top → Under (parent_number t) top n → ⊥
  outside_known n known ne v = false≢true (sym (ap is_some (g.below n v ne)) ∙ known)

  pub outside_locked : (n : ℕ) → locks_at u n ≢ [] → Under (parent_number t) top n → ⊥
  outside_locked n some v = elim (cases_eq n top) [
    | inl is ↦ some (ap (locks_at u) is ∙ g.here)
    | inr ne ↦ some (locks_of_entry u n None (g.below n v ne))
  ]

  places_left : (q : ℕ) → IsKnown u q → parent_and_key u q ≡ parent_and_key t q
  places_left q known = elim (cases_eq q top) [
    | inl is ↦ subst (λ q. parent_and_key u q ≡ parent_and_key t q) (sym is) g.same_place
    | inr ne ↦ ap parent_and_key_of (g.kept q (outside_known q known ne))
  ]

  pub locks_left : (n : ℕ) → (Under (parent_number t) top n → ⊥) → locks_at u n ≡ locks_at t n
  locks_left n outside = locks_of_entry u n (entry t n) (g.kept n outside)

  known_of_locks : (v : LockTree) (n : ℕ) → locks_at v n ≢ [] → IsKnown v n
  known_of_locks v n some = by (entry v n) refl
    where
      by : (o : Option (Entry Segment (List NumberedLock))) → entry v n ≡ o → IsKnown v n
      by None e = absurd (some (locks_of_entry v n None e))
      by (Some x) e = ap is_some e

  not_empty : (v : LockTree) (n k : ℕ) (l : Lock) → find nat_cmp k (locks_at v n) ≡ Some l → locks_at v n ≢ []
  not_empty v n k l h none = none≢some l (sym (ap (find nat_cmp k) none) ∙ h)

  pub NeededBut-cleared : IsTree is_segment t → IsKnown t top → AllNeeded t → NeededBut u top
  NeededBut-cleared tree top_known needed k known = elim (needed k known_before) [
    | inl one ↦ inl (inl one)
    | inr m ↦ elim (cases_Bool (is_under t top m.0)) [
      | inl is ↦ elim (one_above m.1 ((is_under-true is_segment t tree top m.0 (known_of_locks t m.0 m.2)).0 is)) [
        | inl above ↦ inr (Under-kept t u g.tree places_left above g.known)
        | inr under ↦ elim (cases_eq k top) [
          | inl same ↦ inr (subst (λ v. Under (parent_number u) v top) (sym same) here)
          | inr ne ↦ absurd (outside_known k known ne under)
        ]
      ]
      | inr aside ↦
          let outside : Under (parent_number t) top m.0 → ⊥ = λ v. true≢false (sym ((is_under-true is_segment t tree top m.0 (known_of_locks t m.0 m.2)).1 v) ∙ aside) in
          let left : IsKnown u m.0 = ap is_some (g.kept m.0 outside) ∙ known_of_locks t m.0 m.2 in
          inl (inr (m.0, Under-kept t u g.tree places_left m.1 left, λ e. m.2 (sym (locks_left m.0 outside) ∙ e)))
    ]
  ]
    where
      known_before : IsKnown t k
      known_before = elim (cases_eq k top) [
        | inl is ↦ subst (IsKnown t) (sym is) top_known
        | inr ne ↦ ap is_some (sym (g.kept k (outside_known k known ne))) ∙ known
      ]

  module _ (granted : List NumberedLock) (next : ℕ) (r : Represents t granted next) (p : Path) (leads : node_below t 1 p ≡ Some top) where
    abbrev stays_listed : NumberedLock → Bool
    stays_listed g = not (is_at_or_below g.1 p)

    kept_listed : (o : Option Lock) (k : ℕ) (l : Lock) → kept_if stays_listed k o ≡ Some l → (o ≡ Some l) × (is_at_or_below l p ≡ false)
    kept_listed None k l h = absurd (none≢some l h)
    kept_listed (Some v) k l h = by (is_at_or_below v p) refl h
      where
        by : (b : Bool) → is_at_or_below v p ≡ b → cond (not b) (Some v) None ≡ Some l → (Some v ≡ Some l) × (is_at_or_below l p ≡ false)
        by true e h = absurd (none≢some l h)
        by false e h = (h, subst (λ l. is_at_or_below l p ≡ false) (same_some v l h) e)

    kept_found : (k : ℕ) (l : Lock) → find nat_cmp k granted ≡ Some l → is_at_or_below l p ≡ false → find nat_cmp k (filter stays_listed granted) ≡ Some l
    kept_found k l h outside = find-filter stays_listed granted k r.in_order ∙ ap (kept_if stays_listed k) h ∙ ap (λ b. cond (not b) (Some l) None) outside

    found_kept : (k : ℕ) (l : Lock) → find nat_cmp k (filter stays_listed granted) ≡ Some l → (find nat_cmp k granted ≡ Some l) × (is_at_or_below l p ≡ false)
    found_kept k l h = kept_listed (find nat_cmp k granted) k l (sym (find-filter stays_listed granted k r.in_order) ∙ h)

    -- a lock stands in the subtree where its path is at or below p
    outside_path : (n : ℕ) (l : Lock) → node_below t 1 (lock_path l) ≡ Some n → (Under (parent_number t) top n → ⊥) → is_at_or_below l p ≡ false
    outside_path n l h outside = elim (cases_Bool (is_front p (lock_path l))) [
      | inl is ↦
          let w = through t 1 n p (lock_path l) is h in
          absurd (outside (subst (λ v. Under (parent_number t) v n) (same_some w.0 top (sym w.1 ∙ leads)) w.2))
      | inr aside ↦ aside
    ]

    pub Represents-cleared : Represents u (filter stays_listed granted) next
    Represents-cleared = record {
      tree = g.tree;
      in_order = InOrder-filter stays_listed granted r.in_order;
      nodes_in_order = λ n. in_order_at n (locks_at u n) refl;
      listed = λ n k l h.
          let some = not_empty u n k l h in
          let outside = outside_locked n some in
          let w = r.listed n k l (sym (ap (find nat_cmp k) (locks_left n outside)) ∙ h) in
          (kept_found k l w.0 (outside_path n l w.1 outside), (way_kept t u g.tree places_left 1 n (lock_path l) w.1 (known_of_locks u n some)).1);
      stands = λ k l h.
          let a = found_kept k l h in
          let w = r.stands k l a.0 in
          let at = (r.listed w.0 k l w.1).1 in
          (w.0, ap (find nat_cmp k) (locks_left w.0 (λ v. true≢false (sym (front_of t r.tree top w.0 p (lock_path l) leads at v) ∙ a.1))) ∙ w.1);
      below = λ k l h. r.below k l (found_kept k l h).0;
    }
      where
        in_order_at : (n : ℕ) (ls : List NumberedLock) → locks_at u n ≡ ls → InOrder (locks_at u n)
        in_order_at n [] e = subst InOrder (sym e) tt
        in_order_at n (x ∷ ls) e =
            let outside = outside_locked n (λ none. let both : (x ∷ ls) ≡ [] = sym e ∙ none in absurd (cc)) in
            subst InOrder (sym (locks_left n outside)) (r.nodes_in_order n)
