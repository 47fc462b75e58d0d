-- A tree represents one list, and what each change of the tree does to it.
use Rattle.std.proofs.Common.{◌≡◌, ◌≢◌, inl, inr, ℕ, ◌+◌, ◌<◌, ◌==◌, true, false, cond, List, [], ◌∷◌, ◌++◌, length, get_or, set, Option, Some, None, IsSome, is_some, refl, sym, ap, ◌∙◌, subst, arith}
use Rattle.std.specs.Prelude.{remove}
use Rattle.std.specs.Option.{option_map, option_or, unwrap_or}
use Rattle.std.specs.Ordering.{nat_cmp, eq_by_cmp}
use Rattle.std.specs.Cmp.{nat_cmp_total}
use Rattle.std.specs.FinMap.{get, find, entries, entries_sorted, from_entries, get-from_entries, get-entries, get-empty, empty, nat_cmp-IsAntisymmetric}
use Rattle.std.specs.FinMap.Entries.{same_entries}
use Rattle.std.proofs.lemmas.Bool.{cases_eq, eq-eqb, ne_eqb, false≢true}
use Rattle.dav_path_core.specs.Fronts.{Segment}
use Rattle.dav_path_core.specs.Keyed.{Entry, entry, parent_and_key, parent_and_key_of, IsKnown, IsTree, with_item, with_item_at, lone}
use Rattle.dav_path_core.proofs.trees.Trees.{Sets, Sets-insert, IsTree-with_item, find-here, find-head, same_some, none≢some}
use Rattle.dav_locks_core.specs.Lock.{Lock}
use Rattle.dav_locks_core.specs.Locks as locks
use Rattle.dav_locks_core.specs.Private.LockTree.{NumberedLock, LockTree, locks_at, is_segment, child_at, node_below, all_standing, all_granted}
use Rattle.dav_locks_core.specs.Private.Pruning.{SameLocks}
use Rattle.dav_locks_core.specs.Private.LockRepresents.{Represents}
use Rattle.dav_locks_core.proofs.walks.SubtreeLemmas.{way_stays}
use Rattle.dav_locks_core.proofs.lists.NumberedLemmas.{InOrder, AllBelow, find-later, in_order_tail, found_at_place, find-push, InOrder-push, InOrder-remove, found-removed, found-kept, InOrder-set, find-set}
use Rattle.dav_locks_core.proofs.trees.WayLemmas.{child_at-is, child_at-from}

-- ---- one list

abbrev Nodes : Type 0
Nodes = List (ℕ × Entry Segment (List NumberedLock))

find-both : (g : ℕ) (xs ys : List NumberedLock) → find nat_cmp g (xs ++ ys) ≡ option_or (find nat_cmp g xs) (find nat_cmp g ys)
find-both g [] ys = refl
find-both g (x ∷ xs) ys =
    elim (eq_by_cmp nat_cmp g x.0) as (λ b. cond b (Some x.1) (find nat_cmp g (xs ++ ys)) ≡ option_or (cond b (Some x.1) (find nat_cmp g xs)) (find nat_cmp g ys)) [
      | true ↦ refl
      | false ↦ find-both g xs ys
    ]

-- what is found among all stands at a node
in_node : (g : ℕ) (l : Lock) (es : Nodes) → InOrder es → find nat_cmp g (all_standing es) ≡ Some l
    → (n : ℕ) × (e : Entry Segment (List NumberedLock)) × (find nat_cmp n es ≡ Some e) × (find nat_cmp g e.item ≡ Some l)
in_node g l [] s h = absurd (none≢some l h)
in_node g l (e ∷ es) s h = by (λ more. in_node g l es (in_order_tail e es s) more) (find nat_cmp g e.1.item) refl (sym (find-both g e.1.item (all_standing es)) ∙ h)
  where
    by : (find nat_cmp g (all_standing es) ≡ Some l → (n : ℕ) × (f : Entry Segment (List NumberedLock)) × (find nat_cmp n es ≡ Some f) × (find nat_cmp g f.item ≡ Some l))
        → (o : Option Lock) → find nat_cmp g e.1.item ≡ o → option_or o (find nat_cmp g (all_standing es)) ≡ Some l
        → (n : ℕ) × (f : Entry Segment (List NumberedLock)) × (find nat_cmp n (e ∷ es) ≡ Some f) × (find nat_cmp g f.item ≡ Some l)
    by rec None i h = let w = rec h in (w.0, w.1, find-later e es w.0 w.1 s w.2, w.3)
    by rec (Some m) i h = (e.0, e.1, find-here e es, i ∙ h)

-- and what stands at a node is among all
some_later : (o : Option Lock) (r : Option Lock) → IsSome r → IsSome (option_or o r)
some_later None r s = s
some_later (Some x) r s = refl

some_here : (o : Option Lock) (r : Option Lock) → IsSome o → IsSome (option_or o r)
some_here None r s = absurd (false≢true s)
some_here (Some x) r s = refl

among : (g n : ℕ) (e : Entry Segment (List NumberedLock)) (es : Nodes) → find nat_cmp n es ≡ Some e → IsSome (find nat_cmp g e.item) → IsSome (find nat_cmp g (all_standing es))
among g n e [] h s = absurd (none≢some e h)
among g n e (x ∷ es) h s =
    subst IsSome (sym (find-both g x.1.item (all_standing es)))
    (elim (n == x.0) as (λ b. (n == x.0) ≡ b → cond b (Some x.1) (find nat_cmp n es) ≡ Some e → IsSome (option_or (find nat_cmp g x.1.item) (find nat_cmp g (all_standing es)))) [
      | true ↦ λ t h. some_here _ _ (subst (λ (f : Entry Segment (List NumberedLock)). IsSome (find nat_cmp g f.item)) (sym (same_some x.1 e h)) s)
      | false ↦ λ t h. some_later _ _ (among g n e es h s)
    ] refl (sym (find-head n x es) ∙ h))

-- the locks at a node, by its entry
pub locks_of_entry : (t : LockTree) (n : ℕ) (o : Option (Entry Segment (List NumberedLock))) → entry t n ≡ o → locks_at t n ≡ unwrap_or (option_map (λ e. e.item) o) []
locks_of_entry t n o h = ap (λ o. unwrap_or (option_map (λ e. e.item) o) []) h

pub one_list : (t : LockTree) (granted : List NumberedLock) (next : ℕ) → Represents t granted next → all_granted t ≡ granted
unfolding all_granted
one_list t granted next r =
    let m = from_entries {R = nat_cmp} (all_standing (entries t.nodes)) in
    same_entries nat_cmp nat_cmp_total nat_cmp-IsAntisymmetric (entries m) granted (entries_sorted m) r.in_order
    (λ q. sym (get-entries m q) ∙ get-from_entries nat_cmp_total (all_standing (entries t.nodes)) q ∙ same q (find nat_cmp q (all_standing (entries t.nodes))) refl)
  where
    none : (q : ℕ) → find nat_cmp q (all_standing (entries t.nodes)) ≡ None → (l : Lock) (n : ℕ) → find nat_cmp q (locks_at t n) ≡ Some l → ⊥
    none q e l n h = by (entry t n) refl
      where
        by : (o : Option (Entry Segment (List NumberedLock))) → entry t n ≡ o → ⊥
        by None i = none≢some l (sym (ap (find nat_cmp q) (locks_of_entry t n None i)) ∙ h)
        by (Some x) i =
            let some : IsSome (find nat_cmp q x.item) = ap is_some (sym (ap (find nat_cmp q) (locks_of_entry t n (Some x) i)) ∙ h) in
            false≢true (ap is_some (sym e) ∙ among q n x (entries t.nodes) (sym (get-entries t.nodes n) ∙ i) some)

    same : (q : ℕ) (o : Option Lock) → find nat_cmp q (all_standing (entries t.nodes)) ≡ o → o ≡ find nat_cmp q granted
    same q None e = by (find nat_cmp q granted) refl
      where
        by : (o : Option Lock) → find nat_cmp q granted ≡ o → None ≡ o
        by None i = refl
        by (Some l) i = let w = r.stands q l i in absurd (none q e l w.0 w.1)
    same q (Some l) e =
        let w = in_node q l (entries t.nodes) (entries_sorted t.nodes) e in
        sym (r.listed w.0 q l (ap (find nat_cmp q) (locks_of_entry t w.0 (Some w.1) (get-entries t.nodes w.0 ∙ w.2)) ∙ w.3)).0

-- ---- the same locks in another tree

pub Represents-same : (t u : LockTree) (granted : List NumberedLock) (next : ℕ) → Represents t granted next → SameLocks t u → Represents u granted next
Represents-same t u granted next r g = record {
  tree = g.tree;
  in_order = r.in_order;
  nodes_in_order = λ n. subst InOrder (sym (g.locks n)) (r.nodes_in_order n);
  listed = λ n k l h.
      let at : find nat_cmp k (locks_at t n) ≡ Some l = sym (ap (find nat_cmp k) (g.locks n)) ∙ h in
      let w = r.listed n k l at in
      (w.0, g.ways n (locks.lock_path l) (λ none. none≢some l (sym (ap (find nat_cmp k) none) ∙ at)) w.1);
  stands = λ k l h. let w = r.stands k l h in (w.0, ap (find nat_cmp k) (g.locks w.0) ∙ w.1);
  below = r.below;
}

-- ---- other locks at one node

-- u is t with these locks at n
pub record Changes (t u : LockTree) (n : ℕ) (here : List NumberedLock) : Type 0 where
  pub tree : IsTree is_segment u
  pub at : locks_at u n ≡ here
  pub other : (m : ℕ) → m ≢ n → locks_at u m ≡ locks_at t m
  pub ways : (n c : ℕ) (s : Segment) → child_at t n s ≡ Some c → child_at u n s ≡ Some c
  pub known : (m : ℕ) → IsKnown u m → IsKnown t m
  pub places : (m : ℕ) → parent_and_key u m ≡ parent_and_key t m

pub Changes-with_item : (t : LockTree) (n : ℕ) (here : List NumberedLock) → IsTree is_segment t → IsKnown t n → Changes t (with_item t n here) n here
Changes-with_item t n here tree known = by (entry t n) refl
  where
    tree' : IsTree is_segment (with_item t n here)
    tree' = IsTree-with_item is_segment t n here tree

    by : (o : Option (Entry Segment (List NumberedLock))) → entry t n ≡ o → Changes t (with_item t n here) n here
    by None e = absurd (false≢true (sym (ap is_some e) ∙ known))
    by (Some x) e =
        let u = with_item t n here in
        let s = Sets-insert t.nodes n (record x { item = here }) in
        let same : u ≡ with_item_at t n (Some x) here = ap (λ o. with_item_at t n o here) e in
        let parents_and_keys : (m : ℕ) → parent_and_key u m ≡ parent_and_key t m = λ m. ap (λ (v : LockTree). parent_and_key v m) same ∙ elim (cases_eq m n) [
          | inl i ↦ subst (λ k. parent_and_key (with_item_at t n (Some x) here) k ≡ parent_and_key t k) (sym i) (ap parent_and_key_of s.here ∙ sym (ap parent_and_key_of e))
          | inr ne ↦ ap parent_and_key_of (s.other m ne)
        ] in
        record {
          tree = tree';
          at = locks_of_entry u n _ (ap (λ (v : LockTree). entry v n) same ∙ s.here);
          other = λ m ne. ap (λ o. unwrap_or (option_map (λ e. e.item) o) []) (ap (λ (v : LockTree). entry v m) same ∙ s.other m ne);
          ways = λ k c w h. child_at-from u tree' k w c (parents_and_keys c ∙ child_at-is t k w c h);
          known = λ m h. elim (cases_eq m n) [
            | inl i ↦ subst (IsKnown t) (sym i) known
            | inr ne ↦ sym (ap is_some (ap (λ (v : LockTree). entry v m) same ∙ s.other m ne)) ∙ h
          ];
          places = parents_and_keys;
        }

module _ (t u : LockTree) (granted : List NumberedLock) (next : ℕ) (r : Represents t granted next) where
  all_below : AllBelow next granted
  all_below j d lt = r.below _ _ (found_at_place granted j d r.in_order lt)

  pub all_below_at : (n : ℕ) → AllBelow next (locks_at t n)
  all_below_at n j d lt = r.below _ _ (r.listed n _ _ (found_at_place (locks_at t n) j d (r.nodes_in_order n) lt)).0

  apart_from_next : (g : ℕ) (l : Lock) → find nat_cmp g granted ≡ Some l → g ≢ next
  apart_from_next g l h e = omega (arith, r.below g l h, e)

  module _ (n : ℕ) (l : Lock) (leads : node_below t 1 (locks.lock_path l) ≡ Some n) (c : Changes t u n (locks_at t n ++ (next, l) ∷ [])) where
    here : List NumberedLock
    here = locks_at t n ++ (next, l) ∷ []

    longer : List NumberedLock
    longer = granted ++ (next, l) ∷ []

    old : (g : ℕ) → g ≢ next → find nat_cmp g longer ≡ find nat_cmp g granted
    unfolding longer
    old g ne = find-push granted next l g all_below ∙ ap (λ b. cond b (Some l) (find nat_cmp g granted)) (ne_eqb g next ne)

    new : find nat_cmp next longer ≡ Some l
    unfolding longer
    new = find-push granted next l next all_below ∙ ap (λ b. cond b (Some l) (find nat_cmp next granted)) (eq-eqb next next refl)

    old_here : (g : ℕ) → g ≢ next → find nat_cmp g here ≡ find nat_cmp g (locks_at t n)
    unfolding here
    old_here g ne = find-push (locks_at t n) next l g (all_below_at n) ∙ ap (λ b. cond b (Some l) (find nat_cmp g (locks_at t n))) (ne_eqb g next ne)

    new_here : find nat_cmp next here ≡ Some l
    unfolding here
    new_here = find-push (locks_at t n) next l next (all_below_at n) ∙ ap (λ b. cond b (Some l) (find nat_cmp next (locks_at t n))) (eq-eqb next next refl)

    -- a lock that was there is listed still
    still : (m g : ℕ) (k : Lock) → find nat_cmp g (locks_at t m) ≡ Some k → (find nat_cmp g longer ≡ Some k) × (node_below u 1 (locks.lock_path k) ≡ Some m)
    still m g k h =
        let w = r.listed m g k h in
        (old g (apart_from_next g k w.0) ∙ w.0, way_stays t u c.ways 1 m (locks.lock_path k) w.1)

    listed : (m g : ℕ) (k : Lock) → find nat_cmp g (locks_at u m) ≡ Some k → (find nat_cmp g longer ≡ Some k) × (node_below u 1 (locks.lock_path k) ≡ Some m)
    unfolding here
    listed m g k h = elim (cases_eq m n) [
      | inl e ↦
          let at : find nat_cmp g here ≡ Some k = sym (ap (find nat_cmp g) (ap (locks_at u) e ∙ c.at)) ∙ h in
          elim (cases_eq g next) [
            | inl i ↦
                let same : l ≡ k = same_some l k (sym (ap (λ g. find nat_cmp g here) i ∙ new_here) ∙ at) in
                (ap (λ g. find nat_cmp g longer) i ∙ new ∙ ap (λ (k : Lock). Some k) same, ap (λ (k : Lock). node_below u 1 (locks.lock_path k)) (sym same) ∙ way_stays t u c.ways 1 n (locks.lock_path l) leads ∙ ap (λ (m : ℕ). Some m) (sym e))
            | inr ne ↦ still m g k (ap (λ m. find nat_cmp g (locks_at t m)) e ∙ sym (old_here g ne) ∙ at)
          ]
      | inr ne ↦ still m g k (sym (ap (find nat_cmp g) (c.other m ne)) ∙ h)
    ]

    stands : (g : ℕ) (k : Lock) → find nat_cmp g longer ≡ Some k → (m : ℕ) × (find nat_cmp g (locks_at u m) ≡ Some k)
    unfolding here
    stands g k h = elim (cases_eq g next) [
      | inl i ↦
          let same : l ≡ k = same_some l k (sym (ap (λ g. find nat_cmp g longer) i ∙ new) ∙ h) in
          (n, ap (find nat_cmp g) c.at ∙ ap (λ g. find nat_cmp g here) i ∙ new_here ∙ ap (λ (k : Lock). Some k) same)
      | inr ne ↦
          let w = r.stands g k (sym (old g ne) ∙ h) in
          elim (cases_eq w.0 n) [
            | inl e ↦ (n, ap (find nat_cmp g) c.at ∙ old_here g ne ∙ ap (λ m. find nat_cmp g (locks_at t m)) (sym e) ∙ w.1)
            | inr apart ↦ (w.0, ap (find nat_cmp g) (c.other w.0 apart) ∙ w.1)
          ]
    ]

    in_order_at : (m : ℕ) → InOrder (locks_at u m)
    in_order_at m = elim (cases_eq m n) [
      | inl e ↦ subst InOrder (sym (ap (locks_at u) e ∙ c.at)) (InOrder-push (locks_at t n) next l (r.nodes_in_order n) (all_below_at n))
      | inr ne ↦ subst InOrder (sym (c.other m ne)) (r.nodes_in_order m)
    ]

    pub Represents-push : Represents u (granted ++ (next, l) ∷ []) (next + 1)
    unfolding longer
    Represents-push = record {
      tree = c.tree;
      in_order = InOrder-push granted next l r.in_order all_below;
      nodes_in_order = in_order_at;
      listed = listed;
      stands = stands;
      below = λ g k h. elim (cases_eq g next) [
        | inl i ↦ omega (arith, i)
        | inr ne ↦ omega (arith, r.below g k (sym (old g ne) ∙ h))
      ];
    }

  module _ (n k j : ℕ) (d : NumberedLock) (within : k < length (locks_at t n)) (listed_at : j < length granted)
      (one : get_or granted j d ≡ get_or (locks_at t n) k d) (c : Changes t u n (remove (locks_at t n) k)) where
    gone : ℕ
    gone = (get_or (locks_at t n) k d).0

    was : find nat_cmp gone (locks_at t n) ≡ Some (get_or (locks_at t n) k d).1
    unfolding gone
    was = found_at_place (locks_at t n) k d (r.nodes_in_order n) within

    same_number : (get_or granted j d).0 ≡ gone
    unfolding gone
    same_number = ap (λ (g : NumberedLock). g.0) one

    -- the lock that goes stands at no other node
    only_here : (m g : ℕ) (l : Lock) → m ≢ n → find nat_cmp g (locks_at t m) ≡ Some l → g ≢ gone
    only_here m g l apart h e =
        let a = r.listed m g l h in
        let b = r.listed n gone _ was in
        let same : l ≡ (get_or (locks_at t n) k d).1 = same_some _ _ (sym a.0 ∙ ap (λ g. find nat_cmp g granted) e ∙ b.0) in
        apart (same_some m n (sym a.1 ∙ ap (λ (l : Lock). node_below t 1 (locks.lock_path l)) same ∙ b.1))

    keeps : (g : ℕ) (l : Lock) → g ≢ gone → find nat_cmp g granted ≡ Some l → find nat_cmp g (remove granted j) ≡ Some l
    keeps g l ne h = found-kept granted j d g l r.in_order listed_at (λ e. ne (e ∙ same_number)) h

    loses : (g : ℕ) (l : Lock) → find nat_cmp g (remove granted j) ≡ Some l → (g ≢ gone) × (find nat_cmp g granted ≡ Some l)
    loses g l h = let w = found-removed granted j d g l r.in_order listed_at h in (λ e. w.0 (e ∙ sym same_number), w.1)

    shorter_listed : (m g : ℕ) (l : Lock) → find nat_cmp g (locks_at u m) ≡ Some l → (find nat_cmp g (remove granted j) ≡ Some l) × (node_below u 1 (locks.lock_path l) ≡ Some m)
    unfolding gone
    shorter_listed m g l h = elim (cases_eq m n) [
      | inl e ↦
          let w = found-removed (locks_at t n) k d g l (r.nodes_in_order n) within (sym (ap (find nat_cmp g) (ap (locks_at u) e ∙ c.at)) ∙ h) in
          let a = r.listed n g l w.1 in
          (keeps g l w.0 a.0, way_stays t u c.ways 1 n (locks.lock_path l) a.1 ∙ ap (λ (m : ℕ). Some m) (sym e))
      | inr ne ↦
          let before : find nat_cmp g (locks_at t m) ≡ Some l = sym (ap (find nat_cmp g) (c.other m ne)) ∙ h in
          let a = r.listed m g l before in
          (keeps g l (only_here m g l ne before) a.0, way_stays t u c.ways 1 m (locks.lock_path l) a.1)
    ]

    shorter_stands : (g : ℕ) (l : Lock) → find nat_cmp g (remove granted j) ≡ Some l → (m : ℕ) × (find nat_cmp g (locks_at u m) ≡ Some l)
    unfolding gone
    shorter_stands g l h =
        let a = loses g l h in
        let w = r.stands g l a.1 in
        elim (cases_eq w.0 n) [
          | inl e ↦ (n, ap (find nat_cmp g) c.at ∙ found-kept (locks_at t n) k d g l (r.nodes_in_order n) within a.0 (ap (λ m. find nat_cmp g (locks_at t m)) (sym e) ∙ w.1))
          | inr ne ↦ (w.0, ap (find nat_cmp g) (c.other w.0 ne) ∙ w.1)
        ]

    shorter_in_order : (m : ℕ) → InOrder (locks_at u m)
    shorter_in_order m = elim (cases_eq m n) [
      | inl e ↦ subst InOrder (sym (ap (locks_at u) e ∙ c.at)) (InOrder-remove (locks_at t n) k (r.nodes_in_order n) within)
      | inr ne ↦ subst InOrder (sym (c.other m ne)) (r.nodes_in_order m)
    ]

    pub Represents-remove : Represents u (remove granted j) next
    Represents-remove = record {
      tree = c.tree;
      in_order = InOrder-remove granted j r.in_order listed_at;
      nodes_in_order = shorter_in_order;
      listed = shorter_listed;
      stands = shorter_stands;
      below = λ g l h. r.below g l (loses g l h).1;
    }

  -- another lock of the same path at one place
  module _ (n k j : ℕ) (l : Lock) (d : NumberedLock) (within : k < length (locks_at t n)) (listed_at : j < length granted)
      (one : get_or granted j d ≡ get_or (locks_at t n) k d) (same_path : locks.lock_path l ≡ locks.lock_path (get_or granted j d).1)
      (c : Changes t u n (set (locks_at t n) k ((get_or (locks_at t n) k d).0, l))) where
    number : ℕ
    number = (get_or (locks_at t n) k d).0

    listed_number : number ≡ (get_or granted j d).0
    unfolding number
    listed_number = ap (λ (g : NumberedLock). g.0) (sym one)

    -- the lock that is replaced, in the list and at its node
    was_listed : find nat_cmp number granted ≡ Some (get_or granted j d).1
    was_listed = ap (λ g. find nat_cmp g granted) listed_number ∙ found_at_place granted j d r.in_order listed_at

    was_here : find nat_cmp number (locks_at t n) ≡ Some (get_or granted j d).1
    unfolding number
    was_here = found_at_place (locks_at t n) k d (r.nodes_in_order n) within ∙ ap (λ (g : NumberedLock). Some g.1) (sym one)

    was_led : node_below t 1 (locks.lock_path l) ≡ Some n
    was_led = ap (node_below t 1) same_path ∙ (r.listed n number _ was_here).1

    found_list : (g : ℕ) → find nat_cmp g (set granted j (number, l)) ≡ cond (g == number) (Some l) (find nat_cmp g granted)
    found_list g = find-set granted j number l d g r.in_order listed_at listed_number

    found_node : (g : ℕ) → find nat_cmp g (set (locks_at t n) k (number, l)) ≡ cond (g == number) (Some l) (find nat_cmp g (locks_at t n))
    unfolding number
    found_node g = find-set (locks_at t n) k number l d g (r.nodes_in_order n) within refl

    other_list : (g : ℕ) (o : Lock) → g ≢ number → find nat_cmp g granted ≡ Some o → find nat_cmp g (set granted j (number, l)) ≡ Some o
    other_list g o ne h = found_list g ∙ ap (λ b. cond b (Some l) (find nat_cmp g granted)) (ne_eqb g number ne) ∙ h

    new_list : (g : ℕ) → g ≡ number → find nat_cmp g (set granted j (number, l)) ≡ Some l
    new_list g e = found_list g ∙ ap (λ b. cond b (Some l) (find nat_cmp g granted)) (eq-eqb g number e)

    other_listed : (m g : ℕ) (o : Lock) → g ≢ number → find nat_cmp g (locks_at t m) ≡ Some o → (find nat_cmp g (set granted j (number, l)) ≡ Some o) × (node_below u 1 (locks.lock_path o) ≡ Some m)
    other_listed m g o ne h = let a = r.listed m g o h in (other_list g o ne a.0, way_stays t u c.ways 1 m (locks.lock_path o) a.1)

    set_listed : (m g : ℕ) (o : Lock) → find nat_cmp g (locks_at u m) ≡ Some o → (find nat_cmp g (set granted j (number, l)) ≡ Some o) × (node_below u 1 (locks.lock_path o) ≡ Some m)
    unfolding number
    set_listed m g o h = elim (cases_eq m n) [
      | inl e ↦
          let at : find nat_cmp g (set (locks_at t n) k (number, l)) ≡ Some o = sym (ap (find nat_cmp g) (ap (locks_at u) e ∙ c.at)) ∙ h in
          elim (cases_eq g number) [
            | inl i ↦
                let same : l ≡ o = same_some l o (sym (found_node g ∙ ap (λ b. cond b (Some l) (find nat_cmp g (locks_at t n))) (eq-eqb g number i)) ∙ at) in (
                  new_list g i ∙ ap (λ (o : Lock). Some o) same,
                  ap (λ (o : Lock). node_below u 1 (locks.lock_path o)) (sym same) ∙ way_stays t u c.ways 1 n (locks.lock_path l) was_led ∙ ap (λ (m : ℕ). Some m) (sym e),
                )
            | inr ne ↦
                let before : find nat_cmp g (locks_at t n) ≡ Some o = sym (found_node g ∙ ap (λ b. cond b (Some l) (find nat_cmp g (locks_at t n))) (ne_eqb g number ne)) ∙ at in
                other_listed m g o ne (ap (λ m. find nat_cmp g (locks_at t m)) e ∙ before)
          ]
      | inr apart ↦
          let before : find nat_cmp g (locks_at t m) ≡ Some o = sym (ap (find nat_cmp g) (c.other m apart)) ∙ h in
          other_listed m g o (λ i. only_there m g o apart before i) before
    ]
      where
        -- the lock that is replaced stands at no other node
        only_there : (m g : ℕ) (o : Lock) → m ≢ n → find nat_cmp g (locks_at t m) ≡ Some o → g ≡ number → ⊥
        only_there m g o apart before i =
            let a = r.listed m g o before in
            let same : o ≡ (get_or granted j d).1 = same_some _ _ (sym a.0 ∙ ap (λ g. find nat_cmp g granted) i ∙ was_listed) in
            apart (same_some m n (sym a.1 ∙ ap (λ (o : Lock). node_below t 1 (locks.lock_path o)) same ∙ ap (node_below t 1) (sym same_path) ∙ was_led))

    set_stands : (g : ℕ) (o : Lock) → find nat_cmp g (set granted j (number, l)) ≡ Some o → (m : ℕ) × (find nat_cmp g (locks_at u m) ≡ Some o)
    unfolding number
    set_stands g o h = elim (cases_eq g number) [
      | inl i ↦
          let same : l ≡ o = same_some l o (sym (new_list g i) ∙ h) in
          (n, ap (find nat_cmp g) c.at ∙ found_node g ∙ ap (λ b. cond b (Some l) (find nat_cmp g (locks_at t n))) (eq-eqb g number i) ∙ ap (λ (o : Lock). Some o) same)
      | inr ne ↦
          let w = r.stands g o (sym (found_list g ∙ ap (λ b. cond b (Some l) (find nat_cmp g granted)) (ne_eqb g number ne)) ∙ h) in
          elim (cases_eq w.0 n) [
            | inl e ↦ (
              n,
              ap (find nat_cmp g) c.at ∙ found_node g ∙ ap (λ b. cond b (Some l) (find nat_cmp g (locks_at t n))) (ne_eqb g number ne)
                  ∙ ap (λ m. find nat_cmp g (locks_at t m)) (sym e) ∙ w.1,
            )
            | inr apart ↦ (w.0, ap (find nat_cmp g) (c.other w.0 apart) ∙ w.1)
          ]
    ]

    set_below : (g : ℕ) (o : Lock) → find nat_cmp g (set granted j (number, l)) ≡ Some o → g < next
    set_below g o h = elim (cases_eq g number) [
      | inl i ↦ r.below g _ (ap (λ g. find nat_cmp g granted) i ∙ was_listed)
      | inr ne ↦ r.below g o (sym (found_list g ∙ ap (λ b. cond b (Some l) (find nat_cmp g granted)) (ne_eqb g number ne)) ∙ h)
    ]

    pub Represents-set : Represents u (set granted j ((get_or granted j d).0, l)) next
    unfolding number
    Represents-set = subst (λ v. Represents u (set granted j (v, l)) next) listed_number (record {
      tree = c.tree;
      in_order = InOrder-set granted j number l d r.in_order listed_at listed_number;
      nodes_in_order = λ m. elim (cases_eq m n) [
        | inl e ↦ subst InOrder (sym (ap (locks_at u) e ∙ c.at)) (InOrder-set (locks_at t n) k number l d (r.nodes_in_order n) within refl)
        | inr ne ↦ subst InOrder (sym (c.other m ne)) (r.nodes_in_order m)
      ];
      listed = set_listed;
      stands = set_stands;
      below = set_below;
    })

-- ---- no locks

pub Represents-none : (t : LockTree) (next : ℕ) → IsTree is_segment t → ((n : ℕ) → locks_at t n ≡ []) → Represents t [] next
Represents-none t next tree none = record {
  tree = tree;
  in_order = tt;
  nodes_in_order = λ n. subst InOrder (sym (none n)) tt;
  listed = λ n g l h. absurd (none≢some l (sym (ap (find nat_cmp g) (none n)) ∙ h));
  stands = λ g l h. absurd (none≢some l h);
  below = λ g l h. absurd (none≢some l h);
}

pub lone-none : (n : ℕ) → locks_at (lone []) n ≡ []
lone-none n =
    let e : Entry Segment (List NumberedLock) = record { parent_and_key = None; item = [] } in
    let s : Sets (get (empty {X = Entry Segment (List NumberedLock)} {R = nat_cmp})) (entry (lone [])) 1 (Some e) = Sets-insert empty 1 e in
    elim (cases_eq n 1) [
      | inl i ↦ ap (locks_at (lone [])) i ∙ locks_of_entry (lone []) 1 (Some e) s.here
      | inr ne ↦ locks_of_entry (lone []) n None (s.other n ne ∙ get-empty nat_cmp n)
    ]
