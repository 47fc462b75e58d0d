-- Moments that ascend, how many of them are before another, and which of a walk are late.
use Rattle.std.proofs.Common.{◌≡◌, ◌⊎◌, inl, inr, ℕ, zero, suc, ◌+◌, ◌<◌, ◌≤◌, Bool, true, false, List, [], ◌∷◌, ◌++◌, length, filter, get_or, map, take, Contains, Some, Result, Ok, Err, refl, sym, ap, subst, ◌∙◌, arith}
use Rattle.std.specs.Prelude.{nat_lt, nat_le, if◌then◌else◌, MatchResult}
use Rattle.std.specs.Cmp.{ranked, unsigned_ties}
use Rattle.std.specs.List.{AllByRecursion, dedup, flat_map}
use Rattle.std.specs.List.Retain.{DiffersFromLast, IsFiltered}
use Rattle.std.specs.List.Sorted.{IsBinarySearchResult, IsPermutation, IsSorted, IsStrictlySortedBy}
use Rattle.std.specs.FinMap.{entries}
use Rattle.std.specs.Ordering.{nat_cmp}
use Rattle.std.specs.declared.cmp.Ordering.TheVariants.{Less}
use Rattle.std.proofs.Math.Dec.{eqb}
use Rattle.std.proofs.lemmas.Bool.{cases_eq, le-leb, leb-true, lt-ltb, le-ltb, ltb-true}
use Rattle.std.proofs.lemmas.Cmp.{nat_cmp_total}
use Rattle.std.proofs.lemmas.Grind.{flat_map-append}
use Rattle.std.proofs.lemmas.List.{append-nil}
use Rattle.std.proofs.lemmas.List.Elements.{filter-append}
use Rattle.std.proofs.lemmas.List.Filters.{dedup_is}
use Rattle.std.proofs.lemmas.List.Kept.{Contains-dedup_nat, Contains-from_dedup, IsStrictlySortedBy-dedup}
use Rattle.std.proofs.lemmas.List.Sorted.{Contains-permutation, IsPermutation-sym, searched}
use Rattle.std.proofs.lemmas.Map.Keys.{below_from_sorted}
use Rattle.dav_path_core.specs.Fronts.{Path}
use Rattle.dav_path_core.proofs.lists.EntryLemmas.{entries-In}
use Rattle.dav_path_core.proofs.lists.MemberLemmas.{In, In-Contains, Contains-In, In-filter, In-front, In-behind}
use Rattle.dav_path_core.proofs.lists.Orders.{path_exact, path_total}
use Rattle.dav_files_core.specs.Resources.{Resource, ResourceMap, at_path}
use Rattle.dav_files_core.specs.Walks.{IsMapWalk, Stored, stored_entry}
use Rattle.dav_guarded_core.specs.Stores.{Stores}
use Rattle.dav_snapshots_core.specs.Private.LateMoments.{AreInOrder, AreLateOf, AscendFrom, moments_at}
use Rattle.dav_snapshots_core.specs.SetBack.{AreLate, StandsThere, how_many_before}
use Rattle.dav_snapshots_core.proofs.MetLemmas.{in_map}
use Rattle.dav_snapshots_core.proofs.PutLemmas.{take_next}

-- ---- how many are before another

-- as many as stand in front of the place at which the others begin
split_there : (xs : List ℕ) (m i : ℕ) → i ≤ length xs → ((k : ℕ) → k < i → get_or xs k 0 < m) → ((k : ℕ) → i ≤ k → k < length xs → m ≤ get_or xs k 0) → how_many_before m xs ≡ i
split_there [] m i le less more = omega arith
split_there (x ∷ xs) m zero le less more =
    let rest = split_there xs m 0 (omega arith) (λ k h. absurd (omega arith)) (λ k h l. more (suc k) (omega arith) (omega arith)) in
    rw (le-ltb x m (more 0 (omega arith) (omega arith))) rest
split_there (x ∷ xs) m (suc i) le less more =
    let rest = split_there xs m i (omega arith) (λ k h. less (suc k) (omega arith)) (λ k h l. more (suc k) (omega arith) (omega arith)) in
    rw (lt-ltb x m (less 0 (omega arith))) (ap suc rest)

rising : (xs : List ℕ) → IsStrictlySortedBy nat_cmp xs → (i j : ℕ) → i ≤ j → j < length xs → get_or xs i 0 ≤ get_or xs j 0
rising xs s i j le lt = elim (cases_eq i j) [
  | inl e ↦ subst (λ k. get_or xs i 0 ≤ get_or xs k 0) e (omega arith)
  | inr n ↦ let b = below_from_sorted xs i j 0 s (omega (arith, le, n)) lt in omega (arith, b)
]

pub found_at : (xs : List ℕ) (m : ℕ) (r : Result ℕ ℕ) (i : ℕ) → IsStrictlySortedBy nat_cmp xs → IsBinarySearchResult (λ y. nat_cmp y m) xs r → r ≡ Ok i → i ≡ how_many_before m xs
found_at xs m r i s is e =
    let f = subst (λ (r : Result ℕ ℕ). MatchResult r (λ i. (i < length xs) × (get_or xs i 0 ≡ m)) (λ i. (i ≤ length xs) × ((k : ℕ) → k < i → get_or xs k 0 < m) × ((k : ℕ) → i ≤ k → k < length xs → m < get_or xs k 0))) e (searched xs m r is (rising xs s)) in
    let le : i ≤ length xs = omega (arith, f.0) in
    sym (split_there xs m i le (λ k h. subst (λ y. get_or xs k 0 < y) f.1 (below_from_sorted xs k i 0 s h f.0)) (λ k h l. subst (λ y. y ≤ get_or xs k 0) f.1 (rising xs s i k h l)))

pub missed_at : (xs : List ℕ) (m : ℕ) (r : Result ℕ ℕ) (i : ℕ) → IsStrictlySortedBy nat_cmp xs → IsBinarySearchResult (λ y. nat_cmp y m) xs r → r ≡ Err i → i ≡ how_many_before m xs
missed_at xs m r i s is e =
    let f = subst (λ (r : Result ℕ ℕ). MatchResult r (λ i. (i < length xs) × (get_or xs i 0 ≡ m)) (λ i. (i ≤ length xs) × ((k : ℕ) → k < i → get_or xs k 0 < m) × ((k : ℕ) → i ≤ k → k < length xs → m < get_or xs k 0))) e (searched xs m r is (rising xs s)) in
    sym (split_there xs m i f.0 f.1 (λ k h l. let b = f.2 k h l in omega (arith, b)))

-- each behind the first is one more
above : (a : ℕ) (xs : List ℕ) → AllByRecursion (λ y. nat_cmp a y ≡ Less) xs → AllByRecursion (λ y. a + 1 ≤ y) xs
above a [] h = tt
above a (x ∷ xs) h = let lt = ranked a x Less (sym h.0) in (omega (arith, lt), above a xs h.1)

-- what the late ones become is never later than they were
pub room : (xs : List ℕ) (from m : ℕ) → IsStrictlySortedBy nat_cmp xs → AllByRecursion (λ a. from ≤ a) xs → from ≤ m → from + how_many_before m xs ≤ m
unfolding IsStrictlySortedBy
room [] from m s h le = omega arith
room (x ∷ xs) from m s h le = by (nat_lt x m) refl (room xs from m s.1 h.1 le) (λ lt. room xs (x + 1) m s.1 (above x xs s.0) (omega (arith, lt)))
  where
    by : (b : Bool) → nat_lt x m ≡ b → from + how_many_before m xs ≤ m → (x < m → (x + 1) + how_many_before m xs ≤ m) → from + how_many_before m (x ∷ xs) ≤ m
    by true e same more = let rest = more (ltb-true x m e) in rw e (omega (arith, rest, h.0))
    by false e same more = rw e same

-- ---- each once, in order

pub each_in_order : (xs ys zs : List ℕ) → IsPermutation xs ys → IsSorted nat_cmp ys → IsFiltered (DiffersFromLast eqb) [] ys zs → AreInOrder xs zs
each_in_order xs ys zs p s f =
    let is : zs ≡ dedup eqb ys = dedup_is eqb ys zs f in
    record {
      ascend = subst (IsStrictlySortedBy nat_cmp) (sym is) (IsStrictlySortedBy-dedup nat_cmp_total unsigned_ties ys s);
      each = λ m c. subst (λ (l : List ℕ). Contains l m) (sym is) (Contains-dedup_nat ys m (Contains-permutation xs ys m p c));
      only = λ m c. Contains-permutation ys xs m (IsPermutation-sym xs ys p) (Contains-from_dedup eqb ys m (subst (λ (l : List ℕ). Contains l m) is c));
    }

-- ---- the late ones of a list

not_filtered : (from m : ℕ) (xs : List ℕ) → In m (filter (λ a. nat_le from a) xs) → In m xs × (from ≤ m)
not_filtered from m [] i = absurd i
not_filtered from m (x ∷ xs) i = by (nat_le from x) refl i (not_filtered from m xs)
  where
    by : (b : Bool) → nat_le from x ≡ b → In m (if b then x ∷ filter (λ a. nat_le from a) xs else filter (λ a. nat_le from a) xs) → (In m (filter (λ a. nat_le from a) xs) → In m xs × (from ≤ m)) → In m (x ∷ xs) × (from ≤ m)
    by true e i rest = elim i [
      | inl is ↦ (inl is, subst (λ k. from ≤ k) is (leb-true from x e))
      | inr j ↦ let r = rest j in (inr r.0, r.1)
    ]
    by false e i rest = let r = rest i in (inr r.0, r.1)

pub late_of_all : (from : ℕ) (all late : List ℕ) → AreInOrder (filter (λ a. nat_le from a) all) late → AreLateOf from all late
late_of_all from all late o = record {
  ascend = o.ascend;
  each = λ m c le. o.each m (Contains-In (filter (λ a. nat_le from a) all) m (In-filter (λ a. nat_le from a) all m (In-Contains all m c) (le-leb from m le)));
  only = λ m c. let f = not_filtered from m all (In-Contains (filter (λ a. nat_le from a) all) m (o.only m c)) in (Contains-In all m f.0, f.1);
}

pub ascend_from : (from : ℕ) (all late : List ℕ) → AreLateOf from all late → AscendFrom from late
ascend_from from all late l = record { ascend = l.ascend; from_there = each late (λ m i. (l.only m (Contains-In late m i)).1) }
  where
    each : (xs : List ℕ) → ((m : ℕ) → In m xs → from ≤ m) → AllByRecursion (λ a. from ≤ a) xs
    each [] h = tt
    each (x ∷ xs) h = (h x (inl refl), each xs (λ m i. h m (inr i)))

-- one more of a walk
pub late_more : (from last : ℕ) (all : List Stored) (i : ℕ) (x : Stored) (out out' : List ℕ) → i < length all → x ≡ get_or all i x
    → out ≡ filter (λ a. nat_le from a) (last ∷ flat_map moments_at (take i all)) → out' ≡ out ++ filter (λ a. nat_le from a) (moments_at x)
    → out' ≡ filter (λ a. nat_le from a) (last ∷ flat_map moments_at (take (i + 1) all))
late_more from last all i x out out' lt at so_far one =
    let late : List ℕ → List ℕ = filter (λ a. nat_le from a) in
    let front = flat_map moments_at (take i all) in
    let grown : flat_map moments_at (take (i + 1) all) ≡ front ++ moments_at x =
    ap (flat_map moments_at) (take_next all i x lt at) ∙ flat_map-append moments_at (take i all) (x ∷ []) ∙ ap (λ (l : List ℕ). front ++ l) (append-nil (moments_at x)) in
    one ∙ ap (λ (l : List ℕ). l ++ late (moments_at x)) so_far ∙ sym (filter-append (λ a. nat_le from a) (last ∷ front) (moments_at x)) ∙ ap (λ (l : List ℕ). late (last ∷ l)) (sym grown)

-- ---- the late ones of stores

made_in : (m : ℕ) (ss : List Stored) (s : Stored) → In s ss → (m ≡ s.resource.node.created) ⊎ (m ≡ s.resource.node.modified) → In m (flat_map moments_at ss)
made_in m [] s i w = absurd i
made_in m (x ∷ ss) s i w = elim i [
  | inl e ↦ In-front (moments_at x) (flat_map moments_at ss) m (here (subst (λ (y : Stored). (m ≡ y.resource.node.created) ⊎ (m ≡ y.resource.node.modified)) (sym e) w))
  | inr j ↦ In-behind (moments_at x) (flat_map moments_at ss) m (made_in m ss s j w)
]
  where
    here : (m ≡ x.resource.node.created) ⊎ (m ≡ x.resource.node.modified) → In m (moments_at x)
    here (inl e) = inl (sym e)
    here (inr e) = inr (inl (sym e))

made_by : (m : ℕ) (ss : List Stored) → In m (flat_map moments_at ss) → (s : Stored) × In s ss × ((m ≡ s.resource.node.created) ⊎ (m ≡ s.resource.node.modified))
made_by m [] i = absurd i
made_by m (x ∷ ss) (inl e) = (x, inl refl, inl (sym e))
made_by m (x ∷ ss) (inr (inl e)) = (x, inl refl, inr (sym e))
made_by m (x ∷ ss) (inr (inr i)) = let r = made_by m ss i in (r.0, inr r.1, r.2)

-- what stands in the map is given by its walk
walked : (m : ResourceMap) (ss : List Stored) (p : Path) (r : Resource) → IsMapWalk m ss → at_path m p ≡ Some r → (s : Stored) × In s ss × (s.path ≡ p) × (s.resource ≡ r)
walked m ss p r w at =
    let i = In-Contains (map stored_entry ss) (p, r) (Contains-permutation (entries m.entries) (map stored_entry ss) (p, r) w.all (Contains-In (entries m.entries) (p, r) (entries-In path_total path_exact m.entries p r at))) in
    of ss i
  where
    of : (ss : List Stored) → In (p, r) (map stored_entry ss) → (s : Stored) × In s ss × (s.path ≡ p) × (s.resource ≡ r)
    of [] i = absurd i
    of (s ∷ ss) i = elim i [
      | inl e ↦ (s, inl refl, ap (λ (x : Path × Resource). x.0) e, ap (λ (x : Path × Resource). x.1) e)
      | inr j ↦ let t = of ss j in (t.0, inr t.1, t.2, t.3)
    ]

pub are_late : (s : Stores) (last from : ℕ) (ss : List Stored) (late : List ℕ) → IsMapWalk s.map ss → AreLateOf from (last ∷ flat_map moments_at ss) late → AreLate from s last late
are_late s last from ss late w l = record {
  ascend = l.ascend;
  each = λ m there le. l.each m (Contains-In (last ∷ flat_map moments_at ss) m (given m there)) le;
  only = λ m c. let o = l.only m c in (found m (In-Contains (last ∷ flat_map moments_at ss) m o.0), o.1);
}
  where
    given : (m : ℕ) → StandsThere s last m → In m (last ∷ flat_map moments_at ss)
    given m (inl e) = inl (sym e)
    given m (inr there) =
        let t = walked s.map ss there.0 there.1 w there.2 in
        inr (made_in m ss t.0 t.1 (subst (λ (r : Resource). (m ≡ r.node.created) ⊎ (m ≡ r.node.modified)) (sym t.3) there.3))

    found : (m : ℕ) → In m (last ∷ flat_map moments_at ss) → StandsThere s last m
    found m (inl e) = inl (sym e)
    found m (inr i) = let t = made_by m ss i in inr (t.0.path, t.0.resource, in_map s.map ss t.0 w t.1, t.2)
