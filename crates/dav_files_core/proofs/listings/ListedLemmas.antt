-- The children of a folder's node, sorted, are its members.
use Rattle.std.proofs.Common.{◌≡◌, inl, inr, ℕ, zero, suc, ◌+◌, ◌<◌, Bool, true, false, cond, ◌&&◌, eqb, nat_eq, nat_cmp, is_lt, List, [], ◌∷◌, ◌++◌, length, map, get_or, Option, Some, None, IsPermutation, refl, sym, ap, ◌∙◌, subst, arith}
use Rattle.std.specs.Prelude.{T, option_map}
use Rattle.std.specs.Cmp.Lexicographic.{pointwise, bytes_decides}
use Rattle.std.specs.FinMap.{entries, find, get-entries, is_sorted, entries_sorted}
use Rattle.std.specs.FinMap.Entries.{below_all, same_entries}
use Rattle.std.specs.List.{All, Contains, IsDistinct, list_any}
use Rattle.std.specs.List.Sorted.{IsSortedBy}
use Rattle.std.specs.Ordering.{eq_by_cmp, ordering_then, ordering_reverse}
use Rattle.std.specs.declared.cmp.Ordering.{Ordering}
use Rattle.std.specs.declared.cmp.Ordering.TheVariants.{Less, Equal, Greater}
use Rattle.std.proofs.lemmas.Bool.{true≢false, false≢true, cases_eq, eq-eqb, ne_eqb, eqb-true, or_cases}
use Rattle.std.proofs.lemmas.List.Elements.{All-head, All-tail}
use Rattle.std.proofs.lemmas.List.Sorted.{All-permutation, Contains-permutation, IsPermutation-map}
use Rattle.std.proofs.lemmas.Map.Keys.{IsDistinct-IsPermutation}
use Rattle.dav_path_core.specs.Children.{ListsChildren, IsChildNamed}
use Rattle.dav_path_core.specs.Fronts.{Segment, Path, segment_cmp}
use Rattle.dav_path_core.specs.Keyed.{parent_number, parent_and_key_of}
use Rattle.dav_path_core.specs.TreeValue.{TreeValue}
use Rattle.dav_path_core.proofs.children.Chains.{in_here, none_twice, later_distinct}
use Rattle.dav_path_core.proofs.lists.Every.{Every, first_so, second_so}
use Rattle.dav_path_core.proofs.lists.FinMaps.{none_some, one_some, dec, test_false}
use Rattle.dav_path_core.proofs.lists.Orders.{segment_total, segment_exact, eq_by_cmp_same}
use Rattle.dav_path_core.proofs.lists.Snoc.{snoc_last}
use Rattle.dav_files_core.specs.Finding.{members}
use Rattle.dav_files_core.specs.Private.Listed.{numbered_member}
use Rattle.dav_files_core.specs.Private.FileRepresents.{FileEntry, Represents}
use Rattle.dav_files_core.specs.Private.TreeCalls.{IsMember}
use Rattle.dav_files_core.specs.Resources.{Node, Resource, ResourceMap, at_path}
use Rattle.dav_files_core.proofs.listings.MemberLemmas.{get-members}
use Rattle.dav_files_core.proofs.changes.LeftLemmas.{child_entry}
use Rattle.dav_files_core.proofs.walks.TreeWordLemmas.{stands}
use Rattle.dav_files_core.proofs.walks.WalkLemmas.{node_below}

abbrev pub Pair : Type 0
Pair = Segment × ℕ

abbrev pub pair_cmp : Pair → Pair → Ordering
pair_cmp x y = ordering_then (segment_cmp x.0 y.0) (nat_cmp x.1 y.1)

both_so : (a b : Bool) → T a → T b → T (a && b)
both_so true b s t = t
both_so false b s t = absurd s

less_is : (r : Ordering) → T (is_lt r) → r ≡ Less
less_is Less h = refl
less_is Equal h = absurd h
less_is Greater h = absurd h

every : {X : Type 0} (P : X → Type 0) (xs : List X) → All P xs → Every P xs
every P [] h = tt
every P (x ∷ xs) h = (All-head P x xs h, every P xs (All-tail P x xs h))

-- ---- look-ups by name
find_here : (e : Pair) (es : List Pair) (q : Segment) → q ≡ e.0 → find segment_cmp q (e ∷ es) ≡ Some e.1
find_here e es q same = ap (λ b. cond b (Some e.1) (find segment_cmp q es)) (ap (eq_by_cmp segment_cmp q) (sym same) ∙ eq_by_cmp_same segment_total q)

find_later : (e : Pair) (es : List Pair) (q : Segment) → ¬ (q ≡ e.0) → find segment_cmp q (e ∷ es) ≡ find segment_cmp q es
find_later e es q other = ap (λ b. cond b (Some e.1) (find segment_cmp q es)) (test_false segment_total segment_exact q e.0 other)

-- what isn't found stands nowhere
missed : (ps : List Pair) (q : Segment) → find segment_cmp q ps ≡ None → (k : ℕ) (d : Pair) → k < length ps → ¬ ((get_or ps k d).0 ≡ q)
missed [] q h k d inside same = absurd (omega arith)
missed (e ∷ ps) q h zero d inside same = none_some (find segment_cmp q (e ∷ ps)) e.1 h (find_here e ps q (sym same))
missed (e ∷ ps) q h (suc k) d inside same = elim (dec segment_total segment_exact q e.0) [
  | inl here ↦ none_some (find segment_cmp q (e ∷ ps)) e.1 h (find_here e ps q here)
  | inr other ↦ missed ps q (sym (find_later e ps q other) ∙ h) k d (omega arith) same
]

in_pairs : (n : ℕ) (ps : List Pair) → list_any (eqb n) (map (λ (e : Pair). e.1) ps) ≡ true → (e : Pair) × Contains ps e × (e.1 ≡ n)
in_pairs n [] h = absurd (false≢true h)
in_pairs n (e ∷ ps) h = elim (or_cases (eqb n e.1) (list_any (eqb n) (map (λ (e : Pair). e.1) ps)) h) [
  | inl here ↦ (e, (0, omega arith, refl), sym (eqb-true n e.1 here))
  | inr later ↦ let x = in_pairs n ps later in (x.0, (suc x.1.0, (let inside = x.1.1 in omega arith), x.1.2), x.2)
]

-- ---- the members by number
numbered_find : (q : Segment) (es : List (Segment × Resource)) → find segment_cmp q (map numbered_member es) ≡ option_map (λ (r : Resource). r.number) (find segment_cmp q es)
numbered_find q [] = refl
numbered_find q (e ∷ es) = elim (eq_by_cmp segment_cmp q e.0) as (λ b. cond b (Some e.1.number) (find segment_cmp q (map numbered_member es)) ≡ option_map (λ (r : Resource). r.number) (cond b (Some e.1) (find segment_cmp q es))) [
  | true ↦ refl
  | false ↦ numbered_find q es
]

numbered_below : (k : Segment) (es : List (Segment × Resource)) → below_all segment_cmp k (map numbered_member es) ≡ below_all segment_cmp k es
numbered_below k [] = refl
numbered_below k (e ∷ es) = ap (λ b. is_lt (segment_cmp k e.0) && b) (numbered_below k es)

numbered_sorted : (es : List (Segment × Resource)) → is_sorted segment_cmp (map numbered_member es) ≡ is_sorted segment_cmp es
numbered_sorted [] = refl
numbered_sorted (e ∷ es) = ap (λ b. b && is_sorted segment_cmp (map numbered_member es)) (numbered_below e.0 es) ∙ ap (λ b. below_all segment_cmp e.0 es && b) (numbered_sorted es)

-- ---- strictly rising names
below_on : (x y : Segment) (ps : List Pair) → segment_cmp x y ≡ Less → T (below_all segment_cmp y ps) → T (below_all segment_cmp x ps)
below_on x y [] less h = tt
below_on x y (e ∷ ps) less h =
    let next = less_is (segment_cmp y e.0) (first_so (is_lt (segment_cmp y e.0)) (below_all segment_cmp y ps) h) in
    both_so (is_lt (segment_cmp x e.0)) (below_all segment_cmp x ps) (subst (λ r. T (is_lt r)) (sym (segment_total.trans x y e.0 less next)) tt)
    (below_on x y ps less (second_so (is_lt (segment_cmp y e.0)) (below_all segment_cmp y ps) h))

module _ (m : ResourceMap) (p : Path) where
  -- a member's name and number
  abbrev pub Named : Pair → Type 0
  Named e = (x : Resource) × (at_path m (p ++ (e.0 ∷ [])) ≡ Some x) × (x.number ≡ e.1)

  found : (ps : List Pair) → Every Named ps → (q : Segment) (v : ℕ) → find segment_cmp q ps ≡ Some v → Named (q, v)
  found [] all q v h = absurd (cc)
  found (e ∷ ps) all q v h = elim (dec segment_total segment_exact q e.0) [
    | inl same ↦
        let is : e.1 ≡ v = one_some (find segment_cmp q (e ∷ ps)) e.1 v (find_here e ps q same) h in
        (all.0.0, ap (λ (q : Segment). at_path m (p ++ (q ∷ []))) same ∙ all.0.1, all.0.2 ∙ is)
    | inr other ↦ found ps all.1 q v (sym (find_later e ps q other) ∙ h)
  ]

  rising : (x y : Pair) → is_lt (pair_cmp y x) ≡ false → Named x → Named y → ¬ (x.1 ≡ y.1) → segment_cmp x.0 y.0 ≡ Less
  rising x y h named named' apart = by (segment_cmp y.0 x.0) refl
    where
      by : (r : Ordering) → segment_cmp y.0 x.0 ≡ r → segment_cmp x.0 y.0 ≡ Less
      by Less e = absurd (true≢false (sym (ap (λ r. is_lt (ordering_then r (nat_cmp y.1 x.1))) e) ∙ h))
      by Equal e =
          let name : y.0 ≡ x.0 = segment_exact y.0 x.0 e in
          let same : named'.0 ≡ named.0 = one_some (at_path m (p ++ (x.0 ∷ []))) named'.0 named.0 (ap (λ (q : Segment). at_path m (p ++ (q ∷ []))) (sym name) ∙ named'.1) named.1 in
          absurd (apart (sym named.2 ∙ ap (λ (r : Resource). r.number) (sym same) ∙ named'.2))
      by Greater e = segment_total.antisymm x.0 y.0 ∙ ap ordering_reverse e

  strict : (ps : List Pair) → IsSortedBy (λ x y. is_lt (pair_cmp x y)) ps → Every Named ps → IsDistinct eqb (map (λ (e : Pair). e.1) ps) → T (is_sorted segment_cmp ps)
  strict [] up all apart = tt
  strict (x ∷ []) up all apart = tt
  strict (x ∷ y ∷ ps) up all apart =
      let rest = strict (y ∷ ps) (λ k d low inside.
      let e : suc k + 1 ≡ suc (k + 1) = omega arith in
      subst (λ n. is_lt (pair_cmp (get_or (x ∷ y ∷ ps) n d) (get_or (x ∷ y ∷ ps) (suc k) d)) ≡ false) e (up (suc k) d (omega arith) (omega arith)))
      all.1 (later_distinct x.1 (map (λ (e : Pair). e.1) (y ∷ ps)) apart) in
      let less = rising x y (up 0 x (omega arith) (omega arith)) all.0 all.1.0
      (λ same. none_twice x.1 (map (λ (e : Pair). e.1) (y ∷ ps)) apart (subst (λ n. list_any (eqb n) (map (λ (e : Pair). e.1) (y ∷ ps)) ≡ true) (sym same) (in_here y.1 (map (λ (e : Pair). e.1) ps)))) in
      both_so (below_all segment_cmp x.0 (y ∷ ps)) (is_sorted segment_cmp (y ∷ ps))
      (both_so (is_lt (segment_cmp x.0 y.0)) (below_all segment_cmp x.0 ps) (subst (λ r. T (is_lt r)) (sym less) tt)
      (below_on x.0 y.0 ps less (first_so (below_all segment_cmp y.0 ps) (is_sorted segment_cmp ps) rest))) rest

eqb_flip : (x y : ℕ) → eqb x y ≡ eqb y x
eqb_flip x y = elim (cases_eq x y) [ inl e ↦ eq-eqb x y e ∙ sym (eq-eqb y x (sym e)) | inr ne ↦ ne_eqb x y ne ∙ sym (ne_eqb y x (λ e. ne (sym e))) ]

-- ---- the whole list
module _ (t : TreeValue Segment Node) (m : ResourceMap) (rep : Represents t.keyed m) (p : Path) (r : Resource) (here : at_path m p ≡ Some r) (id : ℕ) (number : r.number ≡ id)
    (children : List Pair) (lists : ListsChildren (pointwise nat_eq) t id children)
    (pairs : List Pair) (moved : IsPermutation children pairs) (up : IsSortedBy (λ x y. is_lt (pair_cmp x y)) pairs) where
  named_one : (e : Pair) → IsChildNamed (pointwise nat_eq) t id e → Named m p e
  named_one e h =
      let key : h.0 ≡ e.0 = (bytes_decides h.0 e.0).0 h.2 in
      child_entry t.keyed m rep p r here id number e.0 e.1 (subst (λ k. IsMember t.keyed id k e.1) key (stands t.keyed e.1 id h.0 h.1))

  named : Every (Named m p) pairs
  named = every (Named m p) pairs (All-permutation (Named m p) children pairs moved (λ k d inside. named_one (get_or children k d) (lists.named k d inside)))

  -- each member is listed
  listed : (q : Segment) (x : Resource) → at_path m (p ++ (q ∷ [])) ≡ Some x → find segment_cmp q pairs ≡ None → ⊥
  listed q x there none =
      let (k, item, stored, _, _) = node_below t.keyed m rep p r q x here there in
      let up : parent_number t.keyed x.number ≡ Some r.number = ap (λ (o : Option FileEntry). option_map (λ (q : ℕ × Segment). q.0) (parent_and_key_of o)) stored in
      let above : parent_number t.keyed x.number ≡ Some id = subst (λ n. parent_number t.keyed x.number ≡ Some n) number up in
      let e = in_pairs x.number children ((lists.listed.members x.number).1 above) in
      let inside = Contains-permutation children pairs e.0 moved e.1 in
      let at = named_one e.0 (subst (IsChildNamed (pointwise nat_eq) t id) e.1.2 (lists.named e.1.0 e.0 e.1.1)) in
      let name : e.0.0 ≡ q = snoc_last p p e.0.0 q (rep.is_map.apart (p ++ (e.0.0 ∷ [])) (p ++ (q ∷ [])) at.0 x at.1 there (at.2 ∙ e.2)) in
      missed pairs q none inside.0 e.0 inside.1 (subst (λ (s : Segment). (get_or pairs inside.0 e.0).0 ≡ s) name (ap (λ (e : Pair). e.0) inside.2))

  look : (q : Segment) → find segment_cmp q pairs ≡ option_map (λ (r : Resource). r.number) (at_path m (p ++ (q ∷ [])))
  look q = by (find segment_cmp q pairs) refl (at_path m (p ++ (q ∷ []))) refl
    where
      by : (o : Option ℕ) → find segment_cmp q pairs ≡ o → (u : Option Resource) → at_path m (p ++ (q ∷ [])) ≡ u → find segment_cmp q pairs ≡ option_map (λ (r : Resource). r.number) u
      by None e None h = e
      by None e (Some x) h = absurd (listed q x h e)
      by (Some v) e u h = let x = found m p pairs named q v e in e ∙ ap Some (sym x.2) ∙ ap (option_map (λ (r : Resource). r.number)) (sym x.1 ∙ h)

  apart : IsDistinct eqb (map (λ (e : Pair). e.1) pairs)
  apart = IsDistinct-IsPermutation eqb eqb_flip (map (λ (e : Pair). e.1) children) (map (λ (e : Pair). e.1) pairs) (IsPermutation-map (λ (e : Pair). e.1) children pairs moved) lists.listed.once

  pub are_members : pairs ≡ map numbered_member (entries (members m p))
  are_members = same_entries segment_cmp segment_total segment_exact pairs (map numbered_member (entries (members m p)))
      (strict m p pairs up named apart)
      (subst T (sym (numbered_sorted (entries (members m p)))) (entries_sorted (members m p)))
      (λ q. look q ∙ ap (option_map (λ (r : Resource). r.number)) (sym (get-members m p q) ∙ get-entries (members m p) q) ∙ sym (numbered_find q (entries (members m p))))
