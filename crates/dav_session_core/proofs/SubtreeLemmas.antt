-- How all that stands below a path is gathered: what is done, and what waits.
use Rattle.std.proofs.Common.{◌≡◌, ◌≢◌, ◌⊎◌, inl, inr, ◌↔◌, ◌<◌, Bool, true, false, List, [], ◌∷◌, ◌++◌, map, Option, Some, None, is_some, Result, Ok, Err, refl, sym, ap, ◌∙◌, subst, append_assoc, append-nil}
use Rattle.std.specs.Prelude.{Contains, IsSome, OnOk, T, reverse}
use Rattle.std.specs.List.{All, AllByRecursion, list_any}
use Rattle.std.proofs.lemmas.List.Elements.{recursion_from_All}
use Rattle.std.specs.FinMap.{entries, entries_sorted, get-entries, is_sorted}
use Rattle.std.proofs.lemmas.Bool.{true≢false, false_from_ne_true}
use Rattle.std.proofs.lemmas.List.{map-append, reverse-append, reverse-reverse}
use Rattle.dav_path_core.specs.Fronts.{Segment, Path, segment_cmp, is_front}
use Rattle.dav_path_core.proofs.lists.Every.{first_so, second_so}
use Rattle.dav_path_core.proofs.lists.MemberLemmas.{In, In-Contains, Contains-In, find_any}
use Rattle.dav_path_core.proofs.lists.Orders.{path_exact, segment_exact}
use Rattle.dav_path_core.proofs.paths.FrontLemmas.{is_front-refl, is_front-trans}
use Rattle.dav_path_core.specs.PathReading.{CanBeSegment}
use Rattle.dav_files_core.specs.declared.memfs.listing.MemFsEntry.{MemFsEntry}
use Rattle.dav_files_core.specs.declared.memfs.Kind.TheVariants.{Folder}
use Rattle.dav_files_core.specs.Listing.{listed_entry, read_dir}
use Rattle.dav_files_core.specs.Finding.{has_any, has_members, members}
use Rattle.dav_files_core.specs.Resources.{Resource, ResourceMap, at_path, IsResourceMap}
use Rattle.dav_files_core.proofs.listings.MemberLemmas.{get-members}
use Rattle.dav_files_core.proofs.moves.MovingLemmas.{front_there}
use Rattle.dav_files_core.proofs.walks.HasMembersLemmas.{has_none}
use Rattle.dav_guarded_core.specs.Step.{State}
use Rattle.dav_faults_core.specs.declared.faults.Fault.{Fault}
use Rattle.dav_faults_core.specs.declared.faults.Fault.TheVariants as fault
use Rattle.dav_session_core.specs.Callers.{Caller}
use Rattle.dav_session_core.proofs.ConditionLemmas.{Looks}
use Rattle.dav_session_core.specs.Subtrees.{ComesBefore, HasOddMember, HasOddName, IsSubtreeWalk}
use Rattle.dav_session_core.specs.MemberPaths.{paths_of_members, paths_in}
use Rattle.dav_session_core.specs.Questions.{LacksKind}
use Rattle.dav_session_core.proofs.WalkOrderLemmas.{IsInOrder, from_back, later_back, map_back, named_in_order, not_above, not_itself, one_walk, order_on, to_back}
use Rattle.dav_path_core.proofs.paths.SubtreePaths.{in_either, in_left, in_right, in_one, Later, some_of, rest_of, front_of, member_longer, Apart, not_front, apart_member, apart_members, pair_at, pairs_front, found_in, later_both, later_cross, later_front, later_pairs, one_fewer, any_of}
use Rattle.dav_files_core.proofs.paths.SubtreeMaps.{not_below_itself, name_stands, Walking, left_below, names_told}

-- ---- what stands last

pub last_bare : (m : ResourceMap) (p last : Path) (before : List Path) → IsSubtreeWalk m p (before ++ (last ∷ [])) → has_members m last ≡ false
last_bare m p last before walk = has_none m last (λ s. by s (at_path m (last ++ (s ∷ []))) refl)
  where
    by : (s : Segment) (o : Option Resource) → at_path m (last ++ (s ∷ [])) ≡ o → o ≡ None
    by s None e = refl
    by s (Some r) e =
        let child = last ++ (s ∷ []) in
        let here = (walk.members last).0 (Contains-In _ _ (in_right last before (last ∷ []) (inl refl))) in
        let there = (walk.members child).1 (is_front-trans p last child here.0 (front_of last (s ∷ [])), ap is_some e) in
        absurd (elim (in_either child before (last ∷ []) (In-Contains _ _ there)) [
          | inl i ↦ true≢false (sym (front_of last (s ∷ [])) ∙ not_above child last
              (pair_at ComesBefore before last child walk.sorted i))
          | inr i ↦ (let same : last ≡ child = in_one child last i in true≢false (sym (subst (λ q. is_front q last ≡ true) same (is_front-refl last)) ∙ member_longer last s))
        ])

-- once it is gone, what stands before it is a walk of what is left
pub walk_left : (m after : ResourceMap) (p last : Path) (before : List Path) → IsSubtreeWalk m p (before ++ (last ∷ [])) → at_path after last ≡ None
    → ((q : Path) → q ≢ last → IsSome (at_path after q) ↔ IsSome (at_path m q)) → IsSubtreeWalk after p before
walk_left m after p last before walk gone same = record {
  members = λ q. (stands q, listed_before q);
  sorted = pairs_front ComesBefore before (last ∷ []) walk.sorted;
  plain = λ odd. walk.plain (record {
    folder = odd.folder;
    name = odd.name;
    below = odd.below;
    stands = (same (odd.folder ++ (odd.name ∷ [])) (λ is.
        true≢false (sym odd.stands ∙ ap (λ x. is_some (at_path after x)) is
        ∙ ap is_some gone))).0 odd.stands;
    odd = odd.odd;
  });
}
  where
    stands : (q : Path) → Contains before q → (is_front p q ≡ true) × IsSome (at_path after q)
    stands q h =
        let i = In-Contains before q h in
        let here = (walk.members q).0 (Contains-In _ _ (in_left q before (last ∷ []) i)) in (
          here.0,
          (same q (λ is. not_itself last (subst (λ x. ComesBefore x last) is
              (pair_at ComesBefore before last q walk.sorted i)))).1 here.1,
        )

    listed_before : (q : Path) → (is_front p q ≡ true) × IsSome (at_path after q) → Contains before q
    listed_before q h =
        let other : q ≢ last = λ e. true≢false (sym h.1 ∙ ap (λ x. is_some (at_path after x)) e ∙ ap is_some gone) in
        elim (in_either q before (last ∷ []) (In-Contains _ _ ((walk.members q).1 (h.0, (same q other).0 h.1)))) [
          | inl i ↦ Contains-In before q i
          | inr i ↦ absurd (other (sym (in_one q last i)))
        ]

-- ---- members

paths_in_at : (p : Path) (s : Segment) (names : List Segment) → In s names → In (p ++ (s ∷ [])) (paths_in p names)
paths_in_at p s [] i = absurd i
paths_in_at p s (name ∷ names) i = elim i [
  | inl e ↦ inl (ap (λ t. p ++ (t ∷ [])) e)
  | inr j ↦ inr (paths_in_at p s names j)
]

name_in_path : (p : Path) (q : Path) (names : List Segment) → In q (paths_in p names) → (s : Segment) × In s names × (q ≡ p ++ (s ∷ []))
name_in_path p q [] i = absurd i
name_in_path p q (name ∷ names) i = elim i [
  | inl e ↦ (name, inl refl, sym e)
  | inr j ↦ (let r = name_in_path p q names j in (r.0, inr r.1, r.2))
]

-- paths of names that rise are apart
paths_apart : (p : Path) (es : List (Segment × Resource)) → T (is_sorted segment_cmp es) → Later Apart (paths_in p (map (λ (e : Segment × Resource). e.0) es))
paths_apart p [] h = tt
paths_apart p (e ∷ es) h = (
  (λ q i. let r = name_in_path p q _ i in subst (Apart (p ++ (e.0 ∷ []))) (sym r.2) (apart_members p e.0 r.0 (not_below_itself e.0 r.0 es (first_so _ _ h) r.1))),
  paths_apart p es (second_so _ _ h),
)

module _ (m : ResourceMap) (p : Path) where
  -- what is known of gathered members
  pub record Gathered (paths : List Path) : Type 0 where
    pub stand : (q : Path) → In q paths → (s : Segment) × (q ≡ p ++ (s ∷ [])) × IsSome (at_path m q)
    pub apart : Later Apart paths
    pub all : (s : Segment) → IsSome (at_path m (p ++ (s ∷ []))) → In (p ++ (s ∷ [])) paths

  gathered : (paths : List Path) → paths ≡ paths_of_members m p → Gathered paths
  gathered paths is = subst Gathered (sym is) (record {
    stand = λ q i. (let e = name_in_path p q (map (λ (e : Segment × Resource). e.0) (entries (members m p))) i in (e.0, e.2, subst (λ x. IsSome (at_path m x)) (sym e.2) (name_stands m p e.0 e.1)));
    apart = paths_apart p (entries (members m p)) (entries_sorted (members m p));
    all = λ s there. (
        let r = some_of _ there in
        paths_in_at p s _ (found_in segment_exact (entries (members m p)) s r.0 (sym (get-entries (members m p) s) ∙ get-members m p s ∙ r.1)));
  })

  gathered_back : (paths : List Path) → Gathered paths → Gathered (reverse paths)
  gathered_back paths g = record {
    stand = λ q i. g.stand q (from_back q paths i);
    apart = later_back Apart (λ x y h. (h.1, h.0)) paths g.apart;
    all = λ s there. to_back (p ++ (s ∷ [])) paths (g.all s there);
  }

  gathered_order : (paths : List Path) → paths ≡ paths_of_members m p → IsInOrder paths
  gathered_order paths is = subst IsInOrder (sym is)
      (named_in_order p (entries (members m p)) (entries_sorted (members m p)))

-- ---- what is done, and what waits

-- no member of any of them has an odd name
abbrev pub ArePlain : ResourceMap → List Path → Type 0
ArePlain m done = (q : Path) → In q done → ¬ HasOddMember m q

-- what is done, and behind it what waits, from its end on
abbrev pub AreInOrder : List Path → List Path → Type 0
AreInOrder done waiting = IsInOrder (done ++ reverse waiting)

module _ (m : ResourceMap) (p : Path) where
  pub walk_begun : IsSome (at_path m p) → Walking m p [] (p ∷ [])
  walk_begun here = record {
    stand = λ q i. elim i [
      | inl j ↦ absurd j
      | inr j ↦ (let same = in_one q p j in (subst (λ x. is_front p x ≡ true) same (is_front-refl p), subst (λ x. IsSome (at_path m x)) same here))
    ];
    all = λ is_map q below there. inr (p, inl refl, below);
    order = tt;
    behind = λ q x i j. absurd i;
    apart = ((λ y i. absurd i), tt);
  }

  -- all are done
  pub walk_done : (done : List Path) → Walking m p done [] → IsInOrder done → ArePlain m done
      → IsResourceMap m
      → IsSubtreeWalk m p done
  walk_done done w ordered plain is_map = record {
    members = λ q. (
      (λ h. w.stand q (inl (In-Contains done q h))),
      (λ h. elim (w.all is_map q h.0 h.1) [ inl i ↦ Contains-In done q i | inr x ↦ absurd x.1 ]),
    );
    sorted = later_pairs ComesBefore done ordered;
    plain = λ odd. (
        let r = some_of (at_path m (odd.folder ++ (odd.name ∷ []))) odd.stands in
        let folder = is_map.parents odd.folder odd.name r.0 r.1 in
        let there = elim (w.all is_map odd.folder odd.below (ap is_some folder.1)) as
        (λ x. In odd.folder done) [ inl i ↦ i | inr x ↦ absurd x.1 ] in
        plain odd.folder there (odd.name, odd.stands, odd.odd));
  }

  module _ (done rest paths : List Path) (place : Path) (w : Walking m p done (rest ++ (place ∷ []))) (g : Gathered m place paths) where
    waits : In place (rest ++ (place ∷ []))
    waits = in_right place rest (place ∷ []) (inl refl)

    -- what waits besides is apart from the place
    besides : (x : Path) → In x rest → Apart x place
    besides x i = later_cross Apart rest (place ∷ []) x place w.apart i (inl refl)

    stand_on : (q : Path) → In q (done ++ (place ∷ [])) ⊎ In q (rest ++ paths) → (is_front p q ≡ true) × IsSome (at_path m q)
    stand_on q (inl i) = elim (in_either q done (place ∷ []) i) [
      | inl j ↦ w.stand q (inl j)
      | inr j ↦ w.stand q (inr (in_right q rest (place ∷ []) j))
    ]
    stand_on q (inr i) = elim (in_either q rest paths i) [
      | inl j ↦ w.stand q (inr (in_left q rest (place ∷ []) j))
      | inr j ↦
          let s = g.stand q j in
          (is_front-trans p place q (w.stand place (inr waits)).0 (subst (λ x. is_front place x ≡ true) (sym s.1) (front_of place (s.0 ∷ []))), s.2)
    ]

    -- what is at or below the place is the place, or at or below a member
    below_on : IsResourceMap m → (q : Path) → is_front place q ≡ true → IsSome (at_path m q) → In q (done ++ (place ∷ [])) ⊎ ((x : Path) × In x (rest ++ paths) × (is_front x q ≡ true))
    below_on is_map q below there = let r = rest_of place q below in by r.0 r.1
      where
        by : (t : Path) → q ≡ place ++ t → In q (done ++ (place ∷ [])) ⊎ ((x : Path) × In x (rest ++ paths) × (is_front x q ≡ true))
        by [] e = inl (in_right q done (place ∷ []) (inl (sym (append-nil place) ∙ sym e)))
        by (s ∷ t) e =
            let split : q ≡ (place ++ (s ∷ [])) ++ t = e ∙ sym (append_assoc place (s ∷ []) t) in
            let here = some_of (at_path m q) there in
            let member = front_there m is_map (place ++ (s ∷ [])) t here.0 (ap (at_path m) (sym split) ∙ here.1) in
            inr (
              place ++ (s ∷ []),
              in_right _ rest paths (g.all s (ap is_some member.1)),
              subst (λ x. is_front (place ++ (s ∷ [])) x ≡ true) (sym split)
                  (front_of (place ++ (s ∷ [])) t),
            )

    all_on : IsResourceMap m → (q : Path) → is_front p q ≡ true → IsSome (at_path m q) → In q (done ++ (place ∷ [])) ⊎ ((x : Path) × In x (rest ++ paths) × (is_front x q ≡ true))
    all_on is_map q below there = elim (w.all is_map q below there) [
      | inl i ↦ inl (in_left q done (place ∷ []) i)
      | inr x ↦ elim (in_either x.0 rest (place ∷ []) x.1) [
        | inl i ↦ inr (x.0, in_left x.0 rest paths i, x.2)
        | inr i ↦ below_on is_map q (subst (λ y. is_front y q ≡ true) (sym (in_one x.0 place i)) x.2) there
      ]
    ]

    behind_on : (q x : Path) → In q (done ++ (place ∷ [])) → In x (rest ++ paths) → is_front x q ≡ false
    behind_on q x i j = elim (in_either q done (place ∷ []) i) [
      | inl k ↦ elim (in_either x rest paths j) [
        | inl l ↦ w.behind q x k (in_left x rest (place ∷ []) l)
        | inr l ↦
            let s = g.stand x l in
            false_from_ne_true _ (λ h. not_front place q x (w.behind q place k waits) (subst (λ y. is_front place y ≡ true) (sym s.1) (front_of place (s.0 ∷ []))) h)
      ]
      | inr k ↦ subst (λ y. is_front x y ≡ false) (in_one q place k) (elim (in_either x rest paths j) [
        | inl l ↦ (besides x l).0
        | inr l ↦ (let s = g.stand x l in subst (λ y. is_front y place ≡ false) (sym s.1) (member_longer place s.0))
      ])
    ]

    apart_on : (x y : Path) → In x rest → In y paths → Apart x y
    apart_on x y i j = let s = g.stand y j in subst (Apart x) (sym s.1) (apart_member x place s.0 (besides x i))

    walk_on : Walking m p (done ++ (place ∷ [])) (rest ++ paths)
    walk_on = record {
      stand = stand_on;
      all = all_on;
      order = later_both _ done (place ∷ []) w.order ((λ y i. absurd i), tt)
          (λ q r i j. subst (λ y. is_front y q ≡ false) (in_one r place j) (w.behind q place i waits));
      behind = behind_on;
      apart = later_both Apart rest paths (later_front Apart rest (place ∷ []) w.apart) g.apart apart_on;
    }

    walk_order : AreInOrder done (rest ++ (place ∷ [])) → IsInOrder paths
        → AreInOrder (done ++ (place ∷ [])) (rest ++ reverse paths)
    walk_order order sorted =
        subst (λ xs. IsInOrder ((done ++ (place ∷ [])) ++ xs))
        (sym (reverse-append rest (reverse paths)
        ∙ ap (λ xs. xs ++ reverse rest) (reverse-reverse paths)))
        (order_on done (reverse rest) paths place (subst (λ xs. IsInOrder (done ++ xs))
        (reverse-append rest (place ∷ [])) order) (λ q i. let s = g.stand q i in (s.0, s.1))
        (λ x i. (besides x (from_back x rest i)).1) sorted)

-- ---- that it ends: fewer entries are at or below what waits

pub fewer_left : (m : ResourceMap) (p : Path) (done rest paths : List Path) (place : Path)
    → Walking m p done (rest ++ (place ∷ [])) → Gathered m place paths
    → left_below m (rest ++ paths) < left_below m (rest ++ (place ∷ []))
unfolding left_below
fewer_left m p done rest paths place w g =
    one_fewer (at (rest ++ paths)) (at (rest ++ (place ∷ []))) weaker _ place (found_in path_exact (entries m.entries) place here.0 (sym (get-entries m.entries place) ∙ here.1)) gone
    (any_of (λ x. is_front x place) _ place waits (is_front-refl place))
  where
    at : List Path → Path → Bool
    at waiting q = list_any (λ x. is_front x q) waiting

    waits : In place (rest ++ (place ∷ []))
    waits = in_right place rest (place ∷ []) (inl refl)

    here : (r : Resource) × (at_path m place ≡ Some r)
    here = some_of _ (w.stand place (inr waits)).1

    weaker : (q : Path) → at (rest ++ paths) q ≡ true → at (rest ++ (place ∷ [])) q ≡ true
    weaker q h =
        let x = find_any (λ x. is_front x q) (rest ++ paths) h in
        elim (in_either x.0 rest paths x.1) [
          | inl i ↦ any_of (λ x. is_front x q) _ x.0 (in_left x.0 rest (place ∷ []) i) x.2
          | inr i ↦
              let s = g.stand x.0 i in
              any_of (λ x. is_front x q) _ place waits (is_front-trans place x.0 q (subst (λ y. is_front place y ≡ true) (sym s.1) (front_of place (s.0 ∷ []))) x.2)
        ]

    gone : at (rest ++ paths) place ≡ false
    gone = false_from_ne_true _ (λ h.
        let x = find_any (λ x. is_front x place) (rest ++ paths) h in
        elim (in_either x.0 rest paths x.1) [
          | inl i ↦ true≢false (sym x.2 ∙ (later_cross Apart rest (place ∷ []) x.0 place w.apart i (inl refl)).0)
          | inr i ↦ (let s = g.stand x.0 i in true≢false (sym x.2 ∙ subst (λ y. is_front y place ≡ false) (sym s.1) (member_longer place s.0)))
        ])

-- ---- what a listing tells of members

pub members_told : (m : ResourceMap) (p : Path) (items : List MemFsEntry) (paths : List Path) → read_dir m p ≡ Ok (map listed_entry items)
    → paths ≡ paths_in p (map (λ e. e.name) items) → paths ≡ paths_of_members m p
members_told m p items paths h is = is ∙ ap (paths_in p) (names_told m p items h)

-- where no folder stands there are none
pub no_members : (m : ResourceMap) (p : Path) → IsResourceMap m
    → ((r : Resource) → at_path m p ≡ Some r → ¬ (r.node.kind ≡ Folder)) → [] ≡ paths_of_members m p
no_members m p is_map none = by (entries (members m p))
    (has_none m p (λ s. at s (at_path m (p ++ (s ∷ []))) refl))
  where
    at : (s : Segment) (o : Option Resource) → at_path m (p ++ (s ∷ [])) ≡ o → o ≡ None
    at s None e = refl
    at s (Some r) e = let folder = is_map.parents p s r e in absurd
        (none folder.0 folder.1 folder.2)

    by : (es : List (Segment × Resource)) → has_any es ≡ false
        → [] ≡ paths_in p (map (λ (e : Segment × Resource). e.0) es)
    by [] h = refl
    by (e ∷ es) h = absurd (true≢false h)

-- none has an odd name
pub plain_told : (m : ResourceMap) (p : Path) (items : List MemFsEntry)
    → read_dir m p ≡ Ok (map listed_entry items)
    → All (λ (e : MemFsEntry). CanBeSegment e.name) items → ¬ HasOddMember m p
plain_told m p items h each odd = odd.2 (at items (recursion_from_All
    (λ (e : MemFsEntry). CanBeSegment e.name) items each) named)
  where
    r : (r : Resource) × (at_path m (p ++ (odd.0 ∷ [])) ≡ Some r)
    r = some_of (at_path m (p ++ (odd.0 ∷ []))) odd.1

    named : In odd.0 (map (λ (e : MemFsEntry). e.name) items)
    named = subst (In odd.0) (sym (names_told m p items h))
        (found_in segment_exact (entries (members m p)) odd.0 r.0
        (sym (get-entries (members m p) odd.0) ∙ get-members m p odd.0 ∙ r.1))

    at : (es : List MemFsEntry) → AllByRecursion (λ (e : MemFsEntry). CanBeSegment e.name) es
        → In odd.0 (map (λ (e : MemFsEntry). e.name) es) → CanBeSegment odd.0
    at [] all i = absurd i
    at (e ∷ es) all i = elim i [ inl is ↦ subst CanBeSegment is all.0 | inr j ↦ at es all.1 j ]

pub named_all : {B E : Type 0} (result : Result B E) (m : ResourceMap) (p : Path)
    (items listed : List MemFsEntry) → read_dir m p ≡ Ok (map listed_entry items) → listed ≡ items
    → OnOk result (All (λ (e : MemFsEntry). CanBeSegment e.name) listed)
    → OnOk result (¬ HasOddMember m p)
named_all (Ok x) m p items listed h same each =
    plain_told m p items h (subst (λ (es : List MemFsEntry). All
    (λ (e : MemFsEntry). CanBeSegment e.name) es) same each)
named_all (Err e) m p items listed h same each = tt

pub plain_nowhere : (m : ResourceMap) (p : Path) (e : Fault) → e ≡ fault.NotFound → IsResourceMap m
    → LacksKind Folder m p e → ¬ HasOddMember m p
plain_nowhere m p e is is_map (inl short) odd = absurd (cc)
plain_nowhere m p e is is_map (inr none) odd =
    let r = some_of (at_path m (p ++ (odd.0 ∷ []))) odd.1 in
    let folder = is_map.parents p odd.0 r.0 r.1 in
    none.1 folder.0 folder.1 folder.2

pub none_listed : (m : ResourceMap) (p : Path) (e : Fault) → e ≡ fault.NotFound → IsResourceMap m
    → LacksKind Folder m p e → [] ≡ paths_of_members m p
none_listed m p e is is_map (inl short) = absurd (cc)
none_listed m p e is is_map (inr none) = no_members m p is_map none.1

pub odd_told : (m : ResourceMap) (p : Path) (items : List MemFsEntry) (entry : MemFsEntry) → read_dir m p ≡ Ok (map listed_entry items)
    → Contains items entry → ¬ CanBeSegment entry.name → HasOddMember m p
odd_told m p items entry h there odd =
    (entry.name, name_stands m p entry.name (subst (In entry.name) (names_told m p items h) (in_map items (In-Contains items entry there))), odd)
  where
    in_map : (es : List MemFsEntry) → In entry es → In entry.name (map (λ e. e.name) es)
    in_map [] i = absurd i
    in_map (e ∷ es) i = elim i [ inl is ↦ inl (ap (λ (x : MemFsEntry). x.name) is) | inr j ↦ inr (in_map es j) ]

-- ---- in the words of the code

pub same_map : (who : Caller) (s : State) (mid : Caller) (m : State) → Looks who s mid m → m.map ≡ s.map
same_map who s mid m h = ap (λ (x : State). x.map) h.live

module _ {A : Type 0} (f : A → Path) (m : ResourceMap) where
  pub begin : (place : A) (places none waiting : List A) → places ≡ [] → none ≡ [] → waiting ≡ none ++ (place ∷ []) → IsSome (at_path m (f place))
      → Walking m (f place) (map f places) (map f waiting)
  begin place places none waiting e n is here =
      let one : map f waiting ≡ f place ∷ [] = ap (map f) (is ∙ ap (λ xs. xs ++ (place ∷ [])) n) in
      subst (λ xs. Walking m (f place) (map f places) xs) (sym one) (subst (λ xs. Walking m (f place) xs (f place ∷ [])) (sym (ap (map f) e)) (walk_begun m (f place) here))

  pub begin_ordered : (place : A) (places none waiting : List A) → places ≡ [] → none ≡ []
      → waiting ≡ none ++ (place ∷ []) → AreInOrder (map f places) (map f waiting)
  begin_ordered place places none waiting e n is =
      let one : map f waiting ≡ f place ∷ [] = ap (map f) (is ∙ ap (λ xs. xs ++ (place ∷ [])) n) in
      subst (λ xs. AreInOrder (map f places) xs) (sym one)
      (subst (λ xs. AreInOrder xs (f place ∷ [])) (sym (ap (map f) e)) ((λ y i. absurd i), tt))

  module _ (p : Path) (done waiting rest : List A) (place : A) (was : waiting ≡ rest ++ (place ∷ [])) (w : Walking m p (map f done) (map f waiting)) where
    split : map f waiting ≡ map f rest ++ (f place ∷ [])
    split = ap (map f) was ∙ map-append f rest (place ∷ [])

    apart_now : Walking m p (map f done) (map f rest ++ (f place ∷ []))
    apart_now = subst (Walking m p (map f done)) split w

    pub refused_walk : (e : Fault) (m' : ResourceMap) → m' ≡ m → (e ≡ fault.InsufficientStorage) ⊎ ((e ≡ fault.BadRequest) × HasOddMember m' (f place))
        → (e ≡ fault.InsufficientStorage) ⊎ ((e ≡ fault.NotFound) × (at_path m p ≡ None)) ⊎ ((e ≡ fault.BadRequest) × HasOddName m p)
    refused_walk e m' same (inl h) = inl h
    refused_walk e m' same (inr h) =
        let odd = subst (λ n. HasOddMember n (f place)) same h.1 in
        inr (inr (
          h.0,
          record {
            folder = f place;
            name = odd.0;
            below = (apart_now.stand (f place) (inr (in_right (f place) (map f rest) (f place ∷ []) (inl refl)))).0;
            stands = odd.1;
            odd = odd.2;
          },
        ))

    module _ (done' members turned waiting' : List A) (m' : ResourceMap) (same : m' ≡ m)
        (turns : turned ≡ reverse members) (is : waiting' ≡ rest ++ turned)
        (are : map f members ≡ paths_of_members m' (f place)) where
      known : map f members ≡ paths_of_members m (f place)
      known = are ∙ ap (λ n. paths_of_members n (f place)) same

      g : Gathered m (f place) (map f members)
      g = gathered m (f place) (map f members) known

      waits_on : map f waiting' ≡ map f rest ++ reverse (map f members)
      waits_on = ap (map f) is ∙ map-append f rest turned
          ∙ ap (λ xs. map f rest ++ xs) (ap (map f) turns ∙ map_back f members)

      done_on : done' ≡ done ++ (place ∷ []) → map f done' ≡ map f done ++ (f place ∷ [])
      done_on more = ap (map f) more ∙ map-append f done (place ∷ [])

      pub goes_on : done' ≡ done ++ (place ∷ []) → Walking m p (map f done') (map f waiting')
      goes_on more =
          subst (λ xs. Walking m p (map f done') xs) (sym waits_on)
          (subst (λ xs. Walking m p xs (map f rest ++ reverse (map f members))) (sym (done_on more))
          (walk_on m p (map f done) (map f rest) (reverse (map f members)) (f place) apart_now
          (gathered_back m (f place) (map f members) g)))

      pub stays_ordered : done' ≡ done ++ (place ∷ []) → AreInOrder (map f done) (map f waiting)
          → AreInOrder (map f done') (map f waiting')
      stays_ordered more order =
          subst (λ xs. AreInOrder (map f done') xs) (sym waits_on)
          (subst (λ xs. AreInOrder xs (map f rest ++ reverse (map f members))) (sym (done_on more))
          (walk_order m p (map f done) (map f rest) (map f members) (f place) apart_now g
          (subst (λ xs. AreInOrder (map f done) xs) split order)
          (gathered_order m (f place) (map f members) known)))

      pub fewer : left_below m (map f waiting') < left_below m (map f waiting)
      fewer =
          subst (λ xs. left_below m (map f waiting') < left_below m xs) (sym split)
          (subst (λ xs. left_below m xs < left_below m (map f rest ++ (f place ∷ [])))
          (sym waits_on)
          (fewer_left m p (map f done) (map f rest) (reverse (map f members)) (f place) apart_now
          (gathered_back m (f place) (map f members) g)))

  pub none_plain : (places : List A) → places ≡ [] → ArePlain m (map f places)
  none_plain places none q i = absurd (subst (In q) (ap (map f) none) i)

  pub stay_plain : (done done' : List A) (place : A) (m' : ResourceMap)
      → done' ≡ done ++ (place ∷ []) → m' ≡ m → ArePlain m (map f done)
      → ¬ HasOddMember m' (f place)
      → ArePlain m (map f done')
  stay_plain done done' place m' more same plain now q i =
      elim (in_either q (map f done) (f place ∷ [])
      (subst (In q) (ap (map f) more ∙ map-append f done (place ∷ [])) i)) [
        | inl j ↦ plain q j
        | inr j ↦ subst (λ x. ¬ HasOddMember m x) (in_one q (f place) j)
            (subst (λ n. ¬ HasOddMember n (f place)) same now)
      ]

  pub ended : (p : Path) (done waiting : List A) → waiting ≡ []
      → Walking m p (map f done) (map f waiting) → AreInOrder (map f done) (map f waiting)
      → ArePlain m (map f done) → IsResourceMap m
      → IsSubtreeWalk m p (map f done)
  ended p done waiting none w order plain =
      walk_done m p (map f done) (subst (λ xs. Walking m p (map f done) (map f xs)) none w)
      (later_front ComesBefore (map f done) (reverse (map f waiting)) order) plain

-- ---- walks of one map and path are equal

pub walks_are_equal : (m : ResourceMap) (p : Path) (xs ys : List Path) → IsSubtreeWalk m p xs
    → IsSubtreeWalk m p ys → xs ≡ ys
walks_are_equal m p xs ys h k =
    one_walk xs ys h.sorted k.sorted (λ q i. (k.members q).1 ((h.members q).0 i))
    (λ q i. (h.members q).1 ((k.members q).0 i))

-- ---- something stands at each member

pub member_stands : (m : ResourceMap) (p : Path) (q : Path) → In q (paths_of_members m p)
    → IsSome (at_path m q)
member_stands m p q i = ((gathered m p (paths_of_members m p) refl).stand q i).2
