-- What is walked and restored is what was there.
use Rattle.std.proofs.Common.{◌≡◌, ◌⊎◌, inl, inr, ℕ, ◌+◌, ◌<◌, ◌≤◌, max, Bool, true, false, cond, List, [], ◌∷◌, ◌++◌, map, Option, Some, None, is_some, Ok, Err, refl, sym, ap, ◌∙◌, subst, arith, append-nil, append_assoc}
use Rattle.std.specs.Prelude.{◌==◌, ◌||◌, ◌&&◌, not}
use Rattle.std.specs.Ordering.{eq_by_cmp}
use Rattle.std.specs.List.{AllByRecursion, IsDistinct}
use Rattle.std.specs.FinMap.{entries, get, same_map}
use Rattle.std.proofs.lemmas.Bool.{eq-eqb, ne_eqb, true≢false}
use Rattle.std.proofs.lemmas.Cmp.{eq_by_cmp_equiv}
use Rattle.std.proofs.lemmas.List.Sorted.{Contains-permutation, IsPermutation-sym}
use Rattle.std.proofs.lemmas.List.{map-append}
use Rattle.std.proofs.lemmas.Map.Keys.{IsDistinct-IsPermutation}
use Rattle.dav_path_core.specs.declared.errors.FsError.TheVariants.{Exists, Forbidden}
use Rattle.dav_path_core.specs.Fronts.{Segment, Path, path_cmp, parent}
use Rattle.dav_path_core.proofs.lists.EntryLemmas.{In-entries, entries-In, distinct_entries}
use Rattle.dav_path_core.proofs.lists.FinMaps.{none_some, one_some, get_same}
use Rattle.dav_path_core.proofs.lists.MemberLemmas.{In, In-Contains, In-behind, In-front, In-last, Contains-In}
use Rattle.dav_path_core.proofs.lists.Orders.{path_total, path_exact, eq_by_cmp_same}
use Rattle.dav_path_core.proofs.lists.SameMembers.{In-map, In-there}
use Rattle.dav_files_core.specs.declared.memfs.Kind.{Kind}
use Rattle.dav_files_core.specs.declared.memfs.Kind.TheVariants.{Folder, File}
use Rattle.dav_files_core.specs.Finding.{has_any}
use Rattle.dav_files_core.specs.Outcomes.{Outcome, ◌>>=◌, with_other_node, find_folder, only_folder, start, new_folder}
use Rattle.dav_files_core.specs.OpenFiles.{with_number}
use Rattle.dav_files_core.specs.Resources.{is_folder, Resource, ResourceMap, at_path, IsResourceMap}
use Rattle.dav_files_core.specs.Restoring.{can_stand, restore, restore_all, restore_at, with_restored_entry, IsRestoredFrom}
use Rattle.dav_files_core.specs.Walks.{Stored, stored_entry, StandsBehind, IsMapWalk}
use Rattle.dav_files_core.proofs.changes.AddedLemmas.{IsResourceMap-added_as, added_as_kept, added_as_cases}
use Rattle.dav_files_core.proofs.changes.ChangedLemmas.{IsResourceMap-changed, changed_cases}
use Rattle.dav_files_core.proofs.opens.NumberedLemmas.{number_gone}
use Rattle.dav_files_core.proofs.walks.FoundLemmas.{find_there, parent-snoc}
use Rattle.dav_files_core.proofs.walks.StartLemmas.{IsResourceMap-start, root_there, only_root}

-- ---- plain lists

abbrev same_path : Path × Resource → Path × Resource → Bool
same_path a b = eq_by_cmp path_cmp a.0 b.0

-- two with one path are not in front and behind
not_again : (front rest : List (Path × Resource)) (p : Path) (r x : Resource) → IsDistinct same_path (front ++ (p, r) ∷ rest) → In (p, x) front → ⊥
unfolding IsDistinct
not_again [] rest p r x d i = absurd i
not_again (e ∷ front) rest p r x d i = elim i [
  | inl is ↦ true≢false (sym (eq_by_cmp_same path_total p) ∙ ap (λ v. eq_by_cmp path_cmp v p) (sym (ap (λ (e : Path × Resource). e.0) is)) ∙ at front d.0)
  | inr j ↦ not_again front rest p r x d.1 j
]
  where
    at : (front : List (Path × Resource)) → AllByRecursion (λ y. same_path e y ≡ false) (front ++ (p, r) ∷ rest) → same_path e (p, r) ≡ false
    at [] a = a.0
    at (f ∷ front) a = at front a.1

-- ---- one entry more

-- the entries in front and no others stand in the map
record At (m : ResourceMap) (front : List (Path × Resource)) (n : ResourceMap) : Type 0 where
  shape : IsResourceMap n
  has : (p : Path) (r : Resource) → In (p, r) front → at_path n p ≡ Some r
  only : (p : Path) (r : Resource) → at_path n p ≡ Some r → In (p, r) front
  next : n.next ≤ m.next

module _ (m : ResourceMap) (is_map : IsResourceMap m) (given : m.next ≤ 18446744073709551615) where
  stands : (p : Path) (r : Resource) → at_path m p ≡ Some r → can_stand r ≡ true
  stands p r here =
      let positive = is_map.positive p r here in
      let below = is_map.below p r here in
      ap (λ b. not (b || (r.number == 18446744073709551615)) && not (is_folder r.node.kind && has_any r.node.bytes)) (ne_eqb r.number 0 (λ e. omega (arith, e, positive)))
      ∙ ap (λ b. not b && not (is_folder r.node.kind && has_any r.node.bytes)) (ne_eqb r.number 18446744073709551615 (λ e. omega (arith, e, below, given)))
      ∙ bare r.node.kind refl
    where
      bare : (k : Kind) → r.node.kind ≡ k → not (is_folder r.node.kind && has_any r.node.bytes) ≡ true
      bare File is = ap (λ k. not (is_folder k && has_any r.node.bytes)) is
      bare Folder is = ap (λ k. not (is_folder k && has_any r.node.bytes)) is ∙ ap (λ bytes. not (has_any bytes)) (is_map.bare p r here is)

  -- an entry is restored where its folder stands and neither it nor its number
  module _ (front : List (Path × Resource)) (n : ResourceMap) (at : At m front n) (f : Path) (name : Segment) (folder r : Resource)
      (in_front : at_path n f ≡ Some folder) (is_folder : folder.node.kind ≡ Folder) (here : at_path m (f ++ name ∷ []) ≡ Some r)
      (free : at_path n (f ++ name ∷ []) ≡ None) (unused : (q : Path) (x : Resource) → at_path n q ≡ Some x → ¬ (x.number ≡ r.number)) where
    abbrev place : Path
    place = f ++ name ∷ []

    abbrev n' : ResourceMap
    n' = with_restored_entry n place r

    found : find_folder n (parent place) ≡ Ok folder
    found = ap (find_folder n) (parent-snoc f name) ∙ ap (λ o. o >>= only_folder) (find_there n f folder in_front) ∙ kind folder.node.kind refl
      where
        kind : (k : Kind) → folder.node.kind ≡ k → only_folder folder ≡ Ok folder
        kind Folder is = ap (λ (k : Kind). elim k [ Folder ↦ Ok folder | File ↦ Err Forbidden ]) is
        kind File is = let both : Folder ≡ File = sym is_folder ∙ is in absurd (cc)

    put_there : restore n place r ≡ Ok (tt, n')
    put_there =
        ap (λ b. let o : Outcome (Unit {0}) = cond b (restore_at n place r (at_path n place)) (Err Forbidden) in o) (stands place r here)
        ∙ ap (restore_at n place r) free
        ∙ ap (λ o. o >>= λ _. let w : Outcome (Unit {0}) = cond (is_some (with_number n r.number)) (Err Exists) (Ok (tt, n')) in w) found
        ∙ ap (λ o. let w : Outcome (Unit {0}) = cond (is_some o) (Err Exists) (Ok (tt, n')) in w) (number_gone n r.number unused)

    abbrev next' : ℕ
    next' = max n.next (r.number + 1)

    positive : 0 < r.number
    positive = is_map.positive place r here

    small : r.number < next'
    small = omega arith

    grows : n.next ≤ next'
    grows = omega arith

    At-more : At m (front ++ (place, r) ∷ []) n'
    At-more = record {
      shape = IsResourceMap-added_as n at.shape f name folder r.node r.number next' unused positive small grows in_front is_folder free (is_map.bare place r here);
      has = λ p x i. elim (In-last front (place, r) (p, x) i) [
        | inl j ↦ added_as_kept n at.shape f name folder r.node r.number next' unused positive small grows in_front is_folder free (is_map.bare place r here) p x (at.has p x j)
        | inr e ↦ ap (at_path n') (sym (ap (λ (e : Path × Resource). e.0) e)) ∙ get_same path_total path_exact n.entries place r ∙ ap (λ (e : Path × Resource). Some e.1) e
      ];
      only = λ p x h. elim (added_as_cases n at.shape f name folder r.node r.number next' unused positive small grows in_front is_folder free (is_map.bare place r here) p x h) [
        | inl new ↦ In-behind front ((place, r) ∷ []) (p, x) (inl (λ i. (sym new.0 i, sym new.1 i)))
        | inr old ↦ In-front front ((place, r) ∷ []) (p, x) (at.only p x old.1)
      ];
      next = let below = is_map.below place r here in let up = at.next in omega (arith, below, up);
    }

  -- ---- the root, which is there in a new store
  module _ (now : ℕ) (r : Resource) (here : at_path m [] ≡ Some r) where
    abbrev old_root : Resource
    old_root = record { number = 1; node = new_folder now }

    abbrev n1 : ResourceMap
    n1 = with_other_node (start now) [] old_root r.node

    is_root : r ≡ is_map.root.0
    is_root = one_some (at_path m []) r is_map.root.0 here is_map.root.1

    number : r.number ≡ 1
    number = ap (λ (r : Resource). r.number) is_root ∙ is_map.root.2

    folder : r.node.kind ≡ Folder
    folder = ap (λ (r : Resource). r.node.kind) is_root ∙ is_map.root.3

    new_root : record { number = 1; node = r.node } ≡ r
    new_root = λ i. record { number = sym number i; node = r.node }

    root_restored : restore (start now) [] r ≡ Ok (tt, n1)
    root_restored =
        ap (λ b. let o : Outcome (Unit {0}) = cond b (restore_at (start now) [] r (at_path (start now) [])) (Err Forbidden) in o) (stands [] r here)
        ∙ ap (restore_at (start now) [] r) (root_there now)
        ∙ ap (λ k. let o : Outcome (Unit {0}) = cond ((r.number == 1) && is_folder k) (Ok (tt, n1)) (Err Exists) in o) folder
        ∙ ap (λ b. let o : Outcome (Unit {0}) = cond (b && true) (Ok (tt, n1)) (Err Exists) in o) (eq-eqb r.number 1 number)

    At-root : At m (([], r) ∷ []) n1
    At-root = record {
      shape = IsResourceMap-changed (start now) (IsResourceMap-start now) [] old_root r.node (root_there now) (λ _. folder) (is_map.bare [] r here);
      has = λ p x i. elim i [
        | inl e ↦ ap (at_path n1) (sym (ap (λ (e : Path × Resource). e.0) e)) ∙ get_same path_total path_exact (start now).entries [] (record { number = 1; node = r.node }) ∙ ap (λ (r : Resource). Some r) new_root
            ∙ ap (λ (e : Path × Resource). Some e.1) e
        | inr j ↦ absurd j
      ];
      only = λ p x h. elim (changed_cases (start now) (IsResourceMap-start now) [] old_root r.node (root_there now) (λ _. folder) (is_map.bare [] r here) p x h) [
        | inl new ↦ inl (λ i. (sym new.0 i, (sym new_root ∙ sym new.1) i))
        | inr old ↦ absurd (old.0 (only_root now p x old.1).0)
      ];
      next = let below = is_map.below [] r here in let one = number in omega (arith, below, one);
    }

  -- ---- one entry after another
  module _ (ss : List Stored) (walk : IsMapWalk m ss) where
    abbrev es : List (Path × Resource)
    es = map stored_entry ss

    in_map : (p : Path) (r : Resource) → In (p, r) es → at_path m p ≡ Some r
    in_map p r i =
        In-entries path_total m.entries (p, r)
        (In-Contains (entries m.entries) (p, r) (Contains-permutation es (entries m.entries) (p, r) (IsPermutation-sym (entries m.entries) es walk.all) (Contains-In es (p, r) i)))

    in_list : (p : Path) (r : Resource) → at_path m p ≡ Some r → In (p, r) es
    in_list p r h =
        In-Contains es (p, r) (Contains-permutation (entries m.entries) es (p, r) walk.all (Contains-In (entries m.entries) (p, r) (entries-In path_total path_exact m.entries p r h)))

    once : IsDistinct same_path es
    once = IsDistinct-IsPermutation same_path (λ a b. (eq_by_cmp_equiv path_total).symm a.0 b.0) (entries m.entries) es walk.all (distinct_entries path_total m.entries)

    module _ (front rest : List Stored) (s : Stored) (split : ss ≡ front ++ s ∷ rest) (n : ResourceMap) (at : At m (map stored_entry front) n) where
      abbrev before : List (Path × Resource)
      before = map stored_entry front

      abbrev r : Resource
      r = s.resource

      split_es : es ≡ before ++ (s.path, r) ∷ map stored_entry rest
      split_es = ap (map stored_entry) split ∙ map-append stored_entry front (s ∷ rest)

      here : at_path m s.path ≡ Some r
      here = in_map s.path r (subst (In (s.path, r)) (sym split_es) (In-there before (s.path, r) (map stored_entry rest)))

      in_m : (p : Path) (x : Resource) → at_path n p ≡ Some x → at_path m p ≡ Some x
      in_m p x h = in_map p x (subst (In (p, x)) (sym split_es) (In-front before ((s.path, r) ∷ map stored_entry rest) (p, x) (at.only p x h)))

      none : at_path n s.path ≡ None
      none = by (at_path n s.path) refl
        where
          by : (o : Option Resource) → at_path n s.path ≡ o → o ≡ None
          by None e = refl
          by (Some x) e = absurd (not_again before (map stored_entry rest) s.path r x (subst (IsDistinct same_path) split_es once) (at.only s.path x e))

      unused : (q : Path) (x : Resource) → at_path n q ≡ Some x → ¬ (x.number ≡ r.number)
      unused q x h e = none_some (at_path n s.path) x none (ap (at_path n) (sym (is_map.apart q s.path x r (in_m q x h) here e)) ∙ h)

      abbrev Goes : Path → Type 0
      Goes p = (n' : ResourceMap) × (restore n p r ≡ Ok (tt, n')) × At m (before ++ (p, r) ∷ []) n'

      goes : (folder : Option ℕ) → StandsBehind front s.path folder → Goes s.path
      goes None b = let root = at.shape.root in absurd (none_some (at_path n s.path) root.0 none (ap (at_path n) b ∙ root.1))
      goes (Some above) b =
          let f : Stored = b.0 in
          let name : Segment = b.1 in
          let is : s.path ≡ f.path ++ name ∷ [] = b.4 in
          let in_front : at_path n f.path ≡ Some f.resource = at.has f.path f.resource (In-map stored_entry front f (In-Contains front f b.2)) in
          let there : at_path m (f.path ++ name ∷ []) ≡ Some r = ap (at_path m) (sym is) ∙ here in
          let parent = is_map.parents f.path name r there in
          let folder : f.resource.node.kind ≡ Folder = ap (λ (r : Resource). r.node.kind) (one_some (at_path m f.path) f.resource parent.0 (in_m f.path f.resource in_front) parent.1) ∙ parent.2 in
          let free : at_path n (f.path ++ name ∷ []) ≡ None = ap (at_path n) (sym is) ∙ none in
          subst Goes (sym is) (
            with_restored_entry n (f.path ++ name ∷ []) r,
            put_there before n at f.path name f.resource r in_front folder there free unused,
            At-more before n at f.path name f.resource r in_front folder there free unused,
          )

      goes_on : Goes s.path
      goes_on = goes s.folder (walk.behind front rest s split)

    loop : (rest front : List Stored) → ss ≡ front ++ rest → (n : ResourceMap) → At m (map stored_entry front) n → (n' : ResourceMap) × (restore_all n (map stored_entry rest) ≡ Ok (tt, n')) × At m es n'
    loop [] front split n at = (n, refl, subst (λ l. At m (map stored_entry l) n) (sym (split ∙ append-nil front)) at)
    loop (s ∷ rest) front split n at =
        let w = goes_on front rest s split n at in
        let more = loop rest (front ++ s ∷ []) (split ∙ sym (append_assoc front (s ∷ []) rest)) w.0 (subst (λ l. At m l w.0) (sym (map-append stored_entry front (s ∷ []))) w.2) in
        (more.0, ap (λ o. o >>= λ (r : Unit {0} × ResourceMap). restore_all r.1 (map stored_entry rest)) w.1 ∙ more.1, more.2)

    same_entries : (n : ResourceMap) → At m es n → n.entries ≡ m.entries
    same_entries n at = same_map path_total path_exact n.entries m.entries agree
      where
        nowhere : (p : Path) (o : Option Resource) → at_path m p ≡ None → at_path n p ≡ o → o ≡ None
        nowhere p None e h = refl
        nowhere p (Some x) e h = absurd (none_some (at_path m p) x e (in_map p x (at.only p x h)))

        there : (p : Path) (o : Option Resource) → at_path m p ≡ o → at_path n p ≡ o
        there p None e = nowhere p (at_path n p) e refl
        there p (Some r) e = at.has p r (in_list p r e)

        agree : (p : Path) → get n.entries p ≡ get m.entries p
        agree p = there p (at_path m p) refl

    ends : (now : ℕ) (l : List Stored) → ss ≡ l → IsRestoredFrom m (map stored_entry l) now
    ends now [] is = let root = is_map.root in absurd (subst (λ l. In ([], root.0) (map stored_entry l)) is (in_list [] root.0 root.1))
    ends now (s ∷ rest) is =
        let top : s.path ≡ [] = first s.folder (walk.behind [] rest s is) in
        let here : at_path m [] ≡ Some s.resource = ap (at_path m) (sym top) ∙ in_map s.path s.resource (subst (λ l. In (s.path, s.resource) (map stored_entry l)) (sym is) (inl refl)) in
        let at : At m (map stored_entry (s ∷ [])) (n1 now s.resource here) = subst (λ p. At m ((p, s.resource) ∷ []) (n1 now s.resource here)) (sym top) (At-root now s.resource here) in
        let done = loop rest (s ∷ []) is (n1 now s.resource here) at in (
          done.0,
          ap (λ p. restore (start now) p s.resource >>= λ (r : Unit {0} × ResourceMap). restore_all r.1 (map stored_entry rest)) top
              ∙ ap (λ o. o >>= λ (r : Unit {0} × ResourceMap). restore_all r.1 (map stored_entry rest)) (root_restored now s.resource here)
              ∙ done.1,
          (λ i. record { entries = same_entries done.0 done.2 i; next = top_next done.0 done.2 i }),
        )
      where
        first : (folder : Option ℕ) → StandsBehind [] s.path folder → s.path ≡ []
        first None b = b
        first (Some above) b = absurd (In-Contains [] b.0 b.2)

        top_next : (n : ResourceMap) → At m es n → max n.next m.next ≡ m.next
        top_next n at = let up = at.next in omega (arith, up)

  pub restored_from_walk : (ss : List Stored) (walk : IsMapWalk m ss) (now : ℕ) → IsRestoredFrom m (map stored_entry ss) now
  restored_from_walk ss walk now = ends ss walk now ss refl
