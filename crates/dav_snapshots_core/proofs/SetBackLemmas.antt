-- What is restored of a walk that is set back is the map, with each entry set back.
use Rattle.std.proofs.Common.{◌≡◌, ◌⊎◌, inl, inr, ℕ, ◌+◌, ◌<◌, ◌≤◌, List, [], ◌∷◌, ◌++◌, length, map, get_or, take, drop, Bool, true, false, cond, Option, Some, None, Ok, Err, refl, sym, ap, subst, ◌∙◌}
use Rattle.std.specs.Prelude.{option_map}
use Rattle.std.specs.FinMap.{entries}
use Rattle.std.specs.Borrow.{Bor}
use Rattle.std.specs.List.{flat_map}
use Rattle.std.proofs.lemmas.List.{map-append}
use Rattle.std.specs.List.Sorted.{IsPermutation}
use Rattle.std.proofs.lemmas.List.Sorted.{IsPermutation-map}
use Rattle.dav_path_core.specs.declared.errors.FsError.{FsError}
use Rattle.dav_path_core.specs.declared.errors.FsError.TheVariants.{InsufficientStorage}
use Rattle.dav_path_core.specs.Fronts.{Path}
use Rattle.dav_path_core.proofs.lists.MemberLemmas.{In, In-Contains, Contains-In}
use Rattle.dav_path_core.proofs.lists.SameMembers.{In-map}
use Rattle.dav_path_core.proofs.trees.Trees.{none≢some, same_some}
use Rattle.dav_files_core.specs.Outcomes.{Outcome, start}
use Rattle.dav_files_core.specs.Resources.{IsResourceMap, Resource, ResourceMap, at_path}
use Rattle.dav_files_core.specs.Restoring.{restore, restore_all, with_later_next}
use Rattle.dav_files_core.specs.Walks.{IsMapWalk, StandsBehind, Stored, stored_entry}
use Rattle.dav_files_core.proofs.laws.RestoredLaws.{restored_from_walk}
use Rattle.dav_locks_core.specs.Exclusive.{Exclusive}
use Rattle.dav_locks_core.specs.Lock.{Lock}
use Rattle.dav_locks_core.specs.Locks.{lock_conflicts, lock_path, refuses_lock}
use Rattle.dav_locks_core.proofs.laws.RestoredLaws.{free_behind}
use Rattle.dav_guarded_core.specs.Stores.{Stores}
use Rattle.dav_snapshots_core.specs.Private.LateMoments.{AreLateOf, IsFilled, moments_at, placed_back}
use Rattle.dav_snapshots_core.specs.SetBack.{IsSetBack, lock_set_back, moment_set_back, resource_set_back}
use Rattle.dav_snapshots_core.specs.WrittenSnapshots.{HasPaths}
use Rattle.dav_snapshots_core.proofs.LateLemmas.{are_late}
use Rattle.dav_snapshots_core.proofs.MappedMaps.{entries-with_values, get-with_values, with_value, with_values}
use Rattle.dav_snapshots_core.proofs.MetLemmas.{in_map}
use Rattle.dav_snapshots_core.proofs.PutLemmas.{drop_next, split_at}

head_same : {A : Type 0} (x y : A) (xs ys : List A) → x ∷ xs ≡ y ∷ ys → x ≡ y
head_same x y xs ys e = cc

tail_same : {A : Type 0} (x y : A) (xs ys : List A) → x ∷ xs ≡ y ∷ ys → xs ≡ ys
tail_same x y xs ys e = cc

-- ---- the map, and its walk

module _ (from : ℕ) (late : List ℕ) where
  abbrev back : Resource → Resource
  back = resource_set_back from late

  abbrev pub map_back : ResourceMap → ResourceMap
  map_back m = record { entries = with_values back m.entries; next = m.next }

  at_back : (m : ResourceMap) (p : Path) → at_path (map_back m) p ≡ option_map back (at_path m p)
  at_back m p = get-with_values back m.entries p

  abbrev stored_back : Stored → Stored
  stored_back s = record { path = s.path; resource = back s.resource; folder = s.folder }

  some_back : (o : Option Resource) (r : Resource) → option_map back o ≡ Some r → (q : Resource) × (o ≡ Some q) × (back q ≡ r)
  some_back (Some q) r e = (q, refl, same_some (back q) r e)
  some_back None r e = absurd (none≢some r e)

  was_at : (m : ResourceMap) (p : Path) (r : Resource) → at_path (map_back m) p ≡ Some r → (q : Resource) × (at_path m p ≡ Some q) × (back q ≡ r)
  was_at m p r e = some_back (at_path m p) r (sym (at_back m p) ∙ e)

  is_at : (m : ResourceMap) (p : Path) (q : Resource) → at_path m p ≡ Some q → at_path (map_back m) p ≡ Some (back q)
  is_at m p q e = at_back m p ∙ ap (option_map back) e

  shape_back : (m : ResourceMap) → IsResourceMap m → IsResourceMap (map_back m)
  shape_back m h = record {
    root = (back h.root.0, is_at m [] h.root.0 h.root.1, h.root.2, h.root.3);
    parents = λ p s r e. let w = was_at m (p ++ (s ∷ [])) r e in let q = h.parents p s w.0 w.1 in (back q.0, is_at m p q.0 q.1, q.2);
    apart = λ p q r s e f n. let a = was_at m p r e in let b = was_at m q s f in
        h.apart p q a.0 b.0 a.1 b.1 (ap (λ (x : Resource). x.number) a.2 ∙ n ∙ ap (λ (x : Resource). x.number) (sym b.2));
    positive = λ p r e. let w = was_at m p r e in subst (λ (x : Resource). 0 < x.number) w.2 (h.positive p w.0 w.1);
    below = λ p r e. let w = was_at m p r e in subst (λ (x : Resource). x.number < m.next) w.2 (h.below p w.0 w.1);
    bare = λ p r e k. let w = was_at m p r e in
        ap (λ (x : Resource). x.node.bytes) (sym w.2) ∙ h.bare p w.0 w.1 (ap (λ (x : Resource). x.node.kind) w.2 ∙ k);
  }

  entries_back : (ss : List Stored) → map (with_value back) (map stored_entry ss) ≡ map stored_entry (map stored_back ss)
  entries_back [] = refl
  entries_back (s ∷ ss) = ap (λ (es : List (Path × Resource)). stored_entry (stored_back s) ∷ es) (entries_back ss)

  -- a list that is set back, parted at one of its members
  parted : (ss front rest : List Stored) (s : Stored) → map stored_back ss ≡ front ++ s ∷ rest
      → (a : List Stored) × (b : List Stored) × (x : Stored) × (ss ≡ a ++ x ∷ b) × (map stored_back a ≡ front) × (stored_back x ≡ s)
  parted [] [] rest s e = absurd cc
  parted [] (f ∷ front) rest s e = absurd cc
  parted (x ∷ ss) [] rest s e = ([], ss, x, refl, refl, head_same (stored_back x) s (map stored_back ss) rest e)
  parted (x ∷ ss) (f ∷ front) rest s e =
      let t = parted ss front rest s (tail_same (stored_back x) f (map stored_back ss) (front ++ s ∷ rest) e) in
      let h = head_same (stored_back x) f (map stored_back ss) (front ++ s ∷ rest) e in
      (x ∷ t.0, t.1, t.2, ap (λ (l : List Stored). x ∷ l) t.3, (λ i. h i ∷ t.4 i), t.5)

  behind_back : (front : List Stored) (p : Path) (folder : Option ℕ) → StandsBehind front p folder → StandsBehind (map stored_back front) p folder
  behind_back front p None h = h
  behind_back front p (Some number) h =
      (stored_back h.0, h.1, Contains-In (map stored_back front) (stored_back h.0) (In-map stored_back front h.0 (In-Contains front h.0 h.2)), h.3, h.4)

  walk_back : (m : ResourceMap) (ss : List Stored) → IsMapWalk m ss → IsMapWalk (map_back m) (map stored_back ss)
  walk_back m ss w = record {
    all = subst (λ (es : List (Path × Resource)). IsPermutation es (map stored_entry (map stored_back ss))) (sym (entries-with_values back m.entries))
        (subst (IsPermutation (map (with_value back) (entries m.entries))) (entries_back ss) (IsPermutation-map (with_value back) (entries m.entries) (map stored_entry ss) w.all));
    behind = λ front rest s e.
        let t = parted ss front rest s e in
        let h = behind_back t.0 t.2.path t.2.folder (w.behind t.0 t.1 t.2 t.3) in
        let there = subst (λ (f : List Stored). StandsBehind f t.2.path t.2.folder) t.4 h in
        subst (λ (x : Stored). StandsBehind front x.path x.folder) t.5 there;
  }

  -- ---- what is restored

  places_back : (m : ResourceMap) (ss : List Stored) → HasPaths m → ((s : Stored) → In s ss → at_path m s.path ≡ Some s.resource) → map (placed_back from late) ss ≡ map stored_entry (map stored_back ss)
  places_back m [] paths stand = refl
  places_back m (s ∷ ss) paths stand =
      ap (λ (p : Path). (p, back s.resource) ∷ map (placed_back from late) ss) (paths s.path s.resource (stand s (inl refl)))
      ∙ ap (λ (es : List (Path × Resource)). stored_entry (stored_back s) ∷ es) (places_back m ss paths (λ x i. stand x (inr i)))

  pub restored_back : (m : ResourceMap) (ss : List Stored) → IsResourceMap m → m.next ≤ 18446744073709551615 → IsMapWalk m ss → HasPaths m
      → (n : ResourceMap) × (restore_all (start from) (map (placed_back from late) ss) ≡ Ok (tt, n)) × (with_later_next n m.next ≡ map_back m)
  restored_back m ss shape small w paths =
      let r = restored_from_walk (map_back m) (shape_back m shape) small (map stored_back ss) (walk_back m ss w) from in
      (r.0, ap (restore_all (start from)) (places_back m ss paths (λ s i. in_map m ss s w i)) ∙ r.1, r.2)

-- ---- one after the other

module _ (place : Stored → Path × Resource) (xs : List Stored) (i : ℕ) (m : ResourceMap) (whole : Outcome (Unit {0})) (so_far : restore_all m (map place (drop i xs)) ≡ whole) where
  pub goes_on : (x : Stored) (n : ResourceMap) → i < length xs → x ≡ get_or xs i x → restore m (place x).0 (place x).1 ≡ Ok (tt, n) → restore_all n (map place (drop (i + 1) xs)) ≡ whole
  goes_on x n lt at h =
      let one : restore_all m (map place (x ∷ drop (i + 1) xs)) ≡ restore_all n (map place (drop (i + 1) xs)) = rw h refl in
      sym one ∙ ap (λ (l : List Stored). restore_all m (map place l)) (sym (drop_next xs i x lt at)) ∙ so_far

-- ---- locks

module _ (from : ℕ) where
  abbrev locks_back : List Lock → List Lock
  locks_back = map (lock_set_back from)

  conflicts_back : (locks : List Lock) (p : Path) (shared deep : Bool) → lock_conflicts (locks_back locks) p shared deep ≡ locks_back (lock_conflicts locks p shared deep)
  conflicts_back [] p shared deep = refl
  conflicts_back (l ∷ ls) p shared deep = elim (refuses_lock p shared deep l) as (λ b. cond b (lock_set_back from l ∷ lock_conflicts (locks_back ls) p shared deep) (lock_conflicts (locks_back ls) p shared deep)
      ≡ locks_back (cond b (l ∷ lock_conflicts ls p shared deep) (lock_conflicts ls p shared deep))) [
        | true ↦ ap (λ (ks : List Lock). lock_set_back from l ∷ ks) (conflicts_back ls p shared deep)
        | false ↦ conflicts_back ls p shared deep
      ]

  module _ (ls : List (Bor Lock)) (i : ℕ) (x : Bor Lock) (lt : i < length ls) (at : x ≡ get_or ls i x) where
    parted_there : map (λ l. l.now) ls ≡ map (λ l. l.now) (take i ls) ++ x.now ∷ map (λ l. l.now) (drop (i + 1) ls)
    parted_there = ap (map (λ l. l.now)) (split_at ls i x lt at) ∙ map-append (λ l. l.now) (take i ls) (x ∷ drop (i + 1) ls)

    -- no lock stands in the way of the next one
    pub is_free : Exclusive (map (λ l. l.now) ls) → lock_conflicts (map (lock_set_back from) (map (λ l. l.now) (take i ls))) (lock_path x.now) x.now.shared x.now.deep ≡ []
    is_free apart =
        let front = map (λ (l : Bor Lock). l.now) (take i ls) in
        conflicts_back front (lock_path x.now) x.now.shared x.now.deep ∙ ap locks_back (free_behind front x.now (map (λ l. l.now) (drop (i + 1) ls)) (subst Exclusive parted_there apart))

-- ---- the stores

same_made : (x y : ResourceMap) (o : Outcome (Unit {0})) → o ≡ Ok (tt, x) → o ≡ Ok (tt, y) → x ≡ y
same_made x y o a b =
    let pairs : ◌≡◌ {A = Unit {0} × ResourceMap} (tt, x) (tt, y) = cc in
    ap (λ (p : Unit {0} × ResourceMap). p.1) pairs

never_both : (x : Unit {0} × ResourceMap) (e : FsError) (o : Outcome (Unit {0})) → o ≡ Ok x → o ≡ Err e → ⊥
never_both x e o a b = absurd cc

module _ (from last next : ℕ) (s : Stores) (walk : List Stored) (late : List ℕ) (shape : IsResourceMap s.map) (walked : IsMapWalk s.map walk) (paths : HasPaths s.map) (same : next ≡ s.map.next) where
  -- what is restored of the walk is refused for memory alone
  pub only_memory : next ≤ 18446744073709551615 → (e : FsError) → (e ≡ InsufficientStorage) ⊎ (restore_all (start from) (map (placed_back from late) walk) ≡ Err e) → e ≡ InsufficientStorage
  only_memory fits e (inl is) = is
  only_memory fits e (inr refused) =
      let r = restored_back from late s.map walk shape (subst (λ n. n ≤ 18446744073709551615) same fits) walked paths in
      absurd (never_both (tt, r.0) e (restore_all (start from) (map (placed_back from late) walk)) r.1 refused)

  pub is_set_back : (t : Stores) (now : ℕ) → AreLateOf from (last ∷ flat_map moments_at walk) late → IsFilled from late walk next t.map → t.locks ≡ map (lock_set_back from) s.locks
      → now ≡ moment_set_back from late last → IsSetBack from s last t now
  is_set_back t now of filled locks moment =
      let r = restored_back from late s.map walk shape (subst (λ n. n ≤ 18446744073709551615) same filled.fits) walked paths in
      let one : filled.made ≡ r.0 = same_made filled.made r.0 (restore_all (start from) (map (placed_back from late) walk)) filled.restored r.1 in
      let there : t.map ≡ map_back from late s.map = filled.numbered ∙ ap (λ (m : ResourceMap). with_later_next m next) one ∙ ap (with_later_next r.0) same ∙ r.2 in
      record {
        late = late;
        are_late = are_late s last from walk late walked of;
        entries = λ p. ap (λ (m : ResourceMap). at_path m p) there ∙ at_back from late s.map p;
        next = ap (λ (m : ResourceMap). m.next) there;
        locks = locks;
        moment = moment;
      }

pub paths_back : (from last now : ℕ) (s t : Stores) → HasPaths s.map → IsSetBack from s last t now → HasPaths t.map
paths_back from last now s t paths is p r at =
    let was = some_back from is.late (at_path s.map p) r (sym (is.entries p) ∙ at) in
    paths p was.0 was.1
