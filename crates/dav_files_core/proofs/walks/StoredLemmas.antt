-- What a walk of the tree of files gives, as entries of the map.
use Rattle.std.proofs.Common.{◌≡◌, inl, inr, ℕ, zero, suc, ◌<◌, true, List, [], ◌∷◌, ◌++◌, map, Option, Some, None, refl, sym, ap, ◌∙◌, subst, arith, eqb}
use Rattle.std.specs.Prelude.{unwrap_or, is_some, option_and_then}
use Rattle.std.specs.Option.{option_map, option_map_or}
use Rattle.std.specs.List.{IsDistinct, last_or}
use Rattle.std.specs.List.Sorted.{IsPermutation}
use Rattle.std.specs.Cmp.{nat_cmp_total}
use Rattle.std.specs.FinMap.{get, entries, len}
use Rattle.std.proofs.lemmas.Bool.{eqb-true, false≢true}
use Rattle.dav_path_core.specs.Fronts.{Segment, Path}
use Rattle.dav_path_core.specs.Keyed.{item, parent_number, parent_and_key, parent_and_key_of, IsKnown, IsIn}
use Rattle.dav_path_core.specs.Walking.{IsTreeWalk}
use Rattle.dav_path_core.proofs.children.Chains.{in_here, in_later, none_twice, later_distinct}
use Rattle.dav_path_core.proofs.lists.EntryLemmas.{In-entries, entries-In, entries_once}
use Rattle.dav_path_core.proofs.lists.Every.{not_empty}
use Rattle.dav_path_core.proofs.lists.MemberLemmas.{In, Contains-In, find_any}
use Rattle.dav_path_core.proofs.lists.Orders.{path_total, path_exact}
use Rattle.dav_path_core.proofs.lists.SameMembers.{NoneTwice, In-there, In-map, map-In, NoneTwice-map, map_front, permutes}
use Rattle.dav_path_core.proofs.trees.Trees.{none≢some, same_some}
use Rattle.dav_files_core.specs.Outcomes.{new_folder}
use Rattle.dav_files_core.specs.Private.Entries.{StandsIn}
use Rattle.dav_files_core.specs.Private.FileRepresents.{FileEntry, FileTree, Represents, node_path}
use Rattle.dav_files_core.specs.Private.Stored.{stored_with, stored_at, AreKnown}
use Rattle.dav_files_core.specs.Resources.{Node, Resource, ResourceMap, at_path}
use Rattle.dav_files_core.specs.Walks.{stored_entry, StandsBehind, IsMapWalk}
use Rattle.dav_files_core.proofs.moves.RenamedLemmas.{last_is}
use Rattle.dav_files_core.proofs.walks.AboveLemmas.{place_in}
use Rattle.dav_files_core.proofs.walks.RecoverLemmas.{entry_is}
use Rattle.dav_files_core.proofs.walks.WalkLemmas.{entry_of_node}

some_of : {A : Type 0} (o : Option A) → is_some o ≡ true → (x : A) × (o ≡ Some x)
some_of None h = absurd (false≢true h)
some_of (Some x) h = (x, refl)

pub known_item : (t : FileTree) (id : ℕ) (node : Node) → item t id ≡ Some node → IsKnown t id
known_item t id node is = by (get t.nodes id) is
  where
    by : (o : Option FileEntry) → option_map (λ e. e.item) o ≡ Some node → is_some o ≡ true
    by None e = absurd (none≢some node e)
    by (Some x) e = refl

-- ---- numbers in a list

any_In : (n : ℕ) (ns : List ℕ) → IsIn n ns → In n ns
any_In n ns i = let f = find_any (eqb n) ns i in subst (λ v. In v ns) (sym (eqb-true n f.0 f.2)) f.1

In_any : (n : ℕ) (ns : List ℕ) → In n ns → IsIn n ns
In_any n [] i = absurd i
In_any n (k ∷ ns) i = elim i [
  | inl e ↦ subst (λ v. IsIn v (k ∷ ns)) e (in_here k ns)
  | inr j ↦ in_later n k ns (In_any n ns j)
]

once_numbers : (ns : List ℕ) → IsDistinct eqb ns → NoneTwice ns
once_numbers [] once = tt
once_numbers (n ∷ ns) once = (λ i. none_twice n ns once (In_any n ns i), once_numbers ns (later_distinct n ns once))

two_maps : {A B C : Type 0} (f : A → B) (g : B → C) (xs : List A) → map g (map f xs) ≡ map (λ x. g (f x)) xs
two_maps f g [] = refl
two_maps f g (x ∷ xs) = ap (λ l. g (f x) ∷ l) (two_maps f g xs)

pub all_known : (t : FileTree) (ns : List ℕ) → ((n : ℕ) → IsIn n ns → IsKnown t n) → AreKnown t ns
all_known t [] known = tt
all_known t (n ∷ ns) known = (known n (in_here n ns), all_known t ns (λ q i. known q (in_later q n ns i)))

-- ---- what stands at a number

module _ (t : FileTree) (n : ℕ) (known : IsKnown t n) where
  stored_there : (e : FileEntry) × (get t.nodes n ≡ Some e)
  stored_there = some_of (get t.nodes n) known

  -- the path of a number ends in its key
  ends : (place : Option (ℕ × Segment)) → parent_and_key t n ≡ place → (steps : ℕ) → 0 < steps
      → unwrap_or (last_or None (node_path t.nodes steps n)) [] ≡ option_map_or (λ q. q.1) place []
  ends place is zero some = absurd (omega (arith, some))
  ends place is (suc steps) some =
      let e = stored_there in
      let up : e.0.parent_and_key ≡ place = sym (ap parent_and_key_of e.1) ∙ is in
      let g : Option (ℕ × Segment) → Path = λ o. option_map_or (λ (place : ℕ × Segment). node_path t.nodes steps place.0 ++ (place.1 ∷ [])) o [] in
      let path : node_path t.nodes (suc steps) n ≡ g place = ap (λ (o : Option FileEntry). g (option_and_then (λ n. n.parent_and_key) o)) e.1 ∙ ap g up in
      ap (λ (p : Path). unwrap_or (last_or None p) []) path ∙ by place
    where
      by : (place : Option (ℕ × Segment))
          → unwrap_or (last_or None (option_map_or (λ (place : ℕ × Segment). node_path t.nodes steps place.0 ++ (place.1 ∷ [])) place [])) [] ≡ option_map_or (λ q. q.1) place []
      by None = refl
      by (Some place) = ap (λ (o : Option Segment). unwrap_or o []) (last_is None (node_path t.nodes steps place.0) place.1)

  pub name_of : (place : Option (ℕ × Segment)) → parent_and_key t n ≡ place → unwrap_or (last_or None (node_path t.nodes (len t.nodes) n)) [] ≡ option_map_or (λ q. q.1) place []
  name_of place is = ends place is (len t.nodes) (not_empty nat_cmp_total t.nodes n stored_there.0 stored_there.1)

module _ (t : FileTree) (m : ResourceMap) (rep : Represents t m) where
  here_with : (n : ℕ) (e : FileEntry) → get t.nodes n ≡ Some e → at_path m (stored_at t n).path ≡ Some (stored_at t n).resource
  here_with n e stored =
      let same : (stored_at t n).resource.node ≡ e.item = ap (λ (o : Option FileEntry). unwrap_or (option_map (λ e. e.item) o) (new_folder 0)) stored in
      entry_is t m rep (n, e) stored ∙ ap (λ (node : Node). Some (record { number = n; node = node })) (sym same)

  -- it is an entry of the map
  stands_here : (n : ℕ) → IsKnown t n → at_path m (stored_at t n).path ≡ Some (stored_at t n).resource
  stands_here n known = let e = stored_there t n known in here_with n e.0 e.1

  -- and each entry is what stands at its number
  entry_stored : (p : Path) (r : Resource) → at_path m p ≡ Some r → stored_entry (stored_at t r.number) ≡ (p, r)
  entry_stored p r here =
      let s = rep.shown p r here in
      let there = here_with r.number s.placed s.stored in
      let path : (stored_at t r.number).path ≡ p = rep.is_map.apart (stored_at t r.number).path p (stored_at t r.number).resource r there here refl in
      let resource : (stored_at t r.number).resource ≡ r = same_some (stored_at t r.number).resource r (sym there ∙ ap (at_path m) path ∙ here) in
      λ i. (path i, resource i)

  entry_known : (p : Path) (r : Resource) → at_path m p ≡ Some r → IsKnown t r.number
  entry_known p r here = ap is_some (rep.shown p r here).stored

  folder_stored : (n : ℕ) → IsKnown t n → StandsIn m (stored_at t n).path (parent_number t n)
  folder_stored n known =
      let e = stored_there t n known in
      let (p, here, fits) = entry_of_node t m rep n e.0 e.1 in
      let path : (stored_at t n).path ≡ p = rep.is_map.apart (stored_at t n).path p (stored_at t n).resource _ (stands_here n known) here refl in
      let up : parent_number t n ≡ option_map (λ q. q.0) e.0.parent_and_key = ap (λ (o : Option FileEntry). option_map (λ q. q.0) (parent_and_key_of o)) e.1 in
      subst (λ q. StandsIn m q (parent_number t n)) (sym path) (subst (StandsIn m p) (sym up) (place_in m p e.0.parent_and_key fits))

  module _ (ns : List ℕ) (w : IsTreeWalk t ns) where
    abbrev entry_at : ℕ → Path × Resource
    entry_at n = stored_entry (stored_at t n)

    permuted : IsPermutation (entries m.entries) (map (λ n. stored_entry (stored_at t n)) ns)
    permuted =
        permutes (map entry_at ns) (entries m.entries) (entries_once path_total m.entries)
        (NoneTwice-map entry_at (λ x y e. ap (λ (q : Path × Resource). q.1.number) e) ns (once_numbers ns w.once))
        (λ q i.
        let here = In-entries path_total m.entries q i in
        subst (λ v. In v (map entry_at ns)) (entry_stored q.0 q.1 here)
        (In-map entry_at ns q.1.number (any_In q.1.number ns ((w.members q.1.number).1 (entry_known q.0 q.1 here)))))
        (λ q i.
        let n = map-In entry_at ns q i in
        subst (λ v. In v (entries m.entries)) n.2
        (entries-In path_total path_exact m.entries _ _ (stands_here n.0 ((w.members n.0).0 (In_any n.0 ns n.1)))))

    behind_here : (a b : List ℕ) (x : ℕ) → ns ≡ a ++ x ∷ b → StandsBehind (map (stored_at t) a) (stored_at t x).path (parent_number t x)
    behind_here a b x split = by (parent_number t x) refl
      where
        known : IsKnown t x
        known = (w.members x).0 (subst (IsIn x) (sym split) (In_any x (a ++ x ∷ b) (In-there a x b)))

        by : (o : Option ℕ) → parent_number t x ≡ o → StandsBehind (map (stored_at t) a) (stored_at t x).path o
        by None e = subst (StandsIn m (stored_at t x).path) e (folder_stored x known)
        by (Some k) e =
            let s = subst (StandsIn m (stored_at t x).path) e (folder_stored x known) in
            let before : In k a = any_In k a (w.behind a b x k split e) in
            let path : (stored_at t k).path ≡ s.0 = ap (λ v. (stored_at t v).path) (sym s.5) ∙ ap (λ (q : Path × Resource). q.0) (entry_stored s.0 s.2 s.4) in
            (stored_at t k, s.1, Contains-In (map (stored_at t) a) (stored_at t k) (In-map (stored_at t) a k before), refl, s.3 ∙ ap (λ q. q ++ s.1 ∷ []) (sym path))

    pub walks : IsMapWalk m (map (stored_at t) ns)
    walks = record {
      all = subst (IsPermutation (entries m.entries)) (sym (two_maps (stored_at t) stored_entry ns)) permuted;
      behind = λ front rest s e.
          let r = map_front (stored_at t) ns front s rest e in
          subst (λ f. StandsBehind f s.path s.folder) (sym r.4) (subst (λ v. StandsBehind (map (stored_at t) r.0) v.path v.folder) (sym r.5) (behind_here r.0 r.2 r.1 r.3));
    }
