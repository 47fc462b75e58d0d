-- The map that is computed from a tree is the one that the tree represents.
use Rattle.std.proofs.Common.{◌≡◌, inl, inr, ℕ, zero, suc, ◌+◌, ◌<◌, ◌≤◌, cond, List, [], ◌∷◌, ◌++◌, length, map, Option, Some, None, refl, sym, ap, ◌∙◌, arith, length-append, append_assoc, append-nil}
use Rattle.std.specs.Prelude.{option_and_then}
use Rattle.std.specs.Option.{option_map_or}
use Rattle.std.specs.Ordering.{nat_cmp, eq_by_cmp}
use Rattle.std.specs.Cmp.{nat_cmp_total}
use Rattle.std.specs.FinMap.{FinMap, nat_cmp-IsAntisymmetric, entries, get, remove, find, get-entries, get-from_entries, from_entries, len, same_map}
use Rattle.dav_files_core.specs.Private.FileRepresents.{FileEntry, FileTree, PlaceFits, ShowsNode, Represents, node_path, node_entry, resource_map}
use Rattle.dav_files_core.specs.Resources.{Resource, ResourceMap, at_path}
use Rattle.dav_path_core.specs.Fronts.{Segment, Path, path_cmp}
use Rattle.dav_path_core.proofs.lists.Orders.{path_total, path_exact, eq_by_cmp_same}
use Rattle.dav_path_core.proofs.lists.FinMaps.{none_some, dec, test_false, get_left}
use Rattle.dav_path_core.proofs.lists.Snoc.{by_last}
use Rattle.dav_files_core.proofs.walks.WalkLemmas.{entry_of_node}
use Rattle.dav_path_core.proofs.lists.Every.{Every, Every-map, get_each, not_empty, one_fewer}

no_segments : (p : Path) → length p ≤ 0 → p ≡ []
no_segments [] h = refl
no_segments (s ∷ p) h = absurd (omega arith)

module _ (t : FileTree) (m : ResourceMap) (rep : Represents t m) where
  path_at : (steps : ℕ) (p : Path) (r : Resource) → at_path m p ≡ Some r → length p ≤ steps → node_path t.nodes steps r.number ≡ p
  path_at zero p r h short = sym (no_segments p short)
  path_at (suc steps) p r h short = by shown.placed.parent_and_key refl shown.fits (path_at steps)
    where
      shown : ShowsNode t m p r
      shown = rep.shown p r h

      look : (o : Option (ℕ × Segment)) → shown.placed.parent_and_key ≡ o
          → node_path t.nodes (suc steps) r.number ≡ option_map_or (λ (place : ℕ × Segment). node_path t.nodes steps place.0 ++ (place.1 ∷ [])) o []
      look o e = ap (λ (n : Option (FileEntry)). option_map_or (λ (place : ℕ × Segment). node_path t.nodes steps place.0 ++ (place.1 ∷ [])) (option_and_then (λ (n : FileEntry). n.parent_and_key) n) []) shown.stored
          ∙ ap (λ (o : Option (ℕ × Segment)). option_map_or (λ (place : ℕ × Segment). node_path t.nodes steps place.0 ++ (place.1 ∷ [])) o []) e

      by : (o : Option (ℕ × Segment)) → shown.placed.parent_and_key ≡ o → PlaceFits m p o
          → ((q : Path) (x : Resource) → at_path m q ≡ Some x → length q ≤ steps → node_path t.nodes steps x.number ≡ q)
          → node_path t.nodes (suc steps) r.number ≡ p
      by None e fits ih = look None e ∙ sym fits
      by (Some place) e fits ih =
          let shorter : length fits.0 ≤ steps = let long = ap (λ (p : Path). length p) fits.2 ∙ length-append fits.0 (place.1 ∷ []) in omega arith in
          let above : node_path t.nodes steps place.0 ≡ fits.0 = ap (node_path t.nodes steps) (sym fits.4) ∙ ih fits.0 fits.1 fits.3 shorter in
          look (Some place) e ∙ ap (λ (q : Path). q ++ (place.1 ∷ [])) above ∙ sym fits.2

  -- a path is no longer than the map has nodes
  room : (n : ℕ) (p : Path) (r : Resource) (nodes : FinMap nat_cmp (FileEntry)) → at_path m p ≡ Some r → length p ≡ n
      → ((q s : Path) (x : Resource) → p ≡ q ++ s → at_path m q ≡ Some x → (v : FileEntry) × (get nodes x.number ≡ Some v)) → n < len nodes
  room zero p r nodes h e all =
      let here = all p [] r (sym (append-nil p)) h in not_empty nat_cmp_total nodes r.number here.0 here.1
  room (suc n) p r nodes h e all = elim (by_last p) [
    | inl empty ↦ let zero_length : length p ≡ 0 = ap (λ (p : Path). length p) empty in absurd (omega arith)
    | inr last ↦
        let here = all p [] r (sym (append-nil p)) h in
        let above = rep.is_map.parents last.0 last.1 r (ap (at_path m) (sym last.2) ∙ h) in
        let shorter : length last.0 ≡ n = let long = ap (λ (p : Path). length p) last.2 ∙ length-append last.0 (last.1 ∷ []) in omega arith in
        let rest : n < len (remove nodes r.number) = room n last.0 above.0 (remove nodes r.number) above.1 shorter (λ q s x split at_q.
        let old = all q (s ++ (last.1 ∷ [])) x (last.2 ∙ ap (λ t. t ++ (last.1 ∷ [])) split ∙ append_assoc q s (last.1 ∷ [])) at_q in (
          old.0,
          get_left nat_cmp_total nat_cmp-IsAntisymmetric nodes r.number x.number (λ same.
              let eq = rep.is_map.apart q p x r at_q h same in
              let l1 : length q ≡ length p = ap (λ (p : Path). length p) eq in
              let l2 : length last.0 ≡ length q + length s = ap (λ (p : Path). length p) split ∙ length-append q s in
              absurd (omega arith)) ∙ old.1,
        )) in
        let fewer = one_fewer nat_cmp_total nodes r.number here.0 here.1 in
        omega arith
  ]

  enough : (p : Path) (r : Resource) → at_path m p ≡ Some r → length p ≤ len t.nodes
  enough p r h =
      let lt : length p < len t.nodes = room (length p) p r t.nodes h refl (λ q s x split at_q. let s = rep.shown q x at_q in (s.placed, s.stored)) in omega arith

  -- each node's entry in the list is an entry of the map
  pub entry_is : (e : ℕ × FileEntry) → get t.nodes e.0 ≡ Some e.1 → at_path m (node_entry t e).0 ≡ Some (node_entry t e).1
  entry_is e stored =
      let (p, here, fits) = entry_of_node t m rep e.0 e.1 stored in
      ap (at_path m) (path_at (len t.nodes) p (record { number = e.0; node = e.1.item }) here (enough p _ here)) ∙ here

  Good : ℕ × FileEntry → Type 0
  Good e = at_path m (node_entry t e).0 ≡ Some (node_entry t e).1

  good : Every Good (entries t.nodes)
  unfolding Good
  good = Every-map entry_is (entries t.nodes) (get_each nat_cmp_total t.nodes)

  listed : (es : List (ℕ × FileEntry)) → Every Good es → (q : Path) (r : Resource) (n : FileEntry) → at_path m q ≡ Some r → find nat_cmp r.number es ≡ Some n
      → find path_cmp q (map (node_entry t) es) ≡ Some r
  unfolding Good
  listed [] good q r n here h = absurd (cc)
  listed (e ∷ es) good q r n here h = elim (dec path_total path_exact q (node_entry t e).0) [
    | inl same ↦
        ap (λ b. cond b (Some (node_entry t e).1) (find path_cmp q (map (node_entry t) es))) (ap (eq_by_cmp path_cmp q) (sym same) ∙ eq_by_cmp_same path_total q)
        ∙ sym good.0 ∙ ap (at_path m) (sym same) ∙ here
    | inr other ↦
        ap (λ b. cond b (Some (node_entry t e).1) (find path_cmp q (map (node_entry t) es))) (test_false path_total path_exact q (node_entry t e).0 other)
        ∙ listed es good.1 q r n here (sym (ap (λ b. cond b (Some e.1) (find nat_cmp r.number es)) (test_false nat_cmp_total nat_cmp-IsAntisymmetric r.number e.0
        (λ same. other (rep.is_map.apart q (node_entry t e).0 r (node_entry t e).1 here good.0 same)))) ∙ h)
  ]

  real : (es : List (ℕ × FileEntry)) → Every Good es → (q : Path) (r : Resource) → find path_cmp q (map (node_entry t) es) ≡ Some r → at_path m q ≡ Some r
  unfolding Good
  real [] good q r h = absurd (cc)
  real (e ∷ es) good q r h = elim (dec path_total path_exact q (node_entry t e).0) [
    | inl same ↦
        ap (at_path m) same ∙ good.0
        ∙ sym (ap (λ b. cond b (Some (node_entry t e).1) (find path_cmp q (map (node_entry t) es))) (ap (eq_by_cmp path_cmp q) (sym same) ∙ eq_by_cmp_same path_total q)) ∙ h
    | inr other ↦
        real es good.1 q r (sym (ap (λ b. cond b (Some (node_entry t e).1) (find path_cmp q (map (node_entry t) es))) (test_false path_total path_exact q (node_entry t e).0 other)) ∙ h)
  ]

  same_look : (q : Path) → find path_cmp q (map (node_entry t) (entries t.nodes)) ≡ at_path m q
  same_look q = by (at_path m q) (find path_cmp q (map (node_entry t) (entries t.nodes))) refl refl
    where
      by : (o u : Option Resource) → at_path m q ≡ o → find path_cmp q (map (node_entry t) (entries t.nodes)) ≡ u → u ≡ o
      by None None e h = refl
      by None (Some x) e h = none_some (at_path m q) x e (real (entries t.nodes) good q x h)
      by (Some r) u e h =
          let s = rep.shown q r e in sym h ∙ listed (entries t.nodes) good q r s.placed e (sym (get-entries t.nodes r.number) ∙ s.stored)

  -- so a tree represents one map
  pub recovers : resource_map t ≡ m
  recovers =
      let same = same_map path_total path_exact (from_entries (map (node_entry t) (entries t.nodes))) m.entries
      (λ q. get-from_entries path_total (map (node_entry t) (entries t.nodes)) q ∙ same_look q) in
      λ i. record { entries = same i; next = sym rep.next i }
