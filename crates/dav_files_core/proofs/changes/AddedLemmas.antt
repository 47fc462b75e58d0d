-- A node added to the tree is an entry added to the map.
use Rattle.std.proofs.Common.{◌≡◌, ◌⊎◌, inl, inr, ℕ, ◌+◌, ◌<◌, ◌≤◌, [], ◌∷◌, ◌++◌, Option, Some, None, refl, sym, ap, ◌∙◌, subst, arith}
use Rattle.std.specs.Cmp.{nat_cmp_total}
use Rattle.std.specs.FinMap.{get, nat_cmp-IsAntisymmetric}
use Rattle.dav_files_core.specs.declared.memfs.Kind.TheVariants.{Folder}
use Rattle.dav_files_core.specs.Outcomes.{with_new_entry, added_as}
use Rattle.dav_files_core.specs.Private.FileRepresents.{FileEntry, FileTree, PlaceFits, ShowsNode, Represents}
use Rattle.dav_files_core.specs.Resources.{Node, Resource, ResourceMap, at_path, IsResourceMap}
use Rattle.dav_path_core.specs.Fronts.{Segment, Path}
use Rattle.dav_path_core.specs.Keyed.{add, add_as}
use Rattle.dav_path_core.proofs.lists.Orders.{path_total, path_exact}
use Rattle.dav_path_core.proofs.lists.FinMaps.{none_some, get_same, get_other, inserted}
use Rattle.dav_path_core.proofs.lists.Snoc.{snoc_front}

-- each entry of the first map has its number at the same path of the second
abbrev pub KeepsNumbers : ResourceMap → ResourceMap → Type 0
KeepsNumbers m m' = (p : Path) (r : Resource) → at_path m p ≡ Some r → (r' : Resource) × (at_path m' p ≡ Some r') × (r'.number ≡ r.number)

module _ where
  pub fits_kept : (m m' : ResourceMap) → KeepsNumbers m m' → (p : Path) (place : Option (ℕ × Segment)) → PlaceFits m p place → PlaceFits m' p place
  fits_kept m m' kept p None fits = fits
  fits_kept m m' kept p (Some place) fits = let k = kept fits.0 fits.1 fits.3 in (fits.0, k.0, fits.2, k.1, k.2 ∙ fits.4)

-- a map with an entry more is a map
module _ (m : ResourceMap) (is_map : IsResourceMap m) (p : Path) (s : Segment) (r : Resource) (new : Node) (number next : ℕ)
    (unused : (q : Path) (x : Resource) → at_path m q ≡ Some x → ¬ (x.number ≡ number)) (positive : 0 < number) (small : number < next) (grows : m.next ≤ next)
    (here : at_path m p ≡ Some r) (folder : r.node.kind ≡ Folder) (free : at_path m (p ++ (s ∷ [])) ≡ None) (new_bare : new.kind ≡ Folder → new.bytes ≡ []) where
  abbrev place : Path
  place = p ++ (s ∷ [])

  abbrev entry : Resource
  entry = record { number = number; node = new }

  abbrev m' : ResourceMap
  m' = added_as m place new number next

  pub added_as_kept : (q : Path) (x : Resource) → at_path m q ≡ Some x → at_path m' q ≡ Some x
  added_as_kept q x h = get_other path_total path_exact m.entries place entry q (λ e. none_some _ x (ap (at_path m) e ∙ free) h) ∙ h

  pub added_as_cases : (q : Path) (x : Resource) → at_path m' q ≡ Some x → ((q ≡ place) × (x ≡ entry)) ⊎ (¬ (q ≡ place) × (at_path m q ≡ Some x))
  added_as_cases q x h = inserted path_total path_exact m.entries place entry q x h

  pub IsResourceMap-added_as : IsResourceMap m'
  IsResourceMap-added_as = record {
    root = let root = is_map.root in (root.0, added_as_kept [] root.0 root.1, root.2, root.3);
    parents = λ q s' c h. elim (added_as_cases (q ++ (s' ∷ [])) c h) [
      | inl new ↦ (r, added_as_kept q r (ap (at_path m) (snoc_front q p s' s new.0) ∙ here), folder)
      | inr old ↦ let above = is_map.parents q s' c old.1 in (above.0, added_as_kept q above.0 above.1, above.2)
    ];
    apart = λ q q' x x' h h' e. elim (added_as_cases q x h) [
      | inl new ↦ elim (added_as_cases q' x' h') [
        | inl new' ↦ new.0 ∙ sym new'.0
        | inr old' ↦ absurd (unused q' x' old'.1 (sym e ∙ ap (λ (x : Resource). x.number) new.1))
      ]
      | inr old ↦ elim (added_as_cases q' x' h') [
        | inl new' ↦ absurd (unused q x old.1 (e ∙ ap (λ (x : Resource). x.number) new'.1))
        | inr old' ↦ is_map.apart q q' x x' old.1 old'.1 e
      ]
    ];
    positive = λ q x h. elim (added_as_cases q x h) [
      | inl new ↦ subst (λ n. 0 < n) (sym (ap (λ (x : Resource). x.number) new.1)) positive
      | inr old ↦ is_map.positive q x old.1
    ];
    below = λ q x h. elim (added_as_cases q x h) [
      | inl new ↦ subst (λ n. n < next) (sym (ap (λ (x : Resource). x.number) new.1)) small
      | inr old ↦ let lt = is_map.below q x old.1 in omega (arith, lt, grows)
    ];
    bare = λ q x h. elim (added_as_cases q x h) [
      | inl new ↦ subst (λ (x : Resource). x.node.kind ≡ Folder → x.node.bytes ≡ []) (sym new.1) new_bare
      | inr old ↦ is_map.bare q x old.1
    ];
  }

-- the next number is above 0
next_positive : (m : ResourceMap) → IsResourceMap m → 0 < m.next
next_positive m is_map = let root = is_map.root in let lt = is_map.below [] root.0 root.1 in omega (arith, lt)

-- the same of an entry that takes the next number
module _ (m : ResourceMap) (is_map : IsResourceMap m) (p : Path) (s : Segment) (r : Resource) (new : Node)
    (here : at_path m p ≡ Some r) (folder : r.node.kind ≡ Folder) (free : at_path m (p ++ (s ∷ [])) ≡ None) (new_bare : new.kind ≡ Folder → new.bytes ≡ []) where
  below_next : (q : Path) (x : Resource) → at_path m q ≡ Some x → ¬ (x.number ≡ m.next)
  below_next q x h e = let lt = is_map.below q x h in absurd (omega (arith, lt, e))

  pub IsResourceMap-added : IsResourceMap (with_new_entry m (p ++ (s ∷ [])) new)
  IsResourceMap-added = IsResourceMap-added_as m is_map p s r new m.next (m.next + 1) below_next (next_positive m is_map) (omega arith) (omega arith) here folder free new_bare

-- adding a child is adding an entry
module _ (t : FileTree) (m : ResourceMap) (rep : Represents t m)
    (p : Path) (r : Resource) (k : Segment) (item : Node) (number next : ℕ) (unused : get t.nodes number ≡ None) (positive : 0 < number) (small : number < next) (grows : m.next ≤ next)
    (here : at_path m p ≡ Some r) (folder : r.node.kind ≡ Folder) (free : at_path m (p ++ (k ∷ [])) ≡ None) (new_bare : item.kind ≡ Folder → item.bytes ≡ []) where
  abbrev path : Path
  path = p ++ (k ∷ [])

  abbrev map : ResourceMap
  map = added_as m path item number next

  abbrev tree : FileTree
  tree = add_as t number next r.number k item

  abbrev placed : FileEntry
  placed = record { parent_and_key = Some (r.number, k); item = item }

  not_number : (q : Path) (x : Resource) → at_path m q ≡ Some x → ¬ (x.number ≡ number)
  not_number q x h e = let shown = rep.shown q x h in none_some (get t.nodes number) shown.placed unused (ap (get t.nodes) (sym e) ∙ shown.stored)

  kept : (q : Path) (x : Resource) → at_path m q ≡ Some x → at_path map q ≡ Some x
  kept = added_as_kept m rep.is_map p k r item number next not_number positive small grows here folder free new_bare

  keeps : KeepsNumbers m map
  keeps q x h = (x, kept q x h, refl)

  old_shown : (q : Path) (x : Resource) → at_path m q ≡ Some x → ShowsNode t m q x → ShowsNode tree map q x
  old_shown q x h shown = record {
    placed = shown.placed;
    stored = get_other nat_cmp_total nat_cmp-IsAntisymmetric t.nodes number placed x.number (not_number q x h) ∙ shown.stored;
    shown = shown.shown;
    fits = fits_kept m map keeps q shown.placed.parent_and_key shown.fits;
  }

  new_shown : ShowsNode tree map path (record { number = number; node = item })
  new_shown = record {
    placed = placed;
    stored = get_same nat_cmp_total nat_cmp-IsAntisymmetric t.nodes number placed;
    shown = refl;
    fits = (p, r, refl, kept p r here, refl);
  }

  pub Represents-added_as : Represents tree map
  Represents-added_as = record {
    is_map = IsResourceMap-added_as m rep.is_map p k r item number next not_number positive small grows here folder free new_bare;
    next = refl;
    shown = λ q x h. elim (added_as_cases m rep.is_map p k r item number next not_number positive small grows here folder free new_bare q x h) [
      | inl new ↦ let f : (q : Path) (x : Resource) → path ≡ q → record { number = number; node = item } ≡ x → ShowsNode tree map q x = λ q x e e'. subst (λ (x : Resource). ShowsNode tree map q x) e' (subst (λ q. ShowsNode tree map q (record { number = number; node = item })) e new_shown) in f q x (sym new.0) (sym new.1)
      | inr old ↦ old_shown q x old.1 (rep.shown q x old.1)
    ];
    all = λ id n h. elim (inserted nat_cmp_total nat_cmp-IsAntisymmetric t.nodes number placed id n h) [
      | inl new ↦ (path, record { number = number; node = item }, get_same path_total path_exact m.entries path (record { number = number; node = item }), sym new.0)
      | inr old ↦ let e = rep.all id n old.1 in (e.0, e.1, kept e.0 e.1 e.2, e.3)
    ];
  }

-- the next number is free in the tree
next_unused : (t : FileTree) (m : ResourceMap) → Represents t m → get t.nodes t.next ≡ None
next_unused t m rep = by (get t.nodes t.next) refl
  where
    by : (o : Option FileEntry) → get t.nodes t.next ≡ o → o ≡ None
    by None e = refl
    by (Some n) e = let x = rep.all t.next n e in let lt = rep.is_map.below x.0 x.1 x.2 in let same = rep.next in let number = x.3 in absurd (omega (arith, lt, same, number))

module _ (t : FileTree) (m : ResourceMap) (rep : Represents t m)
    (p : Path) (r : Resource) (k : Segment) (item : Node)
    (here : at_path m p ≡ Some r) (folder : r.node.kind ≡ Folder) (free : at_path m (p ++ (k ∷ [])) ≡ None) (new_bare : item.kind ≡ Folder → item.bytes ≡ []) where
  pub Represents-added : Represents (add t r.number k item) (with_new_entry m (p ++ (k ∷ [])) item)
  Represents-added =
      let grows : m.next ≤ t.next + 1 = let same = rep.next in omega (arith, same) in
      subst (λ n. Represents (add t r.number k item) (added_as m (p ++ (k ∷ [])) item n (n + 1))) (sym rep.next)
      (Represents-added_as t m rep p r k item t.next (t.next + 1) (next_unused t m rep) (subst (λ n. 0 < n) rep.next (next_positive m rep.is_map)) (omega arith) grows here folder free new_bare)
