-- A leaf taken out of the tree is an entry less.
use Rattle.std.proofs.Common.{◌≡◌, ℕ, [], ◌∷◌, ◌++◌, Option, Some, None, sym, ap, ◌∙◌}
use Rattle.std.specs.Cmp.{nat_cmp_total}
use Rattle.std.specs.FinMap.{nat_cmp-IsAntisymmetric}
use Rattle.dav_path_core.specs.Fronts.{Segment, Path}
use Rattle.dav_path_core.specs.Keyed.{without_node}
use Rattle.dav_path_core.proofs.lists.FinMaps.{none_some, one_some, get_left, removed}
use Rattle.dav_path_core.proofs.lists.Orders.{path_total, path_exact}
use Rattle.dav_files_core.specs.Outcomes.{without}
use Rattle.dav_files_core.specs.Private.FileRepresents.{FileTree, PlaceFits, Represents}
use Rattle.dav_files_core.specs.Resources.{Resource, ResourceMap, at_path, IsResourceMap}

-- an entry other than the root, without members
module _ (m : ResourceMap) (is_map : IsResourceMap m) (p : Path) (r : Resource)
    (here : at_path m p ≡ Some r) (not_root : ¬ (p ≡ [])) (leaf : (s : Segment) → at_path m (p ++ (s ∷ [])) ≡ None) where
  abbrev m'' : ResourceMap
  m'' = without m p

  pub left : (q : Path) (x : Resource) → at_path m'' q ≡ Some x → ¬ (q ≡ p) × (at_path m q ≡ Some x)
  left q x h = removed path_total path_exact m.entries p q x h

  pub stays : (q : Path) (x : Resource) → ¬ (q ≡ p) → at_path m q ≡ Some x → at_path m'' q ≡ Some x
  stays q x other h = get_left path_total path_exact m.entries p q other ∙ h

  -- what is above an entry isn't the leaf
  pub above_stays : (q : Path) (s : Segment) (x y : Resource) → at_path m (q ++ (s ∷ [])) ≡ Some x → at_path m q ≡ Some y → at_path m'' q ≡ Some y
  above_stays q s x y below h = stays q y (λ e. none_some (at_path m (q ++ (s ∷ []))) x (ap (λ q. at_path m (q ++ (s ∷ []))) e ∙ leaf s) below) h

  pub IsResourceMap-without : IsResourceMap m''
  IsResourceMap-without = record {
    root = let root = is_map.root in (root.0, stays [] root.0 (λ e. not_root (sym e)) root.1, root.2, root.3);
    parents = λ q s c h. let old = left (q ++ (s ∷ [])) c h in let above = is_map.parents q s c old.1 in (above.0, above_stays q s c above.0 old.1 above.1, above.2);
    apart = λ q q' x x' h h' e. is_map.apart q q' x x' (left q x h).1 (left q' x' h').1 e;
    positive = λ q x h. is_map.positive q x (left q x h).1;
    below = λ q x h. is_map.below q x (left q x h).1;
    bare = λ q x h. is_map.bare q x (left q x h).1;
  }

module _ (t : FileTree) (m : ResourceMap) (rep : Represents t m)
    (p : Path) (r : Resource) (here : at_path m p ≡ Some r) (not_root : ¬ (p ≡ [])) (leaf : (s : Segment) → at_path m (p ++ (s ∷ [])) ≡ None) where
  abbrev map' : ResourceMap
  map' = without m p

  abbrev tree' : FileTree
  tree' = without_node t r.number

  left_fits : (q : Path) (x : Resource) (place : Option (ℕ × Segment)) → at_path m q ≡ Some x → PlaceFits m q place → PlaceFits map' q place
  left_fits q x None h fits = fits
  left_fits q x (Some place) h fits =
      (fits.0, fits.1, fits.2, above_stays m rep.is_map p r here not_root leaf fits.0 (place.1) x fits.1 (ap (at_path m) (sym fits.2) ∙ h) fits.3, fits.4)

  pub Represents-without : Represents tree' map'
  Represents-without = record {
    is_map = IsResourceMap-without m rep.is_map p r here not_root leaf;
    next = rep.next;
    shown = λ q x h.
        let old = left m rep.is_map p r here not_root leaf q x h in
        let s = rep.shown q x old.1 in
        record {
          placed = s.placed;
          stored = get_left nat_cmp_total nat_cmp-IsAntisymmetric t.nodes r.number x.number (λ e. old.0 (rep.is_map.apart q p x r old.1 here e)) ∙ s.stored;
          shown = s.shown;
          fits = left_fits q x s.placed.parent_and_key old.1 s.fits;
        };
    all = λ id n h.
        let old = removed nat_cmp_total nat_cmp-IsAntisymmetric t.nodes r.number id n h in
        let e = rep.all id n old.1 in
        (e.0, e.1, stays m rep.is_map p r here not_root leaf e.0 e.1 (λ same. old.0 (sym e.3 ∙ ap (λ (x : Resource). x.number) (one_some (at_path m p) e.1 r (ap (at_path m) (sym same) ∙ e.2) here))) e.2, e.3);
  }
