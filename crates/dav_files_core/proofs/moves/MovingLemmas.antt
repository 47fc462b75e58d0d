-- A node moved in the tree is a subtree moved in the map.
use Rattle.std.proofs.Common.{◌≡◌, inl, inr, ℕ, [], ◌∷◌, ◌++◌, Option, Some, None, refl, sym, ap, ◌∙◌, subst, append_assoc, append-nil}
use Rattle.std.specs.Prelude.{option_and_then}
use Rattle.std.specs.Cmp.{nat_cmp_total}
use Rattle.std.specs.FinMap.{get, nat_cmp-IsAntisymmetric}
use Rattle.dav_path_core.specs.Fronts.{Segment, Path, behind}
use Rattle.dav_path_core.specs.Keyed.{placed_at}
use Rattle.dav_path_core.proofs.lists.FinMaps.{none_some, one_some, get_same, get_other, inserted, dec}
use Rattle.dav_path_core.proofs.lists.Orders.{path_total, path_exact}
use Rattle.dav_path_core.proofs.lists.Snoc.{snoc_not_empty, snoc_front}
use Rattle.dav_files_core.specs.declared.memfs.Kind.TheVariants.{Folder}
use Rattle.dav_files_core.specs.Moved.{path_after, moved_map}
use Rattle.dav_files_core.specs.Private.FileRepresents.{FileEntry, FileTree, PlaceFits, ShowsNode, Represents}
use Rattle.dav_files_core.specs.Resources.{Resource, ResourceMap, at_path, IsResourceMap}
use Rattle.dav_path_core.proofs.paths.FrontLemmas.{behind_is, behind_none, none_behind}
use Rattle.dav_files_core.proofs.paths.FrontLemmas.{after_from, after_other, after_back, after_snoc}
use Rattle.dav_files_core.proofs.moves.MovedLemmas.{get-moved}

some_then : {A B : Type 0} (o : Option A) (f : A → Option B) (y : B) → option_and_then f o ≡ Some y → (x : A) × (o ≡ Some x) × (f x ≡ Some y)
some_then None f y h = absurd (cc)
some_then (Some x) f y h = (x, refl, h)

-- a path with an entry has one at each of its fronts
pub front_there : (m : ResourceMap) → IsResourceMap m → (p s : Path) (r : Resource) → at_path m (p ++ s) ≡ Some r → (q : Resource) × (at_path m p ≡ Some q)
front_there m is_map p [] r h = (r, ap (at_path m) (sym (append-nil p)) ∙ h)
front_there m is_map p (x ∷ s) r h =
    let next = front_there m is_map (p ++ (x ∷ [])) s r (ap (at_path m) (append_assoc p (x ∷ []) s) ∙ h) in
    let above = is_map.parents p x next.0 next.1 in (above.0, above.1)

-- the source is an entry other than the root, and the target a free place in a folder, not below the source
module _ (m : ResourceMap) (is_map : IsResourceMap m) (from : Path) (r : Resource) (p : Path) (q : Resource) (name : Segment)
    (source : at_path m from ≡ Some r) (not_root : ¬ (from ≡ [])) (folder : at_path m p ≡ Some q) (is_folder : q.node.kind ≡ Folder)
    (free : at_path m (p ++ (name ∷ [])) ≡ None) (not_below : behind from (p ++ (name ∷ [])) ≡ None) where
  abbrev to : Path
  to = p ++ (name ∷ [])

  abbrev m' : ResourceMap
  m' = moved_map m from to

  -- nothing is at or below the target
  none_below : (s : Path) (x : Resource) → ¬ (at_path m (to ++ s) ≡ Some x)
  none_below s x h = let there = front_there m is_map to s x h in none_some (at_path m to) there.0 free there.1

  pub came : (a : Path) (x : Resource) → at_path m' a ≡ Some x → (b : Path) × (path_after to from a ≡ Some b) × (at_path m b ≡ Some x)
  came a x h = some_then (path_after to from a) (at_path m) x (sym (get-moved m from to a) ∙ h)

  pub went : (b a : Path) (x : Resource) → at_path m b ≡ Some x → path_after from to b ≡ Some a → at_path m' a ≡ Some x
  went b a x h e = get-moved m from to a ∙ ap (option_and_then (at_path m)) (after_back from to b a e) ∙ h

  pub goes : (b : Path) (x : Resource) → at_path m b ≡ Some x → (a : Path) × (path_after from to b ≡ Some a)
  goes b x h = by (behind from b) refl
    where
      by : (o : Option Path) → behind from b ≡ o → (a : Path) × (path_after from to b ≡ Some a)
      by (Some s) e = (to ++ s, ap (path_after from to) (behind_is from b s e) ∙ after_from from to s)
      by None e = (b, after_other from to b e (behind_none to b (λ s split. none_below s x (ap (at_path m) (sym split) ∙ h))))

  pub folder_stays : path_after from to p ≡ Some p
  folder_stays = after_other from to p
      (behind_none from p (λ s e. none_behind from to not_below (s ++ (name ∷ [])) (ap (λ t. t ++ (name ∷ [])) e ∙ append_assoc from s (name ∷ []))))
      (behind_none to p (λ s e. none_below s q (ap (at_path m) (sym e) ∙ folder)))

  pub root_stays : path_after from to [] ≡ Some []
  root_stays = after_other from to [] (behind_none from [] (λ s e. nothing from s e)) (behind_none to [] (λ s e. snoc_not_empty p name (empty_front to s e)))
    where
      empty_front : (a s : Path) → [] ≡ a ++ s → a ≡ []
      empty_front [] s e = refl
      empty_front (x ∷ a) s e = absurd (cc)

      nothing : (a s : Path) → ¬ ([] ≡ from ++ s)
      nothing a s e = not_root (empty_front from s e)

  pub source_goes : path_after from to from ≡ Some to
  source_goes = ap (path_after from to) (sym (append-nil from)) ∙ after_from from to [] ∙ ap Some (append-nil to)

  -- an entry that is not at the target: its parent came along
  pub parent_came : (a : Path) (s : Segment) (b : Path) → ¬ (a ++ (s ∷ []) ≡ to) → path_after to from (a ++ (s ∷ [])) ≡ Some b
      → (c : Path) × (path_after to from a ≡ Some c) × (b ≡ c ++ (s ∷ []))
  parent_came a s b = after_snoc to from a s b

  pub IsResourceMap-moved : IsResourceMap m'
  IsResourceMap-moved = record {
    root = let root = is_map.root in (root.0, went [] [] root.0 root.1 root_stays, root.2, root.3);
    parents = λ a s x h. elim (dec path_total path_exact (a ++ (s ∷ [])) to) [
      | inl target ↦ (q, went p a q folder (folder_stays ∙ ap Some (snoc_front p a name s (sym target))), is_folder)
      | inr other ↦
          let c = came (a ++ (s ∷ [])) x h in
          let above = parent_came a s c.0 other c.1 in
          let old = is_map.parents above.0 s x (ap (at_path m) (sym above.2) ∙ c.2) in
          (old.0, went above.0 a old.0 old.1 (after_back to from a above.0 above.1), old.2)
    ];
    apart = λ a a' x x' h h' e.
        let c = came a x h in
        let c' = came a' x' h' in
        let same = is_map.apart c.0 c'.0 x x' c.2 c'.2 e in
        one_some (path_after from to c'.0) a a' (ap (path_after from to) (sym same) ∙ after_back to from a c.0 c.1) (after_back to from a' c'.0 c'.1);
    positive = λ a x h. let c = came a x h in is_map.positive c.0 x c.2;
    below = λ a x h. let c = came a x h in is_map.below c.0 x c.2;
    bare = λ a x h. let c = came a x h in is_map.bare c.0 x c.2;
  }

module _ (t : FileTree) (m : ResourceMap) (rep : Represents t m)
    (from : Path) (r : Resource) (n : FileEntry) (p : Path) (q : Resource) (k : Segment)
    (source : at_path m from ≡ Some r) (not_root : ¬ (from ≡ [])) (stored : get t.nodes r.number ≡ Some n) (folder : at_path m p ≡ Some q) (is_folder : q.node.kind ≡ Folder)
    (free : at_path m (p ++ (k ∷ [])) ≡ None) (not_below : behind from (p ++ (k ∷ [])) ≡ None) where
  abbrev target : Path
  target = p ++ (k ∷ [])

  abbrev map : ResourceMap
  map = moved_map m from target

  abbrev tree : FileTree
  tree = placed_at t r.number q.number k (Some n)

  abbrev placed : FileEntry
  placed = record { parent_and_key = Some (q.number, k); item = n.item }

  stay : (b a : Path) (x : Resource) → at_path m b ≡ Some x → path_after from target b ≡ Some a → at_path map a ≡ Some x
  stay = went m rep.is_map from r p q k source not_root folder is_folder free not_below

  source_item : (s : ShowsNode t m from r) → n.item ≡ r.node
  source_item s = ap (λ (n : FileEntry). n.item) (one_some (get t.nodes r.number) n s.placed stored s.stored) ∙ s.shown

  new_shown : ShowsNode tree map target r
  new_shown = record {
    placed = placed;
    stored = get_same nat_cmp_total nat_cmp-IsAntisymmetric t.nodes r.number placed;
    shown = source_item (rep.shown from r source);
    fits = (p, q, refl, stay p p q folder (folder_stays m rep.is_map from r p q k source not_root folder is_folder free not_below), refl);
  }

  old_fits : (a b : Path) (place : Option (ℕ × Segment)) → ¬ (b ≡ from) → path_after from target b ≡ Some a → PlaceFits m b place → PlaceFits map a place
  old_fits a b None other goes fits = one_some (path_after from target b) a [] goes (ap (path_after from target) fits ∙ root_stays m rep.is_map from r p q k source not_root folder is_folder free not_below)
  old_fits a b (Some place) other goes fits =
      let above = after_snoc from target fits.0 (place.1) a (λ e. other (fits.2 ∙ e)) (ap (path_after from target) (sym fits.2) ∙ goes) in
      (above.0, fits.1, above.2, stay fits.0 above.0 fits.1 fits.3 above.1, fits.4)

  old_shown : (a b : Path) (x : Resource) → ¬ (b ≡ from) → path_after from target b ≡ Some a → at_path m b ≡ Some x → ShowsNode t m b x → ShowsNode tree map a x
  old_shown a b x other goes here shown = record {
    placed = shown.placed;
    stored = get_other nat_cmp_total nat_cmp-IsAntisymmetric t.nodes r.number placed x.number (λ e. other (rep.is_map.apart b from x r here source e)) ∙ shown.stored;
    shown = shown.shown;
    fits = old_fits a b shown.placed.parent_and_key other goes shown.fits;
  }

  all_shown : (a b : Path) (x : Resource) → path_after from target b ≡ Some a → at_path m b ≡ Some x → ShowsNode tree map a x
  all_shown a b x goes here = elim (dec path_total path_exact b from) [
    | inl same ↦
        let at_target : target ≡ a = one_some (path_after from target from) target a (source_goes m rep.is_map from r p q k source not_root folder is_folder free not_below) (ap (path_after from target) (sym same) ∙ goes) in
        let is_source : r ≡ x = one_some (at_path m from) r x source (ap (at_path m) (sym same) ∙ here) in
        subst (λ (x : Resource). ShowsNode tree map a x) is_source (subst (λ a. ShowsNode tree map a r) at_target new_shown)
    | inr other ↦ old_shown a b x other goes here (rep.shown b x here)
  ]

  pub Represents-moved : Represents tree map
  Represents-moved = record {
    is_map = IsResourceMap-moved m rep.is_map from r p q k source not_root folder is_folder free not_below;
    next = rep.next;
    shown = λ a x h.
        let c = came m rep.is_map from r p q k source not_root folder is_folder free not_below a x h in
        all_shown a c.0 x (after_back target from a c.0 c.1) c.2;
    all = λ id node_of h. elim (inserted nat_cmp_total nat_cmp-IsAntisymmetric t.nodes r.number placed id node_of h) [
      | inl new ↦ (target, r, stay from target r source (source_goes m rep.is_map from r p q k source not_root folder is_folder free not_below), sym new.0)
      | inr old ↦
          let e = rep.all id node_of old.1 in
          let a = goes m rep.is_map from r p q k source not_root folder is_folder free not_below e.0 e.1 e.2 in
          (a.0, e.1, stay e.0 a.0 e.1 e.2 a.1, e.3)
    ];
  }
