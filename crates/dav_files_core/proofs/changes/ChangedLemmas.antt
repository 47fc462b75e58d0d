-- Another item of a node is another node of an entry.
use Rattle.std.proofs.Common.{◌≡◌, ◌⊎◌, inl, inr, ◌<◌, [], ◌∷◌, ◌++◌, Some, refl, sym, ap, ◌∙◌, subst}
use Rattle.std.specs.Cmp.{nat_cmp_total}
use Rattle.std.specs.FinMap.{get, nat_cmp-IsAntisymmetric}
use Rattle.dav_files_core.specs.declared.memfs.Kind.TheVariants.{Folder}
use Rattle.dav_files_core.specs.Outcomes.{with_other_node}
use Rattle.dav_files_core.specs.Private.FileRepresents.{FileEntry, FileTree, PlaceFits, ShowsNode, Represents}
use Rattle.dav_files_core.specs.Resources.{Node, Resource, ResourceMap, at_path, IsResourceMap}
use Rattle.dav_path_core.specs.Fronts.{Path}
use Rattle.dav_path_core.specs.Keyed.{with_item_at}
use Rattle.dav_path_core.proofs.lists.Orders.{path_total, path_exact}
use Rattle.dav_path_core.proofs.lists.FinMaps.{one_some, get_same, get_other, inserted, dec}
use Rattle.dav_files_core.proofs.changes.AddedLemmas.{KeepsNumbers, fits_kept}

module _ (m : ResourceMap) (is_map : IsResourceMap m) (p : Path) (r : Resource) (new : Node)
    (here : at_path m p ≡ Some r) (still_folder : r.node.kind ≡ Folder → new.kind ≡ Folder) (new_bare : new.kind ≡ Folder → new.bytes ≡ []) where
  abbrev entry : Resource
  entry = record { number = r.number; node = new }

  abbrev m' : ResourceMap
  m' = with_other_node m p r new

  pub changed_cases : (q : Path) (x : Resource) → at_path m' q ≡ Some x → ((q ≡ p) × (x ≡ entry)) ⊎ (¬ (q ≡ p) × (at_path m q ≡ Some x))
  changed_cases q x h = inserted path_total path_exact m.entries p entry q x h

  -- what each entry of m became: the same number, and still a folder
  pub changed_keeps : (q : Path) (x : Resource) → at_path m q ≡ Some x → (y : Resource) × (at_path m' q ≡ Some y) × (y.number ≡ x.number) × (x.node.kind ≡ Folder → y.node.kind ≡ Folder)
  changed_keeps q x h = elim (dec path_total path_exact q p) [
    | inl same ↦
        let old : r ≡ x = one_some (at_path m p) r x here (ap (at_path m) (sym same) ∙ h) in
        (entry, ap (at_path m') same ∙ get_same path_total path_exact m.entries p entry, ap (λ (x : Resource). x.number) old, λ f. still_folder (ap (λ (x : Resource). x.node.kind) old ∙ f))
    | inr other ↦ (x, get_other path_total path_exact m.entries p entry q other ∙ h, refl, λ f. f)
  ]

  -- and where each entry of m' came from
  pub changed_from : (q : Path) (x : Resource) → at_path m' q ≡ Some x → (y : Resource) × (at_path m q ≡ Some y) × (y.number ≡ x.number)
  changed_from q x h = elim (changed_cases q x h) [
    | inl new ↦ (r, ap (at_path m) new.0 ∙ here, ap (λ (x : Resource). x.number) (sym new.1))
    | inr old ↦ (x, old.1, refl)
  ]

  pub IsResourceMap-changed : IsResourceMap m'
  IsResourceMap-changed = record {
    root = let root = is_map.root in let k = changed_keeps [] root.0 root.1 in (k.0, k.1, k.2 ∙ root.2, k.3 root.3);
    parents = λ q s c h. let old = changed_from (q ++ (s ∷ [])) c h in let above = is_map.parents q s old.0 old.1 in let k = changed_keeps q above.0 above.1 in (k.0, k.1, k.3 above.2);
    apart = λ q q' x x' h h' e. let f = changed_from q x h in let f' = changed_from q' x' h' in is_map.apart q q' f.0 f'.0 f.1 f'.1 (f.2 ∙ e ∙ sym f'.2);
    positive = λ q x h. let f = changed_from q x h in subst (λ n. 0 < n) f.2 (is_map.positive q f.0 f.1);
    below = λ q x h. let f = changed_from q x h in subst (λ n. n < m.next) f.2 (is_map.below q f.0 f.1);
    bare = λ q x h. elim (changed_cases q x h) [
      | inl new ↦ subst (λ (x : Resource). x.node.kind ≡ Folder → x.node.bytes ≡ []) (sym new.1) new_bare
      | inr old ↦ is_map.bare q x old.1
    ];
  }

module _ (t : FileTree) (m : ResourceMap) (rep : Represents t m)
    (p : Path) (r : Resource) (n : FileEntry) (item : Node)
    (here : at_path m p ≡ Some r) (stored : get t.nodes r.number ≡ Some n) (still_folder : r.node.kind ≡ Folder → item.kind ≡ Folder) (new_bare : item.kind ≡ Folder → item.bytes ≡ []) where
  abbrev map : ResourceMap
  map = with_other_node m p r item

  abbrev tree : FileTree
  tree = with_item_at t r.number (Some n) item

  abbrev placed : FileEntry
  placed = record { parent_and_key = n.parent_and_key; item = item }

  keeps : KeepsNumbers m map
  keeps q x h = let k = changed_keeps m rep.is_map p r item here still_folder new_bare q x h in (k.0, k.1, k.2)

  new_shown : (s : ShowsNode t m p r) → ShowsNode tree map p (record { number = r.number; node = item })
  new_shown s = record {
    placed = placed;
    stored = get_same nat_cmp_total nat_cmp-IsAntisymmetric t.nodes r.number placed;
    shown = refl;
    fits = fits_kept m map keeps p n.parent_and_key (subst (λ (n : FileEntry). PlaceFits m p n.parent_and_key) (one_some (get t.nodes r.number) s.placed n s.stored stored) s.fits);
  }

  old_shown : (q : Path) (x : Resource) → ¬ (q ≡ p) → at_path m q ≡ Some x → ShowsNode t m q x → ShowsNode tree map q x
  old_shown q x other h s = record {
    placed = s.placed;
    stored = get_other nat_cmp_total nat_cmp-IsAntisymmetric t.nodes r.number placed x.number (λ e. other (rep.is_map.apart q p x r h here e)) ∙ s.stored;
    shown = s.shown;
    fits = fits_kept m map keeps q s.placed.parent_and_key s.fits;
  }

  pub Represents-changed : Represents tree map
  Represents-changed = record {
    is_map = IsResourceMap-changed m rep.is_map p r item here still_folder new_bare;
    next = rep.next;
    shown = λ q x h. elim (changed_cases m rep.is_map p r item here still_folder new_bare q x h) [
      | inl new ↦ subst (λ (x : Resource). ShowsNode tree map q x) (sym new.1) (subst (λ q. ShowsNode tree map q (record { number = r.number; node = item })) (sym new.0) (new_shown (rep.shown p r here)))
      | inr old ↦ old_shown q x old.0 old.1 (rep.shown q x old.1)
    ];
    all = λ id n' h. elim (inserted nat_cmp_total nat_cmp-IsAntisymmetric t.nodes r.number placed id n' h) [
      | inl new ↦ let k = keeps p r here in (p, k.0, k.1, k.2 ∙ sym new.0)
      | inr old ↦ let e = rep.all id n' old.1 in let k = keeps e.0 e.1 e.2 in (e.0, k.0, k.1, k.2 ∙ e.3)
    ];
  }
