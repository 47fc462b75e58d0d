-- Looking a path up is walking the tree by keys, one key at a time.
use Rattle.std.proofs.Common.{◌≡◌, ℕ, [], ◌∷◌, ◌++◌, Some, None, refl, sym, ap, ◌∙◌, subst}
use Rattle.std.specs.FinMap.{get}
use Rattle.dav_files_core.specs.Private.FileRepresents.{FileEntry, FileTree, PlaceFits, ShowsNode, Represents}
use Rattle.dav_files_core.specs.Resources.{Node, Resource, ResourceMap, at_path}
use Rattle.dav_path_core.specs.Fronts.{Segment, Path}
use Rattle.dav_path_core.proofs.lists.FinMaps.{one_some}
use Rattle.dav_path_core.proofs.lists.Snoc.{snoc_not_empty, snoc_front, snoc_last}

module _ (t : FileTree) (m : ResourceMap) where
  same_node : (id : ℕ) (n : FileEntry) (p : Path) (r : Resource) (placed : FileEntry) → get t.nodes id ≡ Some n → at_path m p ≡ Some r → r.number ≡ id
      → get t.nodes r.number ≡ Some placed → placed.item ≡ r.node → PlaceFits m p placed.parent_and_key
      → (at_path m p ≡ Some (record { number = id; node = n.item })) × PlaceFits m p n.parent_and_key
  same_node id n p r placed stored here number found shown fits =
      let same : placed ≡ n = one_some (get t.nodes id) placed n (ap (λ k. get t.nodes k) (sym number) ∙ found) stored in
      let entry : r ≡ record { number = id; node = n.item } = λ i. record { number = number i; node = (sym shown ∙ ap (λ n. n.item) same) i } in
      (here ∙ ap Some entry, subst (λ (n : FileEntry). PlaceFits m p n.parent_and_key) same fits)

  -- the entry of a node
  pub entry_of_node : Represents t m → (id : ℕ) (n : FileEntry) → get t.nodes id ≡ Some n
      → (p : Path) × (at_path m p ≡ Some (record { number = id; node = n.item })) × PlaceFits m p n.parent_and_key
  entry_of_node rep id n stored =
      let e : (p : Path) × (r : Resource) × (at_path m p ≡ Some r) × (r.number ≡ id) = rep.all id n stored in
      let shown : ShowsNode t m e.0 e.1 = rep.shown e.0 e.1 e.2 in
      let both = same_node id n e.0 e.1 shown.placed stored e.2 e.3 shown.stored shown.shown shown.fits in
      (e.0, both.0, both.1)

  -- a node whose place is below an entry's number stands below that entry's path
  pub child_at : Represents t m → (p : Path) (r : Resource) → at_path m p ≡ Some r
      → (c : ℕ) (k : Segment) (item : Node) → get t.nodes c ≡ Some (record { parent_and_key = Some (r.number, k); item = item })
      → at_path m (p ++ (k ∷ [])) ≡ Some (record { number = c; node = item })
  child_at rep p r here c k item stored =
      let (q, at_q, fits) = entry_of_node rep c _ stored in
      let above : p ≡ fits.0 = rep.is_map.apart p fits.0 r fits.1 here fits.3 (sym fits.4) in
      ap (λ p. at_path m (p ++ (k ∷ []))) above ∙ ap (at_path m) (sym fits.2) ∙ at_q

  -- an entry below another is a node whose place is below the other's number
  pub node_below : Represents t m → (p : Path) (r : Resource) (s : Segment) (c : Resource) → at_path m p ≡ Some r → at_path m (p ++ (s ∷ [])) ≡ Some c
      → (k : Segment) × (item : Node) × (get t.nodes c.number ≡ Some (record { parent_and_key = Some (r.number, k); item = item })) × (k ≡ s) × (item ≡ c.node)
  node_below rep p r s c here below =
      let shown : ShowsNode t m (p ++ (s ∷ [])) c = rep.shown _ c below in
      by_place shown.placed shown.stored shown.shown shown.fits
    where
      by_place : (n : FileEntry) → get t.nodes c.number ≡ Some n → n.item ≡ c.node → PlaceFits m (p ++ (s ∷ [])) n.parent_and_key
          → (k : Segment) × (item : Node) × (get t.nodes c.number ≡ Some (record { parent_and_key = Some (r.number, k); item = item })) × (k ≡ s) × (item ≡ c.node)
      by_place n stored shown fits = elim n.parent_and_key as (λ place. n.parent_and_key ≡ place → PlaceFits m (p ++ (s ∷ [])) place
          → (k : Segment) × (item : Node) × (get t.nodes c.number ≡ Some (record { parent_and_key = Some (r.number, k); item = item })) × (k ≡ s) × (item ≡ c.node)) [
            | None ↦ λ e fits. absurd (snoc_not_empty p s fits)
            | Some place ↦ λ e fits.
                let above : p ≡ fits.0 = snoc_front p fits.0 s (place.1) fits.2 in
                let parent : r.number ≡ place.0 = ap (λ (r : Resource). r.number) (one_some (at_path m p) r fits.1 here (ap (at_path m) above ∙ fits.3)) ∙ fits.4 in (
                  place.1,
                  n.item,
                  stored ∙ ap Some (λ i. record { parent_and_key = (e ∙ ap (λ number. Some (number, place.1)) (sym parent)) i; item = n.item }),
                  sym (snoc_last p fits.0 s (place.1) fits.2),
                  shown,
                )
          ] refl fits
