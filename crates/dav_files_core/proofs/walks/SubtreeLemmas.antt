-- Below in the tree is below by paths.
use Rattle.std.proofs.Common.{◌≡◌, ℕ, [], ◌∷◌, ◌++◌, Option, Some, None, refl, sym, ap, ◌∙◌, subst, append_assoc, append-nil}
use Rattle.std.specs.Option.{option_map}
use Rattle.dav_path_core.specs.Fronts.{Segment, Path}
use Rattle.dav_path_core.specs.Keyed.{Under, here, below, parent_number, parent_and_key_of}
use Rattle.dav_path_core.proofs.trees.Trees.{none≢some, same_some}
use Rattle.dav_files_core.specs.Private.FileRepresents.{FileEntry, FileTree, PlaceFits, ShowsNode, Represents}
use Rattle.dav_files_core.specs.Resources.{Resource, ResourceMap, at_path}
use Rattle.dav_files_core.proofs.moves.MovingLemmas.{front_there}
use Rattle.dav_files_core.proofs.walks.WalkLemmas.{node_below}

-- a way that goes one further up
one_up : {f : ℕ → Option ℕ} {n k up : ℕ} → f n ≡ Some up → Under f n k → Under f up k
one_up e here = below e here
one_up e (below h u) = below h (one_up e u)

module _ (t : FileTree) (m : ResourceMap) (rep : Represents t m) where
  -- the folder of a node with a parent
  above : (q : Path) (s : Resource) → at_path m q ≡ Some s → (par : ℕ) → parent_number t s.number ≡ Some par
      → (q' : Path) × (name : Segment) × (f : Resource) × (q ≡ q' ++ (name ∷ [])) × (at_path m q' ≡ Some f) × (f.number ≡ par)
  above q s there par h = by shown.placed.parent_and_key refl shown.fits
    where
      shown : ShowsNode t m q s
      shown = rep.shown q s there

      number : (o : Option (ℕ × Segment)) → shown.placed.parent_and_key ≡ o → Some par ≡ option_map (λ (q : ℕ × Segment). q.0) o
      number o e = sym h ∙ ap (λ (o : Option FileEntry). option_map (λ (q : ℕ × Segment). q.0) (parent_and_key_of o)) shown.stored ∙ ap (option_map (λ (q : ℕ × Segment). q.0)) e

      by : (o : Option (ℕ × Segment)) → shown.placed.parent_and_key ≡ o → PlaceFits m q o
          → (q' : Path) × (name : Segment) × (f : Resource) × (q ≡ q' ++ (name ∷ [])) × (at_path m q' ≡ Some f) × (f.number ≡ par)
      by None e fits = absurd (none≢some par (sym (number None e)))
      by (Some place) e fits = (fits.0, place.1, fits.1, fits.2, fits.3, fits.4 ∙ same_some place.0 par (sym (number (Some place) e)))

  pub under_front : (p : Path) (r : Resource) → at_path m p ≡ Some r → (c : ℕ) → Under (parent_number t) r.number c → (q : Path) (s : Resource) → at_path m q ≡ Some s → s.number ≡ c → (u : Path) × (q ≡ p ++ u)
  under_front p r at c here q s there e = ([], rep.is_map.apart q p s r there at e ∙ sym (append-nil p))
  under_front p r at c (below {p = par} h up) q s there e =
      let a = above q s there par (ap (parent_number t) e ∙ h) in
      let rest = under_front p r at par up a.0 a.2 a.4 a.5 in
      (rest.0 ++ (a.1 ∷ []), a.3 ∙ ap (λ (q : Path). q ++ (a.1 ∷ [])) rest.1 ∙ append_assoc p rest.0 (a.1 ∷ []))

  pub front_under : (u : Path) (p : Path) (r : Resource) → at_path m p ≡ Some r → (s : Resource) → at_path m (p ++ u) ≡ Some s → Under (parent_number t) r.number s.number
  front_under [] p r at s there =
      subst (λ (x : Resource). Under (parent_number t) r.number x.number) (same_some r s (sym at ∙ ap (at_path m) (sym (append-nil p)) ∙ there)) here
  front_under (x ∷ u) p r at s there =
      let there' : at_path m ((p ++ (x ∷ [])) ++ u) ≡ Some s = ap (at_path m) (append_assoc p (x ∷ []) u) ∙ there in
      let next = front_there m rep.is_map (p ++ (x ∷ [])) u s there' in
      let (k, item, stored, _, _) = node_below t m rep p r x next.0 at next.1 in
      one_up (ap (λ (o : Option FileEntry). option_map (λ (q : ℕ × Segment). q.0) (parent_and_key_of o)) stored) (front_under u (p ++ (x ∷ [])) next.0 next.1 s there')
