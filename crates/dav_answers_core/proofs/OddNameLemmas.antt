-- A name that no path has which is read stands below folders alone.
use Rattle.std.proofs.Common.{◌≡◌, inl, inr, List, [], ◌∷◌, ◌++◌, append_assoc, None, ap, ◌∙◌}
use Rattle.dav_path_core.specs.Fronts.{Path, Segment}
use Rattle.dav_path_core.proofs.lists.FinMaps.{none_some}
use Rattle.dav_path_core.proofs.paths.SubtreePaths.{rest_of, some_of}
use Rattle.dav_files_core.specs.Resources.{IsResourceMap, ResourceMap, at_path}
use Rattle.dav_session_core.specs.Ends.{GoesFrom, HasFolder}
use Rattle.dav_session_core.specs.Subtrees.{HasOddName}
use Rattle.dav_session_core.proofs.CopyMadeLemmas.{nothing_below}

module _ (m : ResourceMap) (p : Path) (is_map : IsResourceMap m) where
  below : (rest : Path) (name : Segment) → ¬ HasFolder m p
      → at_path m (p ++ (rest ++ (name ∷ []))) ≡ None
  below [] name none = nothing_below m p name [] is_map none
  below (x ∷ rest) name none = nothing_below m p x (rest ++ (name ∷ [])) is_map none

  pub odd_no_folder : {A : Type 0} → HasOddName m p → ¬ HasFolder m p → A
  odd_no_folder odd none =
      let rest = rest_of p odd.folder odd.below in
      let path : odd.folder ++ (odd.name ∷ []) ≡ p ++ (rest.0 ++ (odd.name ∷ [])) =
      ap (λ q. q ++ (odd.name ∷ [])) rest.1 ∙ append_assoc p rest.0 (odd.name ∷ []) in
      let r = some_of (at_path m (odd.folder ++ (odd.name ∷ []))) odd.stands in
      none_some (at_path m (odd.folder ++ (odd.name ∷ []))) r.0
      (ap (at_path m) path ∙ below rest.0 odd.name none) r.1

  pub odd_nowhere : {A : Type 0} → HasOddName m p → at_path m p ≡ None → A
  odd_nowhere odd nothing =
      odd_no_folder odd (λ folder. none_some (at_path m p) folder.0 nothing folder.1)

  -- so what goes from a target has no such name
  pub goes_plain : (gone : List Path) → GoesFrom m p gone → ¬ HasOddName m p
  goes_plain gone (inl folder) odd = folder.1.plain odd
  goes_plain gone (inr none) odd = odd_no_folder odd none.0
