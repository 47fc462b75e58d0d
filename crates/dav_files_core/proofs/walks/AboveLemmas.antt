-- The folder in which an entry stands, by the number of its parent in the tree.
use Rattle.std.proofs.Common.{◌≡◌, ℕ, Option, Some, None, Result, Ok, Err, sym, ap, ◌∙◌, subst}
use Rattle.std.specs.Option.{option_map, ok_or}
use Rattle.std.specs.FinMap.{get}
use Rattle.dav_path_core.specs.declared.errors.FsError.{FsError}
use Rattle.dav_path_core.specs.declared.errors.FsError.TheVariants.{NotFound}
use Rattle.dav_path_core.specs.Fronts.{Segment, Path}
use Rattle.dav_path_core.specs.Keyed.{parent_number, parent_and_key_of}
use Rattle.dav_files_core.specs.Private.Entries.{StandsIn}
use Rattle.dav_files_core.specs.Private.FileRepresents.{FileEntry, FileTree, PlaceFits, Represents}
use Rattle.dav_files_core.specs.Resources.{Resource, ResourceMap, at_path}

pub place_in : (m : ResourceMap) (p : Path) (place : Option (ℕ × Segment)) → PlaceFits m p place → StandsIn m p (option_map (λ q. q.0) place)
place_in m p None fits = fits
place_in m p (Some place) fits = (fits.0, place.1, fits.1, fits.2, fits.3, fits.4)

module _ (t : FileTree) (m : ResourceMap) (rep : Represents t m) (p : Path) (r : Resource) (here : at_path m p ≡ Some r) (id : ℕ) (number : r.number ≡ id) where
  answer : (x : Option ℕ) → ◌≡◌ {A = Result (Option ℕ) FsError} (ok_or (option_map (λ (_ : FileEntry). x) (get t.nodes id)) NotFound) (Ok x)
  answer x = let s = rep.shown p r here in ap (λ (o : Option FileEntry). ok_or (option_map (λ (_ : FileEntry). x) o) NotFound) (ap (λ id. get t.nodes id) (sym number) ∙ s.stored)

  pub parent_known : (x : Option ℕ) (e : FsError) → ◌≡◌ {A = Result (Option ℕ) FsError} (Err e) (ok_or (option_map (λ (_ : FileEntry). x) (get t.nodes id)) NotFound) → ⊥
  parent_known x e h = let both : ◌≡◌ {A = Result (Option ℕ) FsError} (Err e) (Ok x) = h ∙ answer x in absurd (cc)

  pub stands_in : (x : Option ℕ) → ◌≡◌ {A = Result (Option ℕ) FsError} (Ok x) (ok_or (option_map (λ (_ : FileEntry). parent_number t id) (get t.nodes id)) NotFound) → StandsIn m p x
  stands_in x h =
      let s = rep.shown p r here in
      let both : ◌≡◌ {A = Result (Option ℕ) FsError} (Ok x) (Ok (parent_number t id)) = h ∙ answer (parent_number t id) in
      let is : x ≡ parent_number t id = cc in
      let place : parent_number t id ≡ option_map (λ q. q.0) s.placed.parent_and_key =
      ap (λ (o : Option FileEntry). option_map (λ q. q.0) (parent_and_key_of o)) (ap (λ id. get t.nodes id) (sym number) ∙ s.stored) in
      subst (StandsIn m p) (sym (is ∙ place)) (place_in m p s.placed.parent_and_key s.fits)
