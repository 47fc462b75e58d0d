-- An export in work.
use Rattle.std.specs.Prelude.{◌≡◌, ℕ, Bool, true, false, ◌&&◌, Some, List, [], ◌∷◌, ◌++◌, map, string_bytes}
use Rattle.std.specs.List.{flat_map}
use Rattle.dav_files_core.specs.Walks.{Stored}
use Rattle.store_tools.specs.Exports.{SystemCall, ExportPart, makes, folders, are_made, calls_done}
use Rattle.store_tools.specs.declared.exporting.Exporter.{Exporter}
use Rattle.store_tools.specs.declared.exporting.Unmade.{Unmade}
use Rattle.store_tools.specs.declared.exporting.Unmade.TheVariants.{LeftOut, Failed}

-- it is left out, and all else goes on
unfoldable pub is_left_out : Unmade → Bool
is_left_out (LeftOut reason) = true
is_left_out (Failed failure) = false

-- the folders that were made, whether none was left out, and what was done
pub record Work : Type 0 where
  pub folders : List (List ℕ × ℕ)
  pub whole : Bool
  pub done : List SystemCall

abbrev pub folders_of : Exporter → List (List ℕ × ℕ)
folders_of e = map (λ f. (string_bytes f.0, f.1.0)) e.folders.items

abbrev pub work_of : Exporter → List (SystemCall × Bool) → Work
work_of e history = record { folders = folders_of e; whole = e.is_whole; done = calls_done history }

-- these parts were made, or left out
abbrev pub AddsParts : Work → Work → List ExportPart → Type 0
AddsParts w w' parts = (w'.folders ≡ w.folders ++ flat_map folders parts) × (w'.whole ≡ (w.whole && are_made parts)) × (w'.done ≡ w.done ++ flat_map makes parts)

abbrev pub ExportsOne : Stored → Work → Work → Type 0
ExportsOne s w w' = (part : ExportPart) × (part.entry ≡ s) × AddsParts w w' (part ∷ [])

abbrev pub ExportsEach : List Stored → Work → Work → Type 0
ExportsEach ss w w' = (parts : List ExportPart) × (map (λ p. p.entry) parts ≡ ss) × AddsParts w w' parts

-- it was made
abbrev pub MakesEntry : Stored → Work → Work → Type 0
MakesEntry s w w' = (at : List ℕ × ℕ) × AddsParts w w' (record { entry = s; made = Some at } ∷ [])
