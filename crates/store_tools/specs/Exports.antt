-- What an export asks of the system, call by call, and what it has made at its end (own).
use Rattle.std.specs.Prelude.{◌≡◌, ℕ, Bool, true, false, if◌then◌else◌, List, [], ◌∷◌, ◌++◌, map, reverse, Option, Some, None, is_some}
use Rattle.std.specs.List.{flat_map, list_all}
use Rattle.dav_files_core.specs.Resources.{ResourceMap, is_folder}
use Rattle.dav_files_core.specs.Walks.{Stored, IsMapWalk}

-- ---- calls

-- a call at a place: which one it is, the bytes that it writes, and the time that it sets
pub record SystemCall : Type 0 where
  pub place : List ℕ
  pub call : ℕ
  pub bytes : List ℕ
  pub time : ℕ

-- a folder is made where nothing has its name
abbrev pub makes_folder : List ℕ → SystemCall
makes_folder place = record { place = place; call = 0; bytes = []; time = 0 }

-- a file is made where nothing has its name, to be written, given a time and synced
abbrev pub makes_file : List ℕ → SystemCall
makes_file place = record { place = place; call = 1; bytes = []; time = 0 }

-- a folder is opened, to be given a time and synced
abbrev pub opens : List ℕ → SystemCall
opens place = record { place = place; call = 2; bytes = []; time = 0 }

abbrev pub writes : List ℕ → List ℕ → SystemCall
writes place bytes = record { place = place; call = 3; bytes = bytes; time = 0 }

abbrev pub sets_time : List ℕ → ℕ → SystemCall
sets_time place time = record { place = place; call = 4; bytes = []; time = time }

abbrev pub syncs : List ℕ → SystemCall
syncs place = record { place = place; call = 5; bytes = []; time = 0 }

-- those calls that were done
unfoldable pub calls_done : List (SystemCall × Bool) → List SystemCall
calls_done [] = []
calls_done ((call, true) ∷ more) = call ∷ calls_done more
calls_done ((call, false) ∷ more) = calls_done more

-- these were done, behind those before
abbrev pub DoesCalls : List (SystemCall × Bool) → List (SystemCall × Bool) → List SystemCall → Type 0
DoesCalls before after calls = calls_done after ≡ calls_done before ++ calls

-- ---- entries

-- an entry of the stores, and where it was made and with which time, unless it was left out
pub record ExportPart : Type 0 where
  pub entry : Stored
  pub made : Option (List ℕ × ℕ)

abbrev pub file_calls : List ℕ → List ℕ → ℕ → List SystemCall
file_calls place bytes time = makes_file place ∷ writes place bytes ∷ sets_time place time ∷ syncs place ∷ []

-- the root stands there before the others are made
unfoldable pub folder_calls : Option ℕ → List ℕ → List SystemCall
folder_calls None place = []
folder_calls (Some above) place = makes_folder place ∷ []

abbrev pub calls_for : Stored → List ℕ × ℕ → List SystemCall
calls_for s at = if is_folder s.resource.node.kind then folder_calls s.folder at.0 else file_calls at.0 s.resource.node.bytes at.1

-- what is done for an entry
unfoldable pub calls_of : Stored → Option (List ℕ × ℕ) → List SystemCall
calls_of s None = []
calls_of s (Some at) = calls_for s at

abbrev pub makes : ExportPart → List SystemCall
makes p = calls_of p.entry p.made

-- where it was made, with its time, if it is a folder
unfoldable pub folder_of : Stored → Option (List ℕ × ℕ) → List (List ℕ × ℕ)
folder_of s None = []
folder_of s (Some at) = if is_folder s.resource.node.kind then at ∷ [] else []

abbrev pub folders : ExportPart → List (List ℕ × ℕ)
folders p = folder_of p.entry p.made

-- what is done for a folder once all is made
abbrev pub ends : List ℕ × ℕ → List SystemCall
ends at = opens at.0 ∷ sets_time at.0 at.1 ∷ syncs at.0 ∷ []

-- none was left out
abbrev pub are_made : List ExportPart → Bool
are_made parts = list_all (λ p. is_some p.made) parts

-- Each entry is made behind the folder that it stands in, or left out; then each folder that was made gets its time and is synced, from the last to the first.
pub record IsExport (m : ResourceMap) (whole : Bool) (calls : List SystemCall) : Type 0 where
  pub parts : List ExportPart
  pub walked : IsMapWalk m (map (λ p. p.entry) parts)
  pub all : whole ≡ are_made parts
  pub asked : calls ≡ flat_map makes parts ++ flat_map ends (reverse (flat_map folders parts))

-- such calls were done, behind those before
abbrev pub Exports : ResourceMap → Bool → List (SystemCall × Bool) → List (SystemCall × Bool) → Type 0
Exports m whole before after = (calls : List SystemCall) × DoesCalls before after calls × IsExport m whole calls
