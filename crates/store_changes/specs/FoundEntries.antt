-- What comes of something that was found in a folder that is imported (own).
use Rattle.std.specs.Prelude.{◌≡◌, ◌⊎◌, ◌+◌, ◌-◌, ◌^◌, ℕ, min, Result, Ok, Err}
use Rattle.dav_path_core.specs.Fronts.{Path}
use Rattle.dav_files_core.specs.Describing.{metadata}
use Rattle.dav_store_core.specs.declared.opened.Opened.{Opened}
use Rattle.store_changes.specs.Adding.{FindsEntry, IsAdded}
use Rattle.store_changes.specs.ImportedEntries.{Source}
use Rattle.store_changes.specs.declared.adding.Unimported.{Unimported}
use Rattle.store_changes.specs.declared.adding.Unimported.TheVariants.{Folder}

-- An entry at this path was added to stores, and nothing else.
pub record AddsAt (path : Path) (old new : Opened) : Type 0 where
  pub clock : ℕ
  pub source : Source
  pub place : source.path ≡ path
  pub added : IsAdded old.stores old.last.0 clock source new.stores new.last.0 (λ bytes. Unit {0})

-- a folder stands at this path
abbrev pub FolderStandsAt : Path → Opened → Type 0
FolderStandsAt path o = FindsEntry (metadata o.stores.map path) (Err Folder)

-- an entry at this path was added; or a folder stands there, which is why none was
abbrev pub CameOf : Path → Opened → Result (Unit {0}) Unimported → Opened → Type 0
CameOf path old (Ok x) new = AddsAt path old new
CameOf path old (Err Folder) new = FolderStandsAt path old
CameOf path old (Err _) new = Unit {0}

-- one more is left out; the count ends at the greatest number
abbrev pub LeavesOne : ℕ → ℕ → Type 0
LeavesOne left left' = left' ≡ min (left + 1) (2 ^ 64 - 1)

-- an entry at this path was added, or a folder stands there, or one more is left out
abbrev pub IsDealtWith : Path → Opened → ℕ → Opened → ℕ → Type 0
IsDealtWith path old left new left' = AddsAt path old new ⊎ (FolderStandsAt path old ⊎ LeavesOne left left')
