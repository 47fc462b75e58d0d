-- What comes of something that was found.
use Rattle.std.proofs.Common.{◌≡◌, ℕ, List, Err, subst}
use Rattle.dav_path_core.specs.Fronts.{Path}
use Rattle.dav_files_core.specs.Describing.{metadata}
use Rattle.dav_store_core.specs.declared.opened.Opened.{Opened}
use Rattle.store_changes.specs.declared.adding.Unimported.{Unimported}
use Rattle.store_changes.specs.declared.adding.Unimported.TheVariants.{File, Folder, NoFolder, Locked, NoMoment, OutOfMemory, Unfinished}
use Rattle.store_changes.specs.Adding.{FindsEntry, IsAdded, Refuses}
use Rattle.store_changes.specs.FoundEntries.{AddsAt, CameOf}
use Rattle.store_changes.specs.ImportedEntries.{Source}

-- what was added, whatever its bytes are joined to
pub adds_at : (path : Path) (old new : Opened) (clock : ℕ) (source : Source) (joins : List ℕ → Type 0) → source.path ≡ path → IsAdded old.stores old.last.0 clock source new.stores new.last.0 joins → AddsAt path old new
adds_at path old new clock source joins place a = record { clock = clock; source = source; place = place; added = record { moment = a.moment; free = a.free; played = a.played; bytes = a.bytes; written = a.written; joined = tt } }

-- what a refusal tells
pub came_not : (path : Path) (old new : Opened) (now : ℕ) (source : Source) (why : Unimported) → source.path ≡ path → Refuses old.stores old.last.0 now source why → CameOf path old (Err why) new
came_not path old new now source File place h = tt
came_not path old new now source Folder place h = subst (λ (p : Path). FindsEntry (metadata old.stores.map p) (Err Folder)) place h
came_not path old new now source NoFolder place h = tt
came_not path old new now source Locked place h = tt
came_not path old new now source NoMoment place h = tt
came_not path old new now source OutOfMemory place h = tt
came_not path old new now source Unfinished place h = tt
