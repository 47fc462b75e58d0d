-- What the adding of a file or a folder to kept stores comes to (own).
use Rattle.std.specs.Prelude.{◌≡◌, ◌≢◌, ◌≤◌, ◌^◌, ◌+◌, ℕ, List, Bool, true, false, Result, Ok, Err}
use Rattle.dav_path_core.specs.declared.errors.FsError.{FsError}
use Rattle.dav_files_core.specs.declared.memfs.Kind.TheVariants.{Folder as FolderKind}
use Rattle.dav_files_core.specs.Describing.{metadata}
use Rattle.dav_files_core.specs.Meta.{Meta}
use Rattle.dav_guarded_core.specs.Requests.{Refusal, Locked as LockedBy}
use Rattle.dav_guarded_core.specs.Stores.{Stores}
use Rattle.dav_notes_core.specs.Changes.{lacks_memory}
use Rattle.dav_notes_core.specs.Noting.{Noted}
use Rattle.dav_notes_core.specs.PlayedNotes.{NotePlayed, NotesPlayed}
use Rattle.dav_notes_core.specs.Stepping.{AnsweredBy, SameLiveStores}
use Rattle.dav_effects_core.specs.Records.{IsRecord}
use Rattle.store_changes.specs.ImportedEntries.{Source, making, moment_behind, unnamed_note, notes_for}
use Rattle.store_changes.specs.declared.adding.Unimported.{Unimported}
use Rattle.store_changes.specs.declared.adding.Unimported.TheVariants.{File, Folder, NoFolder, Locked, NoMoment, OutOfMemory, Unfinished}

-- something stands there, and whether it is a folder; or nothing does; or there is no memory to tell
abbrev pub FindsEntry : Result Meta FsError → Result Unit Unimported → Type 0
FindsEntry found (Ok _) = (m : Meta) → found ≢ Ok m
FindsEntry found (Err Folder) = (m : Meta) × (found ≡ Ok m) × (m.kind ≡ FolderKind)
FindsEntry found (Err File) = (m : Meta) × (found ≡ Ok m) × (m.kind ≢ FolderKind)
FindsEntry found (Err OutOfMemory) = Unit {0}
FindsEntry found (Err _) = ⊥

-- The stores are those behind the entry's requests, all at the moment that comes behind the last one; nothing stood at its path; and these bytes, which are joined to others, are the record of the requests.
pub record IsAdded (s : Stores) (last clock : ℕ) (source : Source) (s' : Stores) (last' : ℕ) (joins : List ℕ → Type 0) : Type 0 where
  pub moment : last' ≡ moment_behind last clock
  pub free : (m : Meta) → metadata s.map source.path ≢ Ok m
  pub played : NotesPlayed s (notes_for last' source) s'
  pub bytes : List ℕ
  pub written : IsRecord (notes_for last' source) bytes
  pub joined : joins bytes

-- nothing was done of it
abbrev pub LeavesAll : Unimported → Type 0
LeavesAll Unfinished = ⊥
LeavesAll _ = Unit {0}

-- the stores are as they were, but for locks that have expired at the last moment, which is no earlier than before
abbrev pub StaysLive : Stores → ℕ → Stores → ℕ → Type 0
StaysLive s last s' last' = (last ≤ last') × SameLiveStores last' s s'

-- why an entry is not made, by whether the refusal is for want of memory
abbrev pub reason_for : Bool → Refusal → Unimported
reason_for true x = OutOfMemory
reason_for false (LockedBy l) = Locked
reason_for false _ = NoFolder

abbrev pub reason_by : Refusal → Unimported
reason_by x = reason_for (lacks_memory x) x

-- the stores refuse a request, for this reason
abbrev pub RefusesBy : Stores → Noted → Stores → Unimported → Type 0
RefusesBy s n s' why = (x : Refusal) × (why ≡ reason_by x) × AnsweredBy n.drawn s n.request (Err x) s'

-- when each error comes
abbrev pub Refuses : Stores → ℕ → ℕ → Source → Unimported → Type 0
Refuses s last now source File = FindsEntry (metadata s.map source.path) (Err File)
Refuses s last now source Folder = FindsEntry (metadata s.map source.path) (Err Folder)
Refuses s last now source NoFolder = (s' : Stores) × RefusesBy s (unnamed_note now (making source.path source.content)) s' NoFolder
Refuses s last now source Locked = (s' : Stores) × RefusesBy s (unnamed_note now (making source.path source.content)) s' Locked
Refuses s last now source NoMoment = last + 1 ≡ 2 ^ 64
Refuses s last now source OutOfMemory = Unit {0}
Refuses s last now source Unfinished = (s' : Stores) × NotePlayed s (unnamed_note now (making source.path source.content)) s'
