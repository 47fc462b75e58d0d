-- What is told of why a store is not compacted, by what failed (own).
use Rattle.std.specs.Prelude.{◌≡◌}
use Rattle.journal_core.specs.declared.error.JournalError.TheVariants as journal
use Rattle.dav_store_core.specs.declared.error.StoreError.{StoreError}
use Rattle.dav_store_core.specs.declared.error.StoreError.TheVariants.{Journal}
use Rattle.store_files.specs.declared.error.Uncompacted.{Uncompacted}
use Rattle.store_files.specs.declared.error.Uncompacted.TheVariants as told

-- a call of the system failed, or there is no memory
abbrev pub IsFailure : Uncompacted → Type 0
IsFailure (told.Failed e) = Unit {0}
IsFailure _ = ⊥

-- want of memory and calls that failed are told as such, and all else as the store's
abbrev pub TellsStore : StoreError → Uncompacted → Type 0
TellsStore (Journal journal.OutOfMemory) e = IsFailure e
TellsStore (Journal (journal.Failed cause)) e = e ≡ told.Failed cause
TellsStore given e = e ≡ told.Store given
