-- What the loading of a journal comes to (own).
use Rattle.std.specs.Prelude.{◌≡◌, ◌≢◌, ◌⊎◌, ◌<◌, ℕ, List, [], ◌∷◌, ◌++◌, length, Bool, IsTrue, Ok}
use Rattle.journal_core.specs.declared.header.Header.{Header}
use Rattle.journal_core.specs.declared.journal.Journal.{Journal}
use Rattle.journal_core.specs.declared.reader.Reader.{Reader}
use Rattle.journal_core.specs.Clocked.{EachLeaves, GoesAs, SeesSame}
use Rattle.journal_core.specs.Format.{StandsFor}
use Rattle.journal_core.specs.JournalReading.{HasReadCause, IsRefusal}
use Rattle.journal_core.specs.Resting.{IsBeingRead, IsSettled, clocked_of, disk_behind}
use Rattle.dav_guarded_core.specs.Stores.{Stores}
use Rattle.dav_snapshots_core.specs.SnapshotReading.{snapshot_at}
use Rattle.dav_store_core.specs.declared.error.StoreError.{StoreError}
use Rattle.dav_store_core.specs.declared.error.StoreError.TheVariants.{Journal as JournalFault, Damaged}
use Rattle.dav_store_core.specs.StandingFor.{Keeps, StandFor}

-- So many records were read so far, as `reads` says, and they stand for these stores and this last moment.
pub record IsPlayed (reads : List (List ℕ) → Type 0) (h : Header) (number : ℕ) (s : Stores) (last : ℕ) : Type 0 where
  pub records : List (List ℕ)
  pub read : reads records
  pub count : length records ≡ number
  pub stand : StandFor h records s last

-- The record with this number was read. Those before it stand for stores, in which it cannot be done.
pub record StopsThere (reads : List (List ℕ) → Type 0) (h : Header) (number : ℕ) : Type 0 where
  pub front : List (List ℕ)
  pub bytes : List ℕ
  pub stores : Stores
  pub last : ℕ
  pub read : reads (front ++ bytes ∷ [])
  pub count : length front ≡ number
  pub stand : StandFor h front stores last
  pub fails : (s : Stores) (m : ℕ) → ¬ (Keeps stores last bytes s m)

-- This record is the first of a compacted store, which was to be a snapshot: there is none, or one that is read as no stores.
pub record LacksSnapshot (reads : List (List ℕ) → Type 0) (ended : Type 0) (h : Header) (number : ℕ) : Type 0 where
  pub later : 0 < h.generation
  pub first : number ≡ 0
  pub fails : ended ⊎ ((bytes : List ℕ) × reads (bytes ∷ []) × ((s : Stores) (m : ℕ) → snapshot_at bytes ≢ Ok (s, m)))

-- the record with this number is the first that is at fault, by either
abbrev pub IsAtFault : (List (List ℕ) → Type 0) → Type 0 → Header → ℕ → Type 0
IsAtFault reads ended h number = StopsThere reads h number ⊎ LacksSnapshot reads ended h number

-- so many records were read of a journal, and they stand for these stores and this last moment
abbrev pub IsLoading : {D B : Type 0} → (D → List ℕ) → (D → Bool) → Journal D B → Reader → Header → ℕ → Stores → ℕ → Type 0
IsLoading seen is_clean j r = IsPlayed (IsBeingRead seen is_clean j r)

-- the journal is settled with records that stand for these stores and this last moment
pub record IsLoaded {D B : Type 0} (seen : D → List ℕ) (may_leave : D → List ℕ → Type 0) (is_clean : D → Bool) (j : Journal D B) (h : Header) (s : Stores) (last : ℕ) : Type 0 where
  pub records : List (List ℕ)
  pub settled : IsSettled seen may_leave is_clean j records
  pub stand : StandFor h records s last

-- the file is refused for what it holds
abbrev pub IsDamage : StoreError → Type 0
IsDamage (JournalFault e) = IsRefusal e
IsDamage (Damaged number) = Unit {0}

-- an error of the journal is one of reading it; and a record that is told damaged cannot be done
abbrev pub HasLoadCause : Type 0 → (ℕ → Type 0) → StoreError → Type 0
HasLoadCause failed stops (JournalFault e) = HasReadCause failed e
HasLoadCause failed stops (Damaged number) = stops number

-- the file stands for no records that stand for stores
abbrev pub StandsForNone : Header → List ℕ → Type 0
StandsForNone h file = (g : Header) (records : List (List ℕ)) (s : Stores) (last : ℕ) → StandsFor g file records → ¬ (StandFor h records s last)

-- Nothing was written: what is seen stays the same, at each moment too, and a crash leaves no more than before.
pub record WritesNothing {D B : Type 0} (seen : D → List ℕ) (may_leave : D → List ℕ → Type 0) (is_clean : D → Bool) (note : B) (old new : Journal D B) : Type 0 where
  pub seen_is : seen (disk_behind new) ≡ seen (disk_behind old)
  pub moments : GoesAs SeesSame seen (clocked_of old) (clocked_of new)
  pub any_moment : EachLeaves may_leave note (may_leave (disk_behind old)) (clocked_of old) (clocked_of new)
  pub crash : (c : List ℕ) → may_leave (disk_behind new) c → may_leave (disk_behind old) c
  pub clean : IsTrue (is_clean (disk_behind new)) → IsTrue (is_clean (disk_behind old))
