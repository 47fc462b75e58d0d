-- What the compaction of a store comes to (own).
use Rattle.std.specs.Prelude.{◌⊎◌, ◌<◌, ℕ, Bool, List, [], IsFalse}
use Rattle.journal_core.specs.declared.error.JournalError.TheVariants.{OutOfMemory, NotOpen}
use Rattle.journal_core.specs.declared.header.Header.{Header}
use Rattle.journal_core.specs.declared.journal.Journal.{Journal}
use Rattle.journal_core.specs.Format.{StandsFor}
use Rattle.journal_core.specs.Resting.{HasDiskCause, IsSettled, header_in}
use Rattle.dav_guarded_core.specs.Stores.{Stores}
use Rattle.dav_store_core.specs.declared.error.StoreError.{StoreError}
use Rattle.dav_store_core.specs.declared.error.StoreError.TheVariants.{Journal as JournalFault, Damaged}
use Rattle.dav_store_core.specs.StandingFor.{StandFor}

-- the journal is of a later generation, and settled with no records
abbrev pub IsMadeAnew : {D B : Type 0} → (D → List ℕ) → (D → List ℕ → Type 0) → (D → Bool) → Journal D B → Type 0
IsMadeAnew seen may_leave is_clean j = (0 < (header_in j).generation) × IsSettled seen may_leave is_clean j []

-- the file stands for no records yet, or for records that stand for these stores and this last moment
abbrev pub IsCompactedOrEmpty : Header → Stores → ℕ → List ℕ → Type 0
IsCompactedOrEmpty h s last file = StandsFor h file [] ⊎ ((records : List (List ℕ)) × StandsFor h file records × StandFor h records s last)

-- there is no memory for the snapshot; or the journal tells of its write
abbrev pub HasCompactingCause : StoreError → Bool → ℕ → ℕ → ℕ → ℕ → Type 0
HasCompactingCause (JournalFault OutOfMemory) ready faults faults' refused refused' = Unit {0}
HasCompactingCause (JournalFault NotOpen) ready faults faults' refused refused' = IsFalse ready
HasCompactingCause (JournalFault e) ready faults faults' refused refused' = HasDiskCause e faults faults' refused refused'
HasCompactingCause (Damaged number) ready faults faults' refused refused' = ⊥
