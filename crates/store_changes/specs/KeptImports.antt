-- What an import keeps in a journal (own).
use Rattle.std.specs.Prelude.{ℕ, ◌+◌, ◌≤◌, List, [], ◌++◌, length, Bool}
use Rattle.journal_core.specs.declared.header.Header.{Header}
use Rattle.journal_core.specs.declared.journal.Journal.{Journal}
use Rattle.journal_core.specs.Format.{StandsFor}
use Rattle.journal_core.specs.Resting.{Carries, IsSettled}
use Rattle.dav_guarded_core.specs.Stores.{Stores}
use Rattle.dav_notes_core.specs.Stepping.{SameLiveStores}
use Rattle.dav_store_core.specs.StandingFor.{StandFor}
use Rattle.store_changes.specs.declared.additions.Additions.{Additions}
use Rattle.store_changes.specs.declared.additions.Counts.{Counts}
use Rattle.store_changes.specs.Importing.{IsImporting}

-- Since the stores were such, at that moment, these records were made of the entries that were added, and the round carries those that come behind them; and no more files and folders are counted than entries were added.
pub record HasAdded (base : Stores) (from : ℕ) (made : List (List ℕ)) (a : Additions) : Type 0 where
  pub importing : IsImporting base from made (Carries a.round) a.opened.stores a.opened.last.0
  pub counted : a.files + a.folders ≤ length importing.requests

-- whatever was added since any stores, it goes on
abbrev pub AddsOn : Additions → Additions → Type 0
AddsOn a a' = (base : Stores) (from : ℕ) (made : List (List ℕ)) → HasAdded base from made a → HasAdded base from made a'

-- the records stand for these stores, but for locks that have expired at the moment, which is no earlier than their last one
abbrev pub StandsButLocks : Header → List (List ℕ) → Stores → ℕ → Type 0
StandsButLocks h records s now = (t : Stores) × (last : ℕ) × StandFor h records t last × SameLiveStores now s t × (last ≤ now)

-- how many files and folders are told
abbrev pub count_of : Counts → ℕ
count_of c = c.files + c.folders

-- how many are told to be left out
abbrev pub left_out_of : Counts → ℕ
left_out_of c = c.left_out

module _ {D B : Type 0} (seen : D → List ℕ) (may_leave : D → List ℕ → Type 0) (is_clean : D → Bool) where
  -- The journal is settled with these records, and behind them those that were made of entries that were added; the round carries the others.
  pub record IsImportingInto (j : Journal D B) (records : List (List ℕ)) (base : Stores) (from : ℕ) (a : Additions) : Type 0 where
    pub made : List (List ℕ)
    pub settled : IsSettled seen may_leave is_clean j (records ++ made)
    pub added : HasAdded base from made a

  -- The journal is settled with these records, and behind them at least so many that were made of entries; and where the first stand for those stores, all stand for these.
  pub record IsImportedInto (j : Journal D B) (records : List (List ℕ)) (base : Stores) (from : ℕ) (s : Stores) (last count : ℕ) : Type 0 where
    pub made : List (List ℕ)
    pub settled : IsSettled seen may_leave is_clean j (records ++ made)
    pub counted : count ≤ length made
    pub stand : (h : Header) → StandFor h records base from → StandsButLocks h (records ++ made) s last

  -- an import into a journal goes on
  abbrev pub ImportsOn : Journal D B → Additions → Journal D B → Additions → Type 0
  ImportsOn j a j' a' = (records : List (List ℕ)) (base : Stores) (from : ℕ) → IsImportingInto j records base from a → IsImportingInto j' records base from a'

  -- an import into a journal has ended: its round has no record, and what is told is in the journal, which stands for the stores as they are
  abbrev pub EndsImport : Journal D B → Additions → Journal D B → Additions → Counts → Type 0
  EndsImport j a j' a' c = Carries a'.round []
      × ((records : List (List ℕ)) (base : Stores) (from : ℕ) → IsImportingInto j records base from a → IsImportedInto j' records base from a'.opened.stores a'.opened.last.0 (count_of c))

  -- A file with these bytes and this header stood for records, and these for stores. The journal has so many records more at least, which were made of entries, and stands for the stores with these.
  pub record HoldsImport (file : List ℕ) (h : Header) (j : Journal D B) (count : ℕ) : Type 0 where
    pub records : List (List ℕ)
    pub base : Stores
    pub from : ℕ
    pub stores : Stores
    pub last : ℕ
    pub stood : StandsFor h file records
    pub stand : StandFor h records base from
    pub imported : IsImportedInto j records base from stores last count
