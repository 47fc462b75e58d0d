-- The stores that the records of a journal stand for, one behind another (own).
use Rattle.std.specs.Prelude.{◌≡◌, ◌≤◌, ℕ, zero, suc, List, [], ◌∷◌, Ok}
use Rattle.journal_core.specs.declared.header.Header.{Header}
use Rattle.dav_guarded_core.specs.Stores.{Stores, start_stores}
use Rattle.dav_notes_core.specs.Noting.{Noted}
use Rattle.dav_notes_core.specs.PlayedNotes.{NotesPlayed}
use Rattle.dav_effects_core.specs.Records.{IsRecord}
use Rattle.dav_snapshots_core.specs.SnapshotReading.{snapshot_at}

-- the moment of the last of these notes, or the one before them
abbrev pub last_moment_of : ℕ → List Noted → ℕ
last_moment_of before [] = before
last_moment_of before (n ∷ ns) = last_moment_of n.request.now ns

-- none of these notes is of a moment before that of the one in front of it
abbrev pub NeverBack : ℕ → List Noted → Type 0
NeverBack before [] = Unit {0}
NeverBack before (n ∷ ns) = (before ≤ n.request.now) × NeverBack n.request.now ns

-- From stores and a last moment to others: the bytes are the record of notes that are played there.
pub record Keeps (s : Stores) (last : ℕ) (bytes : List ℕ) (s' : Stores) (last' : ℕ) : Type 0 where
  pub notes : List Noted
  pub written : IsRecord notes bytes
  pub ordered : NeverBack last notes
  pub played : NotesPlayed s notes s'
  pub last_is : last' ≡ last_moment_of last notes

-- one record behind another
abbrev pub KeepsAll : Stores → ℕ → List (List ℕ) → Stores → ℕ → Type 0
KeepsAll s last [] s' last' = (s' ≡ s) × (last' ≡ last)
KeepsAll s last (bytes ∷ records) s' last' = (mid : Stores) × (between : ℕ) × Keeps s last bytes mid between × KeepsAll mid between records s' last'

-- The same by the generation and the moment of a header. In generation 0 the records go on from a root folder alone, at that moment; in each later one the first record is a snapshot, and the others go on from its stores and its moment.
abbrev pub StandByGeneration : ℕ → ℕ → List (List ℕ) → Stores → ℕ → Type 0
StandByGeneration zero began records s last = KeepsAll (start_stores began) began records s last
StandByGeneration (suc generation) began [] s last = ⊥
StandByGeneration (suc generation) began (bytes ∷ records) s last = (base : Stores) × (moment : ℕ) × (snapshot_at bytes ≡ Ok (base, moment)) × KeepsAll base moment records s last

-- the records of a journal with this header stand for these stores and this last moment
abbrev pub StandFor : Header → List (List ℕ) → Stores → ℕ → Type 0
StandFor h = StandByGeneration h.generation h.began

-- some records stand for these stores and this last moment
abbrev pub HaveRecords : Stores → ℕ → Type 0
HaveRecords s last = (h : Header) × (records : List (List ℕ)) × StandFor h records s last

-- each is the record of these notes, one of each request
abbrev pub AreRecords : List (List Noted) → List (List ℕ) → Type 0
AreRecords [] [] = Unit {0}
AreRecords (ns ∷ requests) (bytes ∷ records) = IsRecord ns bytes × AreRecords requests records
AreRecords _ _ = ⊥
