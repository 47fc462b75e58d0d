-- What is written behind a gate that is shut, piece by piece.
use Rattle.std.specs.Prelude.{◌≡◌, ◌⊎◌, ℕ, ◌<◌, ◌≤◌, List, [], ◌++◌, length, take, slice_index, Result}
use Rattle.std.specs.List.{flat_map}
use Rattle.sqlite_disk.specs.Disk.{Torn, Only, CountsFault}
use Rattle.sqlite_disk.specs.Tally.{CountsRefusal}
use Rattle.sqlite_disk.specs.declared.tally.Tally.{Tally}
use Rattle.std.specs.declared.io.Error.{Error}
use Rattle.journal_core.specs.declared.clocked.Clocked.{Clocked}
use Rattle.journal_core.specs.declared.round.Part.{Part}
use Rattle.journal_core.specs.declared.round.Round.{Round}
use Rattle.journal_core.specs.declared.batch.Batch.{Batch}
use Rattle.journal_core.specs.declared.header.Header.{Header}
use Rattle.journal_core.specs.Clocked.{disk_of, EachLeaves, GoesAs}
use Rattle.journal_core.specs.Format.{Lies, open_word, round_text}

abbrev pub bytes_of_part : Part → List ℕ
bytes_of_part p = p.own.items ++ p.body

abbrev pub parts_text : List Part → List ℕ
parts_text parts = flat_map bytes_of_part parts

-- the bytes of a round, without its length and sum
abbrev pub round_bytes : Round → List ℕ
round_bytes r = parts_text r.parts.items ++ r.tail.items

-- the tail may have grown, and nothing else changed
abbrev pub JoinsTail : Round → Round → Type 0
JoinsTail old new = (new.parts.items ≡ old.parts.items) × (take (length old.tail.items) new.tail.items ≡ old.tail.items)

-- one round more stands behind those that were there: the first of all, or one whose gate is open
abbrev pub JoinsRound : ℕ → List ℕ → Batch → Batch → Type 0
JoinsRound place bytes old new =
    ((old.text.items ≡ []) × (new.text.items ≡ round_text old.key place bytes))
    ⊎ ((0 < length old.text.items) × (new.text.items ≡ old.text.items ++ (open_word ++ round_text old.key place bytes)))

-- what a write of n bytes at `at` makes of one of these
abbrev pub Wrote : ℕ → ℕ → (List ℕ → Type 0) → List ℕ → Type 0
Wrote at n outcomes c = (d : List ℕ) × outcomes d × Torn at n d c

abbrev pub BeginsWith : List ℕ → List ℕ → Type 0
BeginsWith front c = (behind : List ℕ) × (c ≡ front ++ behind)

-- whatever a crash leaves begins so
abbrev pub AllBegin : List ℕ → (List ℕ → Type 0) → Type 0
AllBegin front outcomes = (c : List ℕ) → outcomes c → BeginsWith front c

-- what stands below this place stays, and the file grows no shorter
pub record KeepsBelow (place : ℕ) (file file' : List ℕ) : Type 0 where
  pub longer : length file ≤ length file'
  pub begins : (front : List ℕ) → length front ≤ place → BeginsWith front file → BeginsWith front file'

-- one change, from the one to the other
abbrev pub ChangesOnce : List ℕ → List ℕ → List ℕ → List ℕ → Type 0
ChangesOnce old new file file' = ((file ≡ old) × (file' ≡ new)) ⊎ (file' ≡ file)

-- Calls that write nothing below this place: what a crash leaves, at each moment and behind them, begins as before, and so does what is seen.
pub record WritesBehind {D B : Type 0} (seen : D → List ℕ) (may_leave : D → List ℕ → Type 0) (note : B) (place : ℕ) (old new : Clocked D B) : Type 0 where
  pub crash : (front : List ℕ) → length front ≤ place → AllBegin front (may_leave (disk_of old)) → AllBegin front (may_leave (disk_of new))
  pub any_moment : (front : List ℕ) → length front ≤ place → AllBegin front (may_leave (disk_of old)) → EachLeaves may_leave note (BeginsWith front) old new
  pub moments : GoesAs (KeepsBelow place) seen old new

-- a call of the disk, or several of which the last may have failed
pub record IsCounted {T : Type 0} (result : Result T Error) (before after : ℕ) (tally tally' : Tally) : Type 0 where
  pub faults : CountsFault result before after
  pub refused : CountsRefusal result tally tally'

-- ---- a new file

-- a zero byte, and no more than a header with its gate
pub record HasZeroFirst (file : List ℕ) : Type 0 where
  pub some : 0 < length file
  pub zero : slice_index file 0 ≡ 0
  pub short : length file ≤ 64

-- the file has this header and no round, and all of it is on the disk
pub record IsMade {D : Type 0} (seen : D → List ℕ) (may_leave : D → List ℕ → Type 0) (h : Header) (disk : D) : Type 0 where
  pub lies : Lies h (seen disk) []
  pub durable : Only (seen disk) (may_leave disk)
