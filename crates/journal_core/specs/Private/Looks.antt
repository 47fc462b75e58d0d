-- What a look at a file leaves as it was.
use Rattle.std.specs.Prelude.{◌≡◌, ℕ, ◌+◌, ◌≤◌, Bool, List, length, IsTrue}
use Rattle.journal_core.specs.declared.journal.Journal.{Journal}
use Rattle.journal_core.specs.Clocked.{EachLeaves, GoesAs, SeesSame}
use Rattle.journal_core.specs.Resting.{KnowsLength, clocked_of, disk_behind}
use Rattle.journal_core.specs.Private.Stages.{BeginsWith, WritesBehind}

-- the file is the same, and a crash leaves no more than before, at each moment between
pub record LooksOn {D B : Type 0} (seen : D → List ℕ) (may_leave : D → List ℕ → Type 0) (is_clean : D → Bool) (faults : D → ℕ) (note : B) (old new : Journal D B) : Type 0 where
  pub same : seen (disk_behind new) ≡ seen (disk_behind old)
  pub crash : (c : List ℕ) → may_leave (disk_behind new) c → may_leave (disk_behind old) c
  pub any_moment : EachLeaves may_leave note (may_leave (disk_behind old)) (clocked_of old) (clocked_of new)
  pub moments : GoesAs SeesSame seen (clocked_of old) (clocked_of new)
  pub clean : IsTrue (is_clean (disk_behind new)) → IsTrue (is_clean (disk_behind old))
  pub faults_grow : faults (disk_behind old) ≤ faults (disk_behind new)
  pub opens : new.is_open ≡ old.is_open
  pub knows : KnowsLength seen is_clean old → KnowsLength seen is_clean new

-- it stands where it stood
pub record SameButDisk {D B : Type 0} (old new : Journal D B) : Type 0 where
  pub at : new.at ≡ old.at
  pub header : new.header ≡ old.header
  pub opens : new.is_open ≡ old.is_open

-- it stands where it stood, and nothing is written up to the end of its gate
pub record Grows {D B : Type 0} (seen : D → List ℕ) (may_leave : D → List ℕ → Type 0) (note : B) (old new : Journal D B) : Type 0 where
  pub stays : SameButDisk old new
  pub begins : (front : List ℕ) → length front ≤ old.at + 8 → BeginsWith front (seen (disk_behind old)) → BeginsWith front (seen (disk_behind new))
  pub behind : WritesBehind seen may_leave note (old.at + 8) (clocked_of old) (clocked_of new)
