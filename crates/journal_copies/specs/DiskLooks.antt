-- What a look at a file on a disk leaves as it was.
use Rattle.std.specs.Prelude.{◌≡◌, ℕ, ◌≤◌, Bool, List, length, IsTrue}
use Rattle.journal_core.specs.declared.clocked.Clocked.{Clocked}
use Rattle.journal_core.specs.Clocked.{EachLeaves, disk_of}
use Rattle.journal_copies.specs.declared.looking.Looking.{Looking}

abbrev pub disk_looked_at : {D B : Type 0} → Looking D B → Clocked D B
disk_looked_at l = l.disk

abbrev pub disk_in : {D B : Type 0} → Looking D B → D
disk_in l = disk_of l.disk

-- it stands at this place of a file that holds these bytes
abbrev pub LooksAt : {D B : Type 0} → (D → List ℕ) → (D → Bool) → Looking D B → List ℕ → ℕ → Type 0
LooksAt seen is_clean l file at = (seen (disk_in l) ≡ file) × (l.at ≡ at) × (IsTrue (is_clean (disk_in l)) → at ≤ length file)

-- the file is the same, and a crash leaves no more than before, at each moment between
pub record LooksOnDisk {D B : Type 0} (seen : D → List ℕ) (may_leave : D → List ℕ → Type 0) (is_clean : D → Bool) (faults : D → ℕ) (note : B) (old new : Looking D B) : Type 0 where
  pub same : seen (disk_in new) ≡ seen (disk_in old)
  pub crash : (c : List ℕ) → may_leave (disk_in new) c → may_leave (disk_in old) c
  pub any_moment : EachLeaves may_leave note (may_leave (disk_in old)) (disk_looked_at old) (disk_looked_at new)
  pub clean : IsTrue (is_clean (disk_in new)) → IsTrue (is_clean (disk_in old))
  pub faults_grow : faults (disk_in old) ≤ faults (disk_in new)
