-- What becomes of a copy that is adopted (own).
use Rattle.std.specs.Prelude.{◌≡◌, ℕ, List}
use Rattle.sqlite_disk.specs.Disk.{Only, Torn}
use Rattle.journal_core.specs.declared.header.Header.{Header}
use Rattle.journal_core.specs.Format.{Laid, Lies}
use Rattle.journal_core.specs.LiveCopies.{gate_behind}
use Rattle.journal_copies.specs.declared.looking.Looking.{Looking}
use Rattle.journal_copies.specs.Broken.{IsBroken}
use Rattle.journal_copies.specs.DiskLooks.{disk_in}

-- The file was broken at this gate, behind some rounds. Now it has these, and no others, and all of it is on its disk; but for the eight bytes of the gate it is as it was.
pub record IsAdopted {D B : Type 0} (seen : D → List ℕ) (may_leave : D → List ℕ → Type 0) (place : ℕ) (old new : Looking D B) : Type 0 where
  pub header : Header
  pub rounds : List Laid
  pub broken : IsBroken header (seen (disk_in old)) rounds
  pub there : place ≡ gate_behind header rounds
  pub lies : Lies header (seen (disk_in new)) rounds
  pub durable : Only (seen (disk_in new)) (may_leave (disk_in new))
  pub others : Torn place 8 (seen (disk_in old)) (seen (disk_in new))
