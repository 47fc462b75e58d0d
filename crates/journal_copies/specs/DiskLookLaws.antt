-- Looks, one after another.
use Rattle.std.proofs.Common.{ℕ, Bool, List, refl, ◌∙◌, arith}
use Rattle.sqlite_disk.specs.Disk.{MoreFaults}
use Rattle.journal_core.specs.Clocked.{CrashLeaves}
use Rattle.journal_core.proofs.MomentLaws.{none, joined, leaves_weaker}
use Rattle.journal_copies.specs.declared.looking.Looking.{Looking}
use Rattle.journal_copies.specs.DiskLooks.{LooksOnDisk, disk_in, disk_looked_at}

module _ {D B : Type 0} (seen : D → List ℕ) (may_leave : D → List ℕ → Type 0) (is_clean : D → Bool) (faults : D → ℕ) where
  pub looks_not : (note : B) (l : Looking D B) → LooksOnDisk seen may_leave is_clean faults note l l
  looks_not note l = record {
    same = refl;
    crash = λ c left. left;
    any_moment = none (CrashLeaves may_leave note (may_leave (disk_in l))) (disk_looked_at l);
    clean = λ clean. clean;
    faults_grow = omega arith;
  }

  pub looks_on : (note : B) (a b c : Looking D B) → LooksOnDisk seen may_leave is_clean faults note a b → LooksOnDisk seen may_leave is_clean faults note b c → LooksOnDisk seen may_leave is_clean faults note a c
  looks_on note a b c first second = record {
    same = second.same ∙ first.same;
    crash = λ f left. first.crash f (second.crash f left);
    any_moment = joined (CrashLeaves may_leave note (may_leave (disk_in a))) (disk_looked_at a) (disk_looked_at b) (disk_looked_at c) first.any_moment
        (leaves_weaker may_leave note (may_leave (disk_in b)) (may_leave (disk_in a)) first.crash (disk_looked_at b) (disk_looked_at c) second.any_moment);
    clean = λ clean. first.clean (second.clean clean);
    faults_grow = omega (arith, first.faults_grow, second.faults_grow);
  }

  pub fails_later : (note : B) (a b c : Looking D B) → LooksOnDisk seen may_leave is_clean faults note a b → MoreFaults (faults (disk_in b)) (faults (disk_in c)) → MoreFaults (faults (disk_in a)) (faults (disk_in c))
  fails_later note a b c first more = omega (arith, first.faults_grow, more)
