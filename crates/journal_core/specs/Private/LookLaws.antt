-- Looks, one after another.
use Rattle.std.proofs.Common.{ℕ, Bool, List, refl, ◌∙◌, arith}
use Rattle.sqlite_disk.specs.Disk.{MoreFaults}
use Rattle.journal_core.specs.declared.journal.Journal.{Journal}
use Rattle.journal_core.specs.Clocked.{CrashLeaves, SeesSame}
use Rattle.journal_core.specs.Resting.{clocked_of, disk_behind}
use Rattle.journal_core.specs.Private.Looks.{LooksOn}
use Rattle.journal_core.specs.Private.DiskMoments.{none, joined, leaves_weaker, goes_not, goes_two}

module _ {D B : Type 0} (seen : D → List ℕ) (may_leave : D → List ℕ → Type 0) (is_clean : D → Bool) (faults : D → ℕ) where
  pub looks_not : (note : B) (j : Journal D B) → LooksOn seen may_leave is_clean faults note j j
  looks_not note j = record {
    same = refl;
    crash = λ c left. left;
    any_moment = none (CrashLeaves may_leave note (may_leave (disk_behind j))) (clocked_of j);
    moments = goes_not SeesSame seen (clocked_of j);
    clean = λ clean. clean;
    faults_grow = omega arith;
    opens = refl;
    knows = λ it. it;
  }

  pub looks_on : (note : B) (a b c : Journal D B) → LooksOn seen may_leave is_clean faults note a b → LooksOn seen may_leave is_clean faults note b c → LooksOn seen may_leave is_clean faults note a c
  looks_on note a b c first second = record {
    same = second.same ∙ first.same;
    crash = λ f left. first.crash f (second.crash f left);
    any_moment = joined (CrashLeaves may_leave note (may_leave (disk_behind a))) (clocked_of a) (clocked_of b) (clocked_of c) first.any_moment
        (leaves_weaker may_leave note (may_leave (disk_behind b)) (may_leave (disk_behind a)) first.crash (clocked_of b) (clocked_of c) second.any_moment);
    moments = goes_two SeesSame seen (clocked_of a) (clocked_of b) (clocked_of c) first.moments second.moments;
    clean = λ clean. first.clean (second.clean clean);
    faults_grow = omega (arith, first.faults_grow, second.faults_grow);
    opens = second.opens ∙ first.opens;
    knows = λ it. second.knows (first.knows it);
  }

  pub fails_later : (note : B) (a b c : Journal D B) → LooksOn seen may_leave is_clean faults note a b → MoreFaults (faults (disk_behind b)) (faults (disk_behind c)) → MoreFaults (faults (disk_behind a)) (faults (disk_behind c))
  fails_later note a b c first more = omega (arith, first.faults_grow, more)
