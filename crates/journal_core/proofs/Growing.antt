-- Looks at the length, and zeros behind the gate, one after another.
use Rattle.std.proofs.Common.{refl, ℕ, ◌+◌, ◌≤◌, List, [], ◌∷◌, ap, sym, ◌∙◌, subst, length, Bool, arith}
use Rattle.journal_core.specs.declared.journal.Journal.{Journal}
use Rattle.sqlite_disk.specs.Disk.{Only}
use Rattle.journal_core.specs.Clocked.{EachLeaves, MomentsLead, SeesSame}
use Rattle.journal_core.specs.Format.{StandsFor}
use Rattle.journal_core.specs.LiveCopies.{GoesBySteps}
use Rattle.journal_core.specs.Resting.{IsSettled, KnowsLength, clocked_of, disk_behind}
use Rattle.journal_core.specs.Private.DiskMoments.{goes_weaker, leaves_weaker}
use Rattle.journal_core.specs.Private.Looks.{Grows, LooksOn, SameButDisk}
use Rattle.journal_core.specs.Private.Stages.{BeginsWith, KeepsBelow, WritesBehind}
use Rattle.journal_core.proofs.Crash.{all_begun, at_behind, begun, goes_behind, rests, stands_still, to_gate}
use Rattle.journal_core.proofs.Staging.{behind_two, keeps_same}

module _ {D B : Type 0} (seen : D → List ℕ) (may_leave : D → List ℕ → Type 0) (is_clean : D → Bool) (faults : D → ℕ) (note : B) where
  -- a look writes nothing
  pub look_behind : (place : ℕ) (old new : Journal D B) → LooksOn seen may_leave is_clean faults note old new → WritesBehind seen may_leave note place (clocked_of old) (clocked_of new)
  look_behind place old new look = record {
    crash = λ front low all c left. all c (look.crash c left);
    any_moment = λ front low all. leaves_weaker may_leave note (may_leave (disk_behind old)) (BeginsWith front) all (clocked_of old) (clocked_of new) look.any_moment;
    moments = goes_weaker SeesSame seen (KeepsBelow place) (keeps_same place) (clocked_of old) (clocked_of new) look.moments;
  }

  pub look_grows : (old new : Journal D B) → SameButDisk old new → LooksOn seen may_leave is_clean faults note old new → Grows seen may_leave note old new
  look_grows old new stays look = record {
    stays = stays;
    begins = λ front low it. subst (λ (f : List ℕ). BeginsWith front f) (sym look.same) it;
    behind = look_behind (old.at + 8) old new look;
  }

  pub grows_on : (a b c : Journal D B) → Grows seen may_leave note a b → Grows seen may_leave note b c → Grows seen may_leave note a c
  grows_on a b c first second = record {
    stays = record { at = second.stays.at ∙ first.stays.at; header = second.stays.header ∙ first.stays.header; opens = second.stays.opens ∙ first.stays.opens };
    begins = λ front low it. second.begins front (subst (λ n. length front ≤ n + 8) (sym first.stays.at) low) (first.begins front low it);
    behind = behind_two seen may_leave note (a.at + 8) (clocked_of a) (clocked_of b) (clocked_of c) first.behind
        (subst (λ n. WritesBehind seen may_leave note (n + 8) (clocked_of b) (clocked_of c)) first.stays.at second.behind);
  }

  -- from moment to moment the file grows no shorter
  longer_on : (place : ℕ) (file end : List ℕ) (more : List (D × B)) → MomentsLead (KeepsBelow place) seen file more end → length file ≤ length end
  longer_on place file end [] same = omega (arith, ap (λ (l : List ℕ). length l) same)
  longer_on place file end (m ∷ more) leads = omega (arith, leads.0.longer, longer_on place (seen m.0) end more leads.1)

  pub grown_longer : (j k : Journal D B) → Grows seen may_leave note j k → length (seen (disk_behind j)) ≤ length (seen (disk_behind k))
  grown_longer j k grows = longer_on (j.at + 8) (seen (disk_behind j)) (seen (disk_behind k)) grows.behind.moments.0 grows.behind.moments.2

  -- of a journal that is at rest
  module _ (j k : Journal D B) (records : List (List ℕ)) (it : IsSettled seen may_leave is_clean j records) (grows : Grows seen may_leave note j k) where
    abbrev front : List ℕ
    front = to_gate seen may_leave is_clean j records it

    low : length front ≤ j.at + 8
    low = omega (arith, at_behind seen may_leave is_clean j records it)

    pub grown_moments : EachLeaves may_leave note (λ c. StandsFor j.header c records) (clocked_of j) (clocked_of k)
    grown_moments = leaves_weaker may_leave note (BeginsWith front) (λ c. StandsFor j.header c records) (stands_still seen may_leave is_clean j records it) (clocked_of j) (clocked_of k)
        (grows.behind.any_moment front low (all_begun seen may_leave is_clean j records it))

    pub grown_crash : (c : List ℕ) → may_leave (disk_behind k) c → StandsFor j.header c records
    grown_crash c left = stands_still seen may_leave is_clean j records it c (grows.behind.crash front low (all_begun seen may_leave is_clean j records it) c left)

    pub grown_steps : GoesBySteps seen j.header (clocked_of j) (clocked_of k)
    grown_steps = goes_behind seen may_leave is_clean j records it (clocked_of j) (clocked_of k) refl grows.behind.moments

    pub grown_settled : Only (seen (disk_behind k)) (may_leave (disk_behind k)) → KnowsLength seen is_clean k → IsSettled seen may_leave is_clean k records
    grown_settled only knows = rests seen may_leave is_clean j records it k (grows.begins front low (begun seen may_leave is_clean j records it)) only grows.stays.header grows.stays.at knows
