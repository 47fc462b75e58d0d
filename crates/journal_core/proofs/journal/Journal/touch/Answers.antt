-- A zero behind the gate, and a sync.
use Rattle.std.proofs.Common.{◌≡◌, ℕ, Bool, false, List, Result, subst}
use Rattle.std.specs.Prelude.{IfOk, OnOk, Some}
use Rattle.sqlite_disk.specs.Disk.{Only}
use Rattle.journal_core.specs.declared.error.JournalError.{JournalError}
use Rattle.journal_core.specs.declared.journal.Journal.{Journal}
use Rattle.journal_core.specs.Resting.{IsSettled, KnowsLength, disk_behind}
use Rattle.journal_core.proofs.Growing.{grown_crash, grown_moments, grown_settled, grown_steps}
use Rattle.journal_core.proofs.journal.Journal.touch.Goals as goal

-- nothing is written meanwhile that is shut
module _ {D B : Type 0} (seen : D → List ℕ) (may_leave : D → List ℕ → Type 0) (is_clean : D → Bool) (j : Journal D B) (records : List (List ℕ)) (it : IsSettled seen may_leave is_clean j records) where
  begun : IsSettled seen may_leave is_clean (record j { is_open = false }) records
  begun = record { rounds = it.rounds; lies = it.lies; same = it.same; at = it.at; durable = it.durable; knows = it.knows }

pub returns-in_err-_len-clause-any_moment : goal.returns-in_err-_len-clause-any_moment
returns-in_err-_len-clause-any_moment g c = λ records it.
    grown_moments g.D.Disk.seen g.D.Disk.may_leave g.D.Disk.is_clean g.D.Disk.faults c.args.note.now _ c.grow.new.self records (begun g.D.Disk.seen g.D.Disk.may_leave g.D.Disk.is_clean c.args.self.now records it) c.grow.ensures.grows

pub returns-in_err-_len-clause-crash : goal.returns-in_err-_len-clause-crash
returns-in_err-_len-clause-crash g c = λ records it.
    grown_crash g.D.Disk.seen g.D.Disk.may_leave g.D.Disk.is_clean g.D.Disk.faults c.args.note.now _ c.grow.new.self records (begun g.D.Disk.seen g.D.Disk.may_leave g.D.Disk.is_clean c.args.self.now records it) c.grow.ensures.grows

pub returns-in_err-_len-clause-steps : goal.returns-in_err-_len-clause-steps
returns-in_err-_len-clause-steps g c = λ records it.
    grown_steps g.D.Disk.seen g.D.Disk.may_leave g.D.Disk.is_clean g.D.Disk.faults c.args.note.now _ c.grow.new.self records (begun g.D.Disk.seen g.D.Disk.may_leave g.D.Disk.is_clean c.args.self.now records it) c.grow.ensures.grows

pub returns-clause-stays : goal.returns-clause-stays
returns-clause-stays g c = λ records it.
    let seen = g.D.Disk.seen in
    let may_leave = g.D.Disk.may_leave in
    let is_clean = g.D.Disk.is_clean in
    let grew = c.in_ok-_len.was in
    let only = subst (λ (r : Result ℕ JournalError). OnOk r (Only (seen (disk_behind c.grow.new.self)) (may_leave (disk_behind c.grow.new.self)))) grew c.grow.ensures.durable in
    let knows = subst (λ (r : Result ℕ JournalError). IfOk r (λ n. (c.grow.new.self.len ≡ Some n) × KnowsLength seen is_clean c.grow.new.self)) grew c.grow.ensures.knows in
    let settled = grown_settled seen may_leave is_clean g.D.Disk.faults c.args.note.now _ c.grow.new.self records (begun seen may_leave is_clean c.args.self.now records it) c.grow.ensures.grows only knows.1 in
    record { rounds = settled.rounds; lies = settled.lies; same = settled.same; at = settled.at; durable = settled.durable; knows = settled.knows }

pub returns-clause-any_moment : goal.returns-clause-any_moment
returns-clause-any_moment g c = λ records it.
    grown_moments g.D.Disk.seen g.D.Disk.may_leave g.D.Disk.is_clean g.D.Disk.faults c.args.note.now _ c.grow.new.self records (begun g.D.Disk.seen g.D.Disk.may_leave g.D.Disk.is_clean c.args.self.now records it) c.grow.ensures.grows

pub returns-clause-crash : goal.returns-clause-crash
returns-clause-crash g c = λ records it.
    grown_crash g.D.Disk.seen g.D.Disk.may_leave g.D.Disk.is_clean g.D.Disk.faults c.args.note.now _ c.grow.new.self records (begun g.D.Disk.seen g.D.Disk.may_leave g.D.Disk.is_clean c.args.self.now records it) c.grow.ensures.grows

pub returns-clause-steps : goal.returns-clause-steps
returns-clause-steps g c = λ records it.
    grown_steps g.D.Disk.seen g.D.Disk.may_leave g.D.Disk.is_clean g.D.Disk.faults c.args.note.now _ c.grow.new.self records (begun g.D.Disk.seen g.D.Disk.may_leave g.D.Disk.is_clean c.args.self.now records it) c.grow.ensures.grows
