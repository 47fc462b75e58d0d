-- A look at the length, and then the file grows where it is too short.
use Rattle.std.proofs.Common.{IsTrue, ap, Bool, leb, length, max, List, Option, ◌+◌, is_some, ◌≡◌, ◌≤◌, ℕ, true, Ok, Result, inl, refl, sym, subst, ◌∙◌, false, arith}
use Rattle.std.proofs.lemmas.Bool.{false≢true}
use Rattle.std.proofs.lemmas.Result.{IfOk-at_ok, IfOk-from_err}
use Rattle.std.specs.Prelude.{IfOk, OnOk, Some}
use Rattle.sqlite_disk.specs.Disk.{Only}
use Rattle.journal_core.specs.declared.error.JournalError.{JournalError}
use Rattle.journal_core.specs.declared.journal.Journal.{Journal}
use Rattle.journal_core.specs.Resting.{IsSettled, KnowsLength, disk_behind}
use Rattle.journal_core.specs.Private.Looks.{Grows}
use Rattle.journal_core.specs.Private.DiskMoments.{goes_not, none}
use Rattle.journal_core.specs.Clocked.{CrashLeaves}
use Rattle.journal_core.specs.Format.{StandsFor}
use Rattle.journal_core.specs.LiveCopies.{MayStep}
use Rattle.journal_core.specs.MadeRoom.{made_room, spare_room}
use Rattle.journal_core.specs.declared.error.JournalError.TheVariants.{NotOpen}
use Rattle.journal_core.proofs.Causes.{room_cause_of, some_at}
use borrow.Author.Tests.{leb-true}
use Rattle.journal_core.proofs.Exits.{at_exit, err_not_ok, exit_not_ok, false_not_true, mapped_ok, on_err}
use Rattle.journal_core.proofs.Settling.{left_at_rest}
use Rattle.journal_core.proofs.Growing.{grown_crash, grown_longer, grown_moments, grown_settled, grown_steps, grows_on, look_grows}
use Rattle.journal_core.proofs.journal.Journal.make_room_for.Goals as goal
use Rattle.journal_core.proofs.journal.Journal.make_room_for.Goals.{then-len-wanted+in_ok-len-2, else-len-wanted}

is_enough : (wanted len : ℕ) → ◌≡◌ {A = Result Bool JournalError} (Ok (leb wanted len)) (Ok true) → wanted ≤ len
is_enough wanted len is =
    let inner : leb wanted len ≡ true = cc in
    leb-true wanted len inner

-- no more is made than is asked for, or is spare
grown_most : {D B : Type 0} (seen : D → List ℕ) (j k l : Journal D B) (bytes : ℕ) (free : Option ℕ) (spare room : ℕ) → seen (disk_behind k) ≡ seen (disk_behind j) → k.at ≡ j.at → spare ≡ spare_room k.at free → room ≡ max bytes spare
    → length (seen (disk_behind l)) ≤ max (length (seen (disk_behind k))) (k.at + 32 + room) → length (seen (disk_behind l)) ≤ max (length (seen (disk_behind j))) (j.at + (32 + made_room j.at free bytes))
grown_most seen j k l bytes free spare room same gate is most within =
    let so = most ∙ ap (max bytes) (is ∙ ap (λ (n : ℕ). spare_room n free) gate) in
    omega (arith, ap (λ (l : List ℕ). length l) same, gate, so, within)

pub returns-in_err-len-clause-steps : goal.returns-in_err-len-clause-steps
returns-in_err-len-clause-steps g c = λ records it.
    let seen = g.D.Disk.seen in
    let may_leave = g.D.Disk.may_leave in
    let is_clean = g.D.Disk.is_clean in
    let faults = g.D.Disk.faults in
    let note = c.args.note.now in
    let j : Journal g.row.D.Denot g.row.B.Denot = record c.args.self.now { is_open = false } in
    let rest : IsSettled seen may_leave is_clean j records = record { rounds = it.rounds; lies = it.lies; same = it.same; at = it.at; durable = it.durable; knows = it.knows } in
    let k = c.measure.new.self in
    let looked : Grows seen may_leave note j k = look_grows seen may_leave is_clean faults note j k c.measure.ensures.same c.measure.ensures.looks in
    grown_steps seen may_leave is_clean faults note j k records rest looked

pub returns-in_err-len-2-clause-any_moment : goal.returns-in_err-len-2-clause-any_moment
returns-in_err-len-2-clause-any_moment g c = λ records it.
    let seen = g.D.Disk.seen in
    let may_leave = g.D.Disk.may_leave in
    let is_clean = g.D.Disk.is_clean in
    let faults = g.D.Disk.faults in
    let note = c.args.note.now in
    let j : Journal g.row.D.Denot g.row.B.Denot = record c.args.self.now { is_open = false } in
    let rest : IsSettled seen may_leave is_clean j records = record { rounds = it.rounds; lies = it.lies; same = it.same; at = it.at; durable = it.durable; knows = it.knows } in
    let k = c.measure.new.self in
    let looked : Grows seen may_leave note j k = look_grows seen may_leave is_clean faults note j k c.measure.ensures.same c.measure.ensures.looks in
    let grown = grows_on seen may_leave is_clean faults note j k c.grow.new.self looked c.grow.ensures.grows in
    grown_moments seen may_leave is_clean faults note j c.grow.new.self records rest grown

pub returns-in_err-len-2-clause-crash : goal.returns-in_err-len-2-clause-crash
returns-in_err-len-2-clause-crash g c = λ records it.
    let seen = g.D.Disk.seen in
    let may_leave = g.D.Disk.may_leave in
    let is_clean = g.D.Disk.is_clean in
    let faults = g.D.Disk.faults in
    let note = c.args.note.now in
    let j : Journal g.row.D.Denot g.row.B.Denot = record c.args.self.now { is_open = false } in
    let rest : IsSettled seen may_leave is_clean j records = record { rounds = it.rounds; lies = it.lies; same = it.same; at = it.at; durable = it.durable; knows = it.knows } in
    let k = c.measure.new.self in
    let looked : Grows seen may_leave note j k = look_grows seen may_leave is_clean faults note j k c.measure.ensures.same c.measure.ensures.looks in
    let grown = grows_on seen may_leave is_clean faults note j k c.grow.new.self looked c.grow.ensures.grows in
    grown_crash seen may_leave is_clean faults note j c.grow.new.self records rest grown

pub returns-in_err-len-2-clause-steps : goal.returns-in_err-len-2-clause-steps
returns-in_err-len-2-clause-steps g c = λ records it.
    let seen = g.D.Disk.seen in
    let may_leave = g.D.Disk.may_leave in
    let is_clean = g.D.Disk.is_clean in
    let faults = g.D.Disk.faults in
    let note = c.args.note.now in
    let j : Journal g.row.D.Denot g.row.B.Denot = record c.args.self.now { is_open = false } in
    let rest : IsSettled seen may_leave is_clean j records = record { rounds = it.rounds; lies = it.lies; same = it.same; at = it.at; durable = it.durable; knows = it.knows } in
    let k = c.measure.new.self in
    let looked : Grows seen may_leave note j k = look_grows seen may_leave is_clean faults note j k c.measure.ensures.same c.measure.ensures.looks in
    let grown = grows_on seen may_leave is_clean faults note j k c.grow.new.self looked c.grow.ensures.grows in
    grown_steps seen may_leave is_clean faults note j c.grow.new.self records rest grown

pub returns-clause-any_moment : goal.returns-clause-any_moment
returns-clause-any_moment g c = λ records it.
    let seen = g.D.Disk.seen in
    let may_leave = g.D.Disk.may_leave in
    let is_clean = g.D.Disk.is_clean in
    let faults = g.D.Disk.faults in
    let note = c.args.note.now in
    let j : Journal g.row.D.Denot g.row.B.Denot = record c.args.self.now { is_open = false } in
    let rest : IsSettled seen may_leave is_clean j records = record { rounds = it.rounds; lies = it.lies; same = it.same; at = it.at; durable = it.durable; knows = it.knows } in
    let k = c.measure.new.self in
    let looked : Grows seen may_leave note j k = look_grows seen may_leave is_clean faults note j k c.measure.ensures.same c.measure.ensures.looks in
    let grown : Grows seen may_leave note j c.if-len-wanted.self = elim c.if-len-wanted.branch [
      | then-len-wanted+in_ok-len-2 w ↦ subst (λ k. Grows seen may_leave note j k) (sym w.self-is) (grows_on seen may_leave is_clean faults note j k w.grow.new.self looked w.grow.ensures.grows)
      | else-len-wanted w ↦ subst (λ k. Grows seen may_leave note j k) (sym w.self-is) looked
    ] in
    grown_moments seen may_leave is_clean faults note j c.if-len-wanted.self records rest grown

pub returns-clause-crash : goal.returns-clause-crash
returns-clause-crash g c = λ records it.
    let seen = g.D.Disk.seen in
    let may_leave = g.D.Disk.may_leave in
    let is_clean = g.D.Disk.is_clean in
    let faults = g.D.Disk.faults in
    let note = c.args.note.now in
    let j : Journal g.row.D.Denot g.row.B.Denot = record c.args.self.now { is_open = false } in
    let rest : IsSettled seen may_leave is_clean j records = record { rounds = it.rounds; lies = it.lies; same = it.same; at = it.at; durable = it.durable; knows = it.knows } in
    let k = c.measure.new.self in
    let looked : Grows seen may_leave note j k = look_grows seen may_leave is_clean faults note j k c.measure.ensures.same c.measure.ensures.looks in
    let grown : Grows seen may_leave note j c.if-len-wanted.self = elim c.if-len-wanted.branch [
      | then-len-wanted+in_ok-len-2 w ↦ subst (λ k. Grows seen may_leave note j k) (sym w.self-is) (grows_on seen may_leave is_clean faults note j k w.grow.new.self looked w.grow.ensures.grows)
      | else-len-wanted w ↦ subst (λ k. Grows seen may_leave note j k) (sym w.self-is) looked
    ] in
    grown_crash seen may_leave is_clean faults note j c.if-len-wanted.self records rest grown

pub returns-clause-steps : goal.returns-clause-steps
returns-clause-steps g c = λ records it.
    let seen = g.D.Disk.seen in
    let may_leave = g.D.Disk.may_leave in
    let is_clean = g.D.Disk.is_clean in
    let faults = g.D.Disk.faults in
    let note = c.args.note.now in
    let j : Journal g.row.D.Denot g.row.B.Denot = record c.args.self.now { is_open = false } in
    let rest : IsSettled seen may_leave is_clean j records = record { rounds = it.rounds; lies = it.lies; same = it.same; at = it.at; durable = it.durable; knows = it.knows } in
    let k = c.measure.new.self in
    let looked : Grows seen may_leave note j k = look_grows seen may_leave is_clean faults note j k c.measure.ensures.same c.measure.ensures.looks in
    let grown : Grows seen may_leave note j c.if-len-wanted.self = elim c.if-len-wanted.branch [
      | then-len-wanted+in_ok-len-2 w ↦ subst (λ k. Grows seen may_leave note j k) (sym w.self-is) (grows_on seen may_leave is_clean faults note j k w.grow.new.self looked w.grow.ensures.grows)
      | else-len-wanted w ↦ subst (λ k. Grows seen may_leave note j k) (sym w.self-is) looked
    ] in
    grown_steps seen may_leave is_clean faults note j c.if-len-wanted.self records rest grown

pub returns-clause-stays : goal.returns-clause-stays
returns-clause-stays g c = λ records it.
    let seen = g.D.Disk.seen in
    let may_leave = g.D.Disk.may_leave in
    let is_clean = g.D.Disk.is_clean in
    let faults = g.D.Disk.faults in
    let note = c.args.note.now in
    let j : Journal g.row.D.Denot g.row.B.Denot = record c.args.self.now { is_open = false } in
    let rest : IsSettled seen may_leave is_clean j records = record { rounds = it.rounds; lies = it.lies; same = it.same; at = it.at; durable = it.durable; knows = it.knows } in
    let k = c.measure.new.self in
    let looked : Grows seen may_leave note j k = look_grows seen may_leave is_clean faults note j k c.measure.ensures.same c.measure.ensures.looks in
    let grown : Grows seen may_leave note j c.if-len-wanted.self = elim c.if-len-wanted.branch [
      | then-len-wanted+in_ok-len-2 w ↦ subst (λ k. Grows seen may_leave note j k) (sym w.self-is) (grows_on seen may_leave is_clean faults note j k w.grow.new.self looked w.grow.ensures.grows)
      | else-len-wanted w ↦ subst (λ k. Grows seen may_leave note j k) (sym w.self-is) looked
    ] in
    let looks = c.measure.ensures.looks in
    let Rests : Journal g.row.D.Denot g.row.B.Denot → Type 0 = λ k. Only (seen (disk_behind k)) (may_leave (disk_behind k)) × KnowsLength seen is_clean k in
    let both : Rests c.if-len-wanted.self = elim c.if-len-wanted.branch [
      | then-len-wanted+in_ok-len-2 w ↦
          let grew = w.in_ok-len-2.was in
          let only = subst (λ (r : Result ℕ JournalError). OnOk r (Only (seen (disk_behind w.grow.new.self)) (may_leave (disk_behind w.grow.new.self)))) grew w.grow.ensures.durable in
          let knows = subst (λ (r : Result ℕ JournalError). IfOk r (λ n. (w.grow.new.self.len ≡ Some n) × KnowsLength seen is_clean w.grow.new.self)) grew w.grow.ensures.knows in
          subst Rests (sym w.self-is) (only, knows.1)
      | else-len-wanted w ↦ subst Rests (sym w.self-is) (λ f left. it.durable f (looks.crash f left) ∙ sym looks.same, looks.knows it.knows)
    ] in
    let settled = grown_settled seen may_leave is_clean faults note j c.if-len-wanted.self records rest grown both.0 both.1 in
    record { rounds = settled.rounds; lies = settled.lies; same = settled.same; at = settled.at; durable = settled.durable; knows = settled.knows }

pub returns-clause-longer : goal.returns-clause-longer
returns-clause-longer g c =
    let seen = g.D.Disk.seen in
    let may_leave = g.D.Disk.may_leave in
    let is_clean = g.D.Disk.is_clean in
    let faults = g.D.Disk.faults in
    let note = c.args.note.now in
    let j : Journal g.row.D.Denot g.row.B.Denot = record c.args.self.now { is_open = false } in
    let k = c.measure.new.self in
    let looked : Grows seen may_leave note j k = look_grows seen may_leave is_clean faults note j k c.measure.ensures.same c.measure.ensures.looks in
    let grown : Grows seen may_leave note j c.if-len-wanted.self = elim c.if-len-wanted.branch [
      | then-len-wanted+in_ok-len-2 w ↦ subst (λ k. Grows seen may_leave note j k) (sym w.self-is) (grows_on seen may_leave is_clean faults note j k w.grow.new.self looked w.grow.ensures.grows)
      | else-len-wanted w ↦ subst (λ k. Grows seen may_leave note j k) (sym w.self-is) looked
    ] in
    grown_longer seen may_leave is_clean faults note j c.if-len-wanted.self grown

pub returns-then-not-self-clause-any_moment : goal.returns-then-not-self-clause-any_moment
returns-then-not-self-clause-any_moment g c = λ records it. none (CrashLeaves g.D.Disk.may_leave c.args.note.now (λ f. StandsFor c.args.self.now.header f records)) c.args.self.now.disk

pub returns-then-not-self-clause-crash : goal.returns-then-not-self-clause-crash
returns-then-not-self-clause-crash g c = λ records it. left_at_rest g.D.Disk.seen g.D.Disk.may_leave g.D.Disk.is_clean c.args.self.now records it

pub returns-then-not-self-clause-header : goal.returns-then-not-self-clause-header
returns-then-not-self-clause-header g c = refl

pub returns-then-not-self-clause-stays : goal.returns-then-not-self-clause-stays
returns-then-not-self-clause-stays g c = tt

pub returns-then-not-self-clause-opens : goal.returns-then-not-self-clause-opens
returns-then-not-self-clause-opens g c = tt

pub returns-then-not-self-clause-longer : goal.returns-then-not-self-clause-longer
returns-then-not-self-clause-longer g c = tt

pub returns-then-not-self-clause-usable : goal.returns-then-not-self-clause-usable
returns-then-not-self-clause-usable g c = tt

pub returns-then-not-self-clause-not_open : goal.returns-then-not-self-clause-not_open
returns-then-not-self-clause-not_open g c = λ _. (refl, refl)

pub returns-then-not-self-clause-closes : goal.returns-then-not-self-clause-closes
returns-then-not-self-clause-closes g c = c.if-not-self.true

pub returns-then-not-self-clause-cause : goal.returns-then-not-self-clause-cause
returns-then-not-self-clause-cause g c = (tt, λ _. c.if-not-self.true)

pub returns-then-not-self-clause-room : goal.returns-then-not-self-clause-room
returns-then-not-self-clause-room g c = λ is. absurd (err_not_ok NotOpen true is)

pub returns-then-not-self-clause-full : goal.returns-then-not-self-clause-full
returns-then-not-self-clause-full g c = λ is. absurd (err_not_ok NotOpen false is)

pub returns-then-not-self-clause-known : goal.returns-then-not-self-clause-known
returns-then-not-self-clause-known g c = λ is. absurd (err_not_ok NotOpen true is)

pub returns-then-not-self-clause-steps : goal.returns-then-not-self-clause-steps
returns-then-not-self-clause-steps g c = λ records it. goes_not (MayStep c.args.self.now.header) g.D.Disk.seen c.args.self.now.disk

pub returns-then-not-self-clause-end : goal.returns-then-not-self-clause-end
returns-then-not-self-clause-end g c = refl

pub returns-then-not-self-clause-clean : goal.returns-then-not-self-clause-clean
returns-then-not-self-clause-clean g c = λ clean. clean

pub returns-then-is_too_large-clause-any_moment : goal.returns-then-is_too_large-clause-any_moment
returns-then-is_too_large-clause-any_moment g c = λ records it. none (CrashLeaves g.D.Disk.may_leave c.args.note.now (λ f. StandsFor c.args.self.now.header f records)) c.args.self.now.disk

pub returns-then-is_too_large-clause-crash : goal.returns-then-is_too_large-clause-crash
returns-then-is_too_large-clause-crash g c = λ records it. left_at_rest g.D.Disk.seen g.D.Disk.may_leave g.D.Disk.is_clean c.args.self.now records it

pub returns-then-is_too_large-clause-header : goal.returns-then-is_too_large-clause-header
returns-then-is_too_large-clause-header g c = refl

pub returns-then-is_too_large-clause-not_open : goal.returns-then-is_too_large-clause-not_open
returns-then-is_too_large-clause-not_open g c = λ closed. absurd (false≢true (sym closed ∙ c.if-not-self.false))

pub returns-then-is_too_large-clause-stays : goal.returns-then-is_too_large-clause-stays
returns-then-is_too_large-clause-stays g c = λ records it. it

pub returns-then-is_too_large-clause-opens : goal.returns-then-is_too_large-clause-opens
returns-then-is_too_large-clause-opens g c = refl

pub returns-then-is_too_large-clause-closes : goal.returns-then-is_too_large-clause-closes
returns-then-is_too_large-clause-closes g c = tt

pub returns-then-is_too_large-clause-cause : goal.returns-then-is_too_large-clause-cause
returns-then-is_too_large-clause-cause g c = tt

pub returns-then-is_too_large-clause-room : goal.returns-then-is_too_large-clause-room
returns-then-is_too_large-clause-room g c = λ is. absurd (false_not_true is)

pub returns-then-is_too_large-clause-known : goal.returns-then-is_too_large-clause-known
returns-then-is_too_large-clause-known g c = λ is. absurd (false_not_true is)

pub returns-then-is_too_large-clause-full : goal.returns-then-is_too_large-clause-full
returns-then-is_too_large-clause-full g c = λ _ records it clean. inl (c.is_too_large.ensures.large c.if-is_too_large.true)

pub returns-then-is_too_large-clause-steps : goal.returns-then-is_too_large-clause-steps
returns-then-is_too_large-clause-steps g c = λ records it. goes_not (MayStep c.args.self.now.header) g.D.Disk.seen c.args.self.now.disk

pub returns-then-is_too_large-clause-end : goal.returns-then-is_too_large-clause-end
returns-then-is_too_large-clause-end g c = refl

pub returns-then-is_too_large-clause-longer : goal.returns-then-is_too_large-clause-longer
returns-then-is_too_large-clause-longer g c = omega arith

pub returns-then-is_too_large-clause-clean : goal.returns-then-is_too_large-clause-clean
returns-then-is_too_large-clause-clean g c = λ clean. clean

pub returns-then-is_too_large-clause-usable : goal.returns-then-is_too_large-clause-usable
returns-then-is_too_large-clause-usable g c = c.requires.usable

pub returns-in_err-len-clause-stays : goal.returns-in_err-len-clause-stays
returns-in_err-len-clause-stays g c = IfOk-from_err c.from_residual.result _ c.from_residual.ensures.0

pub returns-in_err-len-clause-opens : goal.returns-in_err-len-clause-opens
returns-in_err-len-clause-opens g c = IfOk-from_err c.from_residual.result _ c.from_residual.ensures.0

pub returns-in_err-len-clause-longer : goal.returns-in_err-len-clause-longer
returns-in_err-len-clause-longer g c = IfOk-from_err c.from_residual.result _ c.from_residual.ensures.0

pub returns-in_err-len-clause-usable : goal.returns-in_err-len-clause-usable
returns-in_err-len-clause-usable g c = IfOk-from_err c.from_residual.result _ c.from_residual.ensures.0

pub returns-in_err-len-clause-not_open : goal.returns-in_err-len-clause-not_open
returns-in_err-len-clause-not_open g c = λ closed. absurd (false≢true (sym closed ∙ c.if-not-self.false))

pub returns-in_err-len-clause-any_moment : goal.returns-in_err-len-clause-any_moment
returns-in_err-len-clause-any_moment g c = λ records it.
    let seen = g.D.Disk.seen in
    let may_leave = g.D.Disk.may_leave in
    let is_clean = g.D.Disk.is_clean in
    let faults = g.D.Disk.faults in
    let note = c.args.note.now in
    let j : Journal g.row.D.Denot g.row.B.Denot = record c.args.self.now { is_open = false } in
    let rest : IsSettled seen may_leave is_clean j records = record { rounds = it.rounds; lies = it.lies; same = it.same; at = it.at; durable = it.durable; knows = it.knows } in
    let k = c.measure.new.self in
    let looked : Grows seen may_leave note j k = look_grows seen may_leave is_clean faults note j k c.measure.ensures.same c.measure.ensures.looks in
    grown_moments seen may_leave is_clean faults note j k records rest looked

pub returns-in_err-len-clause-crash : goal.returns-in_err-len-clause-crash
returns-in_err-len-clause-crash g c = λ records it.
    let seen = g.D.Disk.seen in
    let may_leave = g.D.Disk.may_leave in
    let is_clean = g.D.Disk.is_clean in
    let faults = g.D.Disk.faults in
    let note = c.args.note.now in
    let j : Journal g.row.D.Denot g.row.B.Denot = record c.args.self.now { is_open = false } in
    let rest : IsSettled seen may_leave is_clean j records = record { rounds = it.rounds; lies = it.lies; same = it.same; at = it.at; durable = it.durable; knows = it.knows } in
    let k = c.measure.new.self in
    let looked : Grows seen may_leave note j k = look_grows seen may_leave is_clean faults note j k c.measure.ensures.same c.measure.ensures.looks in
    grown_crash seen may_leave is_clean faults note j k records rest looked

pub returns-in_err-len-clause-closes : goal.returns-in_err-len-clause-closes
returns-in_err-len-clause-closes g c = on_err c.from_residual.result c.measure.ensures.same.opens

pub returns-in_err-len-clause-room : goal.returns-in_err-len-clause-room
returns-in_err-len-clause-room g c = λ is. absurd (exit_not_ok c.from_residual.result true c.from_residual.ensures.0 is)

pub returns-in_err-len-clause-full : goal.returns-in_err-len-clause-full
returns-in_err-len-clause-full g c = λ is. absurd (exit_not_ok c.from_residual.result false c.from_residual.ensures.0 is)

pub returns-in_err-len-clause-known : goal.returns-in_err-len-clause-known
returns-in_err-len-clause-known g c = λ is. absurd (exit_not_ok c.from_residual.result true c.from_residual.ensures.0 is)

pub returns-in_err-len-clause-end : goal.returns-in_err-len-clause-end
returns-in_err-len-clause-end g c = c.measure.ensures.same.at

pub returns-in_err-len-clause-header : goal.returns-in_err-len-clause-header
returns-in_err-len-clause-header g c = c.measure.ensures.same.header

pub returns-in_err-len-clause-clean : goal.returns-in_err-len-clause-clean
returns-in_err-len-clause-clean g c = c.measure.ensures.looks.clean

pub returns-in_err-len-2-clause-stays : goal.returns-in_err-len-2-clause-stays
returns-in_err-len-2-clause-stays g c = IfOk-from_err c.from_residual-in_err-len-2.result _ c.from_residual-in_err-len-2.ensures.0

pub returns-in_err-len-2-clause-opens : goal.returns-in_err-len-2-clause-opens
returns-in_err-len-2-clause-opens g c = IfOk-from_err c.from_residual-in_err-len-2.result _ c.from_residual-in_err-len-2.ensures.0

pub returns-in_err-len-2-clause-longer : goal.returns-in_err-len-2-clause-longer
returns-in_err-len-2-clause-longer g c = IfOk-from_err c.from_residual-in_err-len-2.result _ c.from_residual-in_err-len-2.ensures.0

pub returns-in_err-len-2-clause-usable : goal.returns-in_err-len-2-clause-usable
returns-in_err-len-2-clause-usable g c = IfOk-from_err c.from_residual-in_err-len-2.result _ c.from_residual-in_err-len-2.ensures.0

pub returns-in_err-len-2-clause-not_open : goal.returns-in_err-len-2-clause-not_open
returns-in_err-len-2-clause-not_open g c = λ closed. absurd (false≢true (sym closed ∙ c.if-not-self.false))

pub returns-in_err-len-2-clause-closes : goal.returns-in_err-len-2-clause-closes
returns-in_err-len-2-clause-closes g c = on_err c.from_residual-in_err-len-2.result (c.grow.ensures.grows.stays.opens ∙ c.measure.ensures.same.opens)

pub returns-in_err-len-2-clause-room : goal.returns-in_err-len-2-clause-room
returns-in_err-len-2-clause-room g c = λ is. absurd (exit_not_ok c.from_residual-in_err-len-2.result true c.from_residual-in_err-len-2.ensures.0 is)

pub returns-in_err-len-2-clause-full : goal.returns-in_err-len-2-clause-full
returns-in_err-len-2-clause-full g c = λ is. absurd (exit_not_ok c.from_residual-in_err-len-2.result false c.from_residual-in_err-len-2.ensures.0 is)

pub returns-in_err-len-2-clause-known : goal.returns-in_err-len-2-clause-known
returns-in_err-len-2-clause-known g c = λ is. absurd (exit_not_ok c.from_residual-in_err-len-2.result true c.from_residual-in_err-len-2.ensures.0 is)

pub returns-in_err-len-2-clause-end : goal.returns-in_err-len-2-clause-end
returns-in_err-len-2-clause-end g c = c.grow.ensures.grows.stays.at ∙ c.measure.ensures.same.at

pub returns-in_err-len-2-clause-header : goal.returns-in_err-len-2-clause-header
returns-in_err-len-2-clause-header g c = c.grow.ensures.grows.stays.header ∙ c.measure.ensures.same.header

pub returns-in_err-len-2-clause-clean : goal.returns-in_err-len-2-clause-clean
returns-in_err-len-2-clause-clean g c = λ clean. c.measure.ensures.looks.clean (c.grow.ensures.clean clean)

pub returns-in_err-len-2-clause-cause : goal.returns-in_err-len-2-clause-cause
returns-in_err-len-2-clause-cause g c = at_exit c.from_residual-in_err-len-2.result _ c.in_err-len-2.field-0.0 c.from_residual-in_err-len-2.ensures.1 (
  room_cause_of c.in_err-len-2.field-0.0 _ _ _ c.measure.ensures.looks.faults_grow c.in_err-len-2.ensures.fails.0,
  λ is. absurd (c.in_err-len-2.ensures.fails.1 is),
)

pub returns-clause-not_open : goal.returns-clause-not_open
returns-clause-not_open g c = λ closed. absurd (false≢true (sym closed ∙ c.if-not-self.false))

pub returns-clause-opens : goal.returns-clause-opens
returns-clause-opens g c = sym c.if-not-self.false

pub returns-clause-closes : goal.returns-clause-closes
returns-clause-closes g c = tt

pub returns-clause-cause : goal.returns-clause-cause
returns-clause-cause g c = tt

pub returns-clause-end : goal.returns-clause-end
returns-clause-end g c =
    let seen = g.D.Disk.seen in
    let may_leave = g.D.Disk.may_leave in
    let is_clean = g.D.Disk.is_clean in
    let faults = g.D.Disk.faults in
    let note = c.args.note.now in
    let j : Journal g.row.D.Denot g.row.B.Denot = record c.args.self.now { is_open = false } in
    let k = c.measure.new.self in
    let looked : Grows seen may_leave note j k = look_grows seen may_leave is_clean faults note j k c.measure.ensures.same c.measure.ensures.looks in
    let grown : Grows seen may_leave note j c.if-len-wanted.self = elim c.if-len-wanted.branch [
      | then-len-wanted+in_ok-len-2 w ↦ subst (λ k. Grows seen may_leave note j k) (sym w.self-is) (grows_on seen may_leave is_clean faults note j k w.grow.new.self looked w.grow.ensures.grows)
      | else-len-wanted w ↦ subst (λ k. Grows seen may_leave note j k) (sym w.self-is) looked
    ] in
    grown.stays.at

pub returns-clause-header : goal.returns-clause-header
returns-clause-header g c =
    let seen = g.D.Disk.seen in
    let may_leave = g.D.Disk.may_leave in
    let is_clean = g.D.Disk.is_clean in
    let faults = g.D.Disk.faults in
    let note = c.args.note.now in
    let j : Journal g.row.D.Denot g.row.B.Denot = record c.args.self.now { is_open = false } in
    let k = c.measure.new.self in
    let looked : Grows seen may_leave note j k = look_grows seen may_leave is_clean faults note j k c.measure.ensures.same c.measure.ensures.looks in
    let grown : Grows seen may_leave note j c.if-len-wanted.self = elim c.if-len-wanted.branch [
      | then-len-wanted+in_ok-len-2 w ↦ subst (λ k. Grows seen may_leave note j k) (sym w.self-is) (grows_on seen may_leave is_clean faults note j k w.grow.new.self looked w.grow.ensures.grows)
      | else-len-wanted w ↦ subst (λ k. Grows seen may_leave note j k) (sym w.self-is) looked
    ] in
    grown.stays.header

pub returns-clause-clean : goal.returns-clause-clean
returns-clause-clean g c =
    let looks = c.measure.ensures.looks in
    let Cleans : Journal g.row.D.Denot g.row.B.Denot → Type 0 = λ k. IsTrue (g.D.Disk.is_clean (disk_behind k)) → IsTrue (g.D.Disk.is_clean (disk_behind c.args.self.now)) in
    let cleans : Cleans c.if-len-wanted.self = elim c.if-len-wanted.branch [
      | then-len-wanted+in_ok-len-2 w ↦ subst Cleans (sym w.self-is) (λ clean. looks.clean (w.grow.ensures.clean clean))
      | else-len-wanted w ↦ subst Cleans (sym w.self-is) looks.clean
    ] in
    cleans

pub returns-clause-known : goal.returns-clause-known
returns-clause-known g c = λ _.
    let Known : Journal g.row.D.Denot g.row.B.Denot → Type 0 = λ k. is_some k.len ≡ true in
    let known : Known c.if-len-wanted.self = elim c.if-len-wanted.branch [
      | then-len-wanted+in_ok-len-2 w ↦ subst Known (sym w.self-is) (ap is_some (IfOk-at_ok _ w.in_ok-len-2.was w.grow.ensures.knows).0)
      | else-len-wanted w ↦ subst Known (sym w.self-is) (ap is_some (IfOk-at_ok _ (mapped_ok c.measure.result c.map_err.result c.in_ok-len.len _ c.map_err.ensures.cases c.in_ok-len.was) c.measure.ensures.len))
    ] in
    known

pub returns-clause-room : goal.returns-clause-room
returns-clause-room g c = λ is records it clean.
    let seen = g.D.Disk.seen in
    let is_clean = g.D.Disk.is_clean in
    let j = c.args.self.now in
    let measured = mapped_ok c.measure.result c.map_err.result c.in_ok-len.len _ c.map_err.ensures.cases c.in_ok-len.was in
    let Long : Journal g.row.D.Denot g.row.B.Denot → ℕ → Type 0 = λ k n. (k.at ≡ j.at) × (IsTrue (is_clean (disk_behind k)) → n ≡ length (seen (disk_behind k))) in
    let long : Long c.if-len-wanted.self c.if-len-wanted.len = elim c.if-len-wanted.branch [
      | then-len-wanted+in_ok-len-2 w ↦
          let known = IfOk-at_ok _ w.in_ok-len-2.was w.grow.ensures.knows in
          subst (λ k. Long k c.if-len-wanted.len) (sym w.self-is)
          (subst (λ n. Long w.grow.new.self n) (sym w.len-is) (w.grow.ensures.grows.stays.at ∙ c.measure.ensures.same.at, some_at _ w.grow.new.self.len w.in_ok-len-2.len known.1 known.0))
      | else-len-wanted w ↦
          subst (λ k. Long k c.if-len-wanted.len) (sym w.self-is)
          (subst (λ n. Long c.measure.new.self n) (sym w.len-is) (c.measure.ensures.same.at, some_at _ c.measure.new.self.len c.in_ok-len.len (c.measure.ensures.looks.knows it.knows) (IfOk-at_ok _ measured c.measure.ensures.len)))
    ] in
    omega (arith, is_enough (j.at + 32 + c.args.bytes) c.if-len-wanted.len is, long.0, long.1 clean)

pub returns-in_err-len-2-clause-most : goal.returns-in_err-len-2-clause-most
returns-in_err-len-2-clause-most g c =
    grown_most g.D.Disk.seen c.args.self.now c.measure.new.self c.grow.new.self c.args.bytes c.args.free _ _ c.measure.ensures.looks.same c.measure.ensures.same.at c.spare_room.ensures c.max-room.ensures c.grow.ensures.most

pub returns-clause-most : goal.returns-clause-most
returns-clause-most g c =
    let seen = g.D.Disk.seen in
    let j = c.args.self.now in
    let Within : Journal g.row.D.Denot g.row.B.Denot → Type 0 = λ k. length (seen (disk_behind k)) ≤ max (length (seen (disk_behind j))) (j.at + (32 + made_room j.at c.args.free c.args.bytes)) in
    let within : Within c.if-len-wanted.self = elim c.if-len-wanted.branch [
      | then-len-wanted+in_ok-len-2 w ↦
          subst Within (sym w.self-is) (grown_most seen j c.measure.new.self w.grow.new.self c.args.bytes c.args.free _ _ c.measure.ensures.looks.same c.measure.ensures.same.at w.spare_room.ensures w.max-room.ensures w.grow.ensures.most)
      | else-len-wanted w ↦ subst Within (sym w.self-is) (subst (λ (l : List ℕ). length l ≤ max (length (seen (disk_behind j))) (j.at + (32 + made_room j.at c.args.free c.args.bytes))) (sym c.measure.ensures.looks.same) (omega arith))
    ] in
    within
