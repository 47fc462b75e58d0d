-- Zeros behind the gate, and then a look at the length.
use Rattle.std.proofs.Common.{refl, sym, subst, ◌+◌, ◌≤◌, ℕ, List, length, max, None, arith}
use Rattle.journal_core.specs.Resting.{disk_behind}
use Rattle.journal_core.specs.declared.journal.Journal.{Journal}
use Rattle.journal_core.specs.Private.Looks.{Grows}
use Rattle.journal_core.proofs.Growing.{grows_on, look_grows}
use Rattle.journal_core.proofs.Staging.{behind_less}
use Rattle.journal_core.proofs.journal.Journal.grow.Goals as goal

pub returns-in_err-map_err-clause-grows : goal.returns-in_err-map_err-clause-grows
returns-in_err-map_err-clause-grows g c =
    let low : c.args.self.now.at + 8 ≤ c.max-from.result = omega (arith, c.max-from.ensures) in
    record {
      stays = record { at = refl; header = refl; opens = refl };
      begins = λ front short it. c.lengthen.ensures.seen front (omega (arith, short, low)) it;
      behind = behind_less g.D.Disk.seen g.D.Disk.may_leave c.args.note.now (c.args.self.now.at + 8) c.max-from.result c.args.self.now.disk c.lengthen.new.disk low c.lengthen.ensures.behind;
    }

pub returns-clause-grows : goal.returns-clause-grows
returns-clause-grows g c =
    let seen = g.D.Disk.seen in
    let may_leave = g.D.Disk.may_leave in
    let note = c.args.note.now in
    let j = c.args.self.now in
    let mid : Journal g.row.D.Denot g.row.B.Denot = record { disk = c.lengthen.new.disk; header = j.header; at = j.at; len = None; is_open = j.is_open } in
    let low : j.at + 8 ≤ c.max-from.result = omega (arith, c.max-from.ensures) in
    let first : Grows seen may_leave note j mid = record {
      stays = record { at = refl; header = refl; opens = refl };
      begins = λ front short it. c.lengthen.ensures.seen front (omega (arith, short, low)) it;
      behind = behind_less seen may_leave note (j.at + 8) c.max-from.result j.disk c.lengthen.new.disk low c.lengthen.ensures.behind;
    } in
    grows_on seen may_leave g.D.Disk.is_clean g.D.Disk.faults note j mid c.measure.new.self first (look_grows seen may_leave g.D.Disk.is_clean g.D.Disk.faults note mid c.measure.new.self c.measure.ensures.same c.measure.ensures.looks)

pub returns-clause-most : goal.returns-clause-most
returns-clause-most g c =
    subst (λ (l : List ℕ). length l ≤ max (length (g.D.Disk.seen (disk_behind c.args.self.now))) c.args.to) (sym c.measure.ensures.looks.same) c.lengthen.ensures.most
