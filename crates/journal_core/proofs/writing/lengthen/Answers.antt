-- A piece more, of one byte at least.
use Rattle.std.proofs.Common.{rules, tests, ◌≡◌, ◌⊎◌, ◌+◌, ◌<◌, ◌≤◌, ℕ, List, Result, Ok, Err, OnErr, OnOk, inl, inr, length, max, refl, sym, ◌∙◌, subst, arith}
use Rattle.std.proofs.lemmas.Result.{on_ok_weaker}
use Rattle.std.specs.declared.io.Error.{Error}
use Rattle.sqlite_disk.specs.Disk.{CountsFault, MoreFaults}
use Rattle.journal_core.specs.Clocked.{disk_of}
use Rattle.journal_core.specs.Private.Stages.{IsCounted}
use Rattle.journal_core.proofs.Staging.{begins_in, behind_not, behind_on, behind_sync, behind_two, counted_grows, counted_ok, counted_two, fails_behind, ok_usable}
use Rattle.journal_core.proofs.writing.lengthen.Goals as goal

len_more : (from at n next old mid new : ℕ) → (from < at → mid ≡ max old at) → (from ≡ at → mid ≡ old) → from ≤ at → next ≡ at + n → 0 < n → new ≡ max mid (at + n) → new ≡ max old next
len_more from at n next old mid new some none low is more len = elim (cases from at) [
  | inl below ↦ omega (arith, some below, len, is)
  | inr here ↦ omega (arith, none (omega (arith, here, low)), len, is)
]
  where
    cases : (a b : ℕ) → (a < b) ⊎ (b ≤ a)
    cases a b = search (tests, rules)

on_ok : {T E P : Type 0} (r : Result T E) → P → OnOk r P
on_ok (Ok x) it = it
on_ok (Err e) it = tt

-- a call failed, and the sync behind it went well
fault_told : (r : Result (Unit {0}) Error) (P : Type 0) (a b c d : ℕ) → b ≡ a → MoreFaults b c → CountsFault r c d → OnOk r (P ⊎ MoreFaults a d)
fault_told (Ok x) P a b c d first second last = inr (omega (arith, first, second, last))
fault_told (Err y) P a b c d first second last = tt

pub returns-in-Err-clause-behind : goal.returns-in-Err-clause-behind
returns-in-Err-clause-behind g c =
    behind_on g.D.Disk.seen g.D.Disk.may_leave c.args.note.now c.args.from c.writing.at c.args.disk.now c.writing.disk c.write_piece.new.disk c.writing.invariant.from c.writing.invariant.behind c.write_piece.ensures.behind

pub returns-then-is_no_room-clause-behind : goal.returns-then-is_no_room-clause-behind
returns-then-is_no_room-clause-behind g c =
    let piece = behind_on g.D.Disk.seen g.D.Disk.may_leave c.args.note.now c.args.from c.writing.at c.args.disk.now c.writing.disk c.write_piece.new.disk c.writing.invariant.from c.writing.invariant.behind c.write_piece.ensures.behind in
    behind_two g.D.Disk.seen g.D.Disk.may_leave c.args.note.now c.args.from c.args.disk.now c.write_piece.new.disk c.sync.new.self piece
    (behind_sync g.D.Disk.seen g.D.Disk.may_leave c.args.note.now c.args.from c.write_piece.new.disk c.sync.new.self c.sync.ensures.noted c.sync.ensures.seen c.sync.ensures.crash)

pub writing-preserved : goal.writing-preserved
writing-preserved g c =
    let seen = g.D.Disk.seen in
    let next : c.in-Ok.next ≡ c.writing.at + c.min-count.result = search rules in
    let len : 0 < c.min-count.result → length (seen (disk_of c.write_piece.new.disk)) ≡ max (length (seen (disk_of c.writing.disk))) (c.writing.at + c.min-count.result) = search rules in
    let most : length (seen (disk_of c.write_piece.new.disk)) ≤ max (length (seen (disk_of c.writing.disk))) (c.writing.at + c.min-count.result) = search rules in
    let count : 0 < c.min-count.result = omega (arith, c.min-count.ensures, c.zeros-zeros.ensures, c.writing-test.true) in
    let faults = g.D.Disk.faults in
    let tally = g.D.Disk.tally_of in
    let d0 = disk_of c.args.disk.now in
    let d1 = disk_of c.writing.disk in
    let d2 = disk_of c.write_piece.new.disk in
    record {
      from = omega (arith, next, c.writing.invariant.from);
      to = omega (arith, next, c.min-count.ensures, c.zeros-zeros.ensures, c.writing-test.true);
      len = λ some. len_more c.args.from c.writing.at c.min-count.result c.in-Ok.next (length (seen (disk_of c.args.disk.now))) (length (seen (disk_of c.writing.disk))) (length (seen (disk_of c.write_piece.new.disk))) c.writing.invariant.len c.writing.invariant.len_none c.writing.invariant.from next count (len count);
      len_none = λ none. absurd (omega (arith, next, none, c.min-count.ensures, c.zeros-zeros.ensures, c.writing-test.true, c.writing.invariant.from));
      most = omega (arith, most, c.writing.invariant.most, c.min-count.ensures, c.zeros-zeros.ensures, c.writing-test.true);
      seen = λ front low it. c.write_piece.ensures.seen front (omega (arith, low, c.writing.invariant.from)) (c.writing.invariant.seen front low it);
      behind = behind_on g.D.Disk.seen g.D.Disk.may_leave c.args.note.now c.args.from c.writing.at c.args.disk.now c.writing.disk c.write_piece.new.disk c.writing.invariant.from c.writing.invariant.behind c.write_piece.ensures.behind;
      counts = counted_two 0 (Ok 0) (faults d0) (faults d1) (faults d2) (tally d0) (tally d1) (tally d2) c.writing.invariant.counts
          (counted_ok c.in-Ok.next 0 (faults d1) (faults d2) (tally d1) (tally d2) (subst (λ (r : Result ℕ Error). IsCounted r (faults d1) (faults d2) (tally d1) (tally d2)) c.in-Ok.is c.write_piece.ensures.counts));
      clean = c.write_piece.ensures.clean ∙ c.writing.invariant.clean;
      usable = c.write_piece.ensures.usable;
    }

pub returns-clause-behind : goal.returns-clause-behind
returns-clause-behind g c =
    behind_two g.D.Disk.seen g.D.Disk.may_leave c.args.note.now c.args.from c.args.disk.now c.writing.disk c.sync-2.new.self c.writing.invariant.behind
    (behind_sync g.D.Disk.seen g.D.Disk.may_leave c.args.note.now c.args.from c.writing.disk c.sync-2.new.self c.sync-2.ensures.noted c.sync-2.ensures.seen c.sync-2.ensures.crash)

pub writing-init : goal.writing-init
writing-init g c =
    record {
      from = omega arith;
      to = omega (arith, c.requires.some);
      len = λ some. absurd (omega (arith, some));
      len_none = λ none. refl;
      most = omega arith;
      seen = λ front low it. it;
      behind = behind_not g.D.Disk.seen g.D.Disk.may_leave c.args.note.now c.args.from c.args.disk.now;
      counts = record { faults = refl; refused = record { caught = refl; refused = refl } };
      clean = refl;
      usable = c.requires.usable;
    }

pub write_piece-requires-clause-usable : goal.write_piece-requires-clause-usable
write_piece-requires-clause-usable g c = c.writing.invariant.usable

pub returns-then-is_no_room-clause-len : goal.returns-then-is_no_room-clause-len
returns-then-is_no_room-clause-len g c =
    let faults = g.D.Disk.faults in
    let tally = g.D.Disk.tally_of in
    let d0 = disk_of c.args.disk.now in
    let d1 = disk_of c.writing.disk in
    let d2 = disk_of c.write_piece.new.disk in
    let d3 = disk_of c.sync.new.self in
    let told = subst (λ (r : Result ℕ Error). IsCounted r (faults d1) (faults d2) (tally d1) (tally d2)) c.in-Err.is c.write_piece.ensures.counts in
    fault_told c.sync.result _ (faults d0) (faults d1) (faults d2) (faults d3) c.writing.invariant.counts.faults told.faults.0 c.sync.ensures.faults

pub returns-then-is_no_room-clause-most : goal.returns-then-is_no_room-clause-most
returns-then-is_no_room-clause-most g c =
    let seen = g.D.Disk.seen in
    let most : length (seen (disk_of c.write_piece.new.disk)) ≤ max (length (seen (disk_of c.writing.disk))) (c.writing.at + c.min-count.result) = search rules in
    subst (λ (l : List ℕ). length l ≤ max (length (seen (disk_of c.args.disk.now))) c.args.to) (sym c.sync.ensures.seen) (omega (arith, most, c.writing.invariant.most, c.min-count.ensures, c.zeros-zeros.ensures, c.writing-test.true))

pub returns-in-Err-clause-most : goal.returns-in-Err-clause-most
returns-in-Err-clause-most g c =
    let seen = g.D.Disk.seen in
    let most : length (seen (disk_of c.write_piece.new.disk)) ≤ max (length (seen (disk_of c.writing.disk))) (c.writing.at + c.min-count.result) = search rules in
    omega (arith, most, c.writing.invariant.most, c.min-count.ensures, c.zeros-zeros.ensures, c.writing-test.true)

pub returns-clause-most : goal.returns-clause-most
returns-clause-most g c = subst (λ (l : List ℕ). length l ≤ max (length (g.D.Disk.seen (disk_of c.args.disk.now))) c.args.to) (sym c.sync-2.ensures.seen) c.writing.invariant.most

pub returns-then-is_no_room-clause-seen : goal.returns-then-is_no_room-clause-seen
returns-then-is_no_room-clause-seen g c =
    let seen = g.D.Disk.seen in
    λ front low it.
    let there = c.write_piece.ensures.seen front (omega (arith, low, c.writing.invariant.from)) (c.writing.invariant.seen front low it) in
    begins_in front (seen (disk_of c.write_piece.new.disk)) (seen (disk_of c.sync.new.self)) (sym c.sync.ensures.seen) there

pub returns-then-is_no_room-clause-durable : goal.returns-then-is_no_room-clause-durable
returns-then-is_no_room-clause-durable g c = on_ok_weaker c.sync.result (λ only f left. only f left ∙ sym c.sync.ensures.seen) c.sync.ensures.durable

pub returns-then-is_no_room-clause-fails : goal.returns-then-is_no_room-clause-fails
returns-then-is_no_room-clause-fails g c =
    let faults = g.D.Disk.faults in
    let tally = g.D.Disk.tally_of in
    let d0 = disk_of c.args.disk.now in
    let d1 = disk_of c.writing.disk in
    let d2 = disk_of c.write_piece.new.disk in
    let d3 = disk_of c.sync.new.self in
    let first = counted_grows (Ok 0) (faults d0) (faults d1) (tally d0) (tally d1) c.writing.invariant.counts in
    let second = counted_grows c.write_piece.result (faults d1) (faults d2) (tally d1) (tally d2) c.write_piece.ensures.counts in
    (fails_behind c.sync.result (faults d0) (faults d2) (faults d3) (omega (arith, first, second)) c.sync.ensures.faults).0

pub returns-then-is_no_room-clause-faults : goal.returns-then-is_no_room-clause-faults
returns-then-is_no_room-clause-faults g c =
    let faults = g.D.Disk.faults in
    let tally = g.D.Disk.tally_of in
    let d0 = disk_of c.args.disk.now in
    let d1 = disk_of c.writing.disk in
    let d2 = disk_of c.write_piece.new.disk in
    let d3 = disk_of c.sync.new.self in
    let first = counted_grows (Ok 0) (faults d0) (faults d1) (tally d0) (tally d1) c.writing.invariant.counts in
    let second = counted_grows c.write_piece.result (faults d1) (faults d2) (tally d1) (tally d2) c.write_piece.ensures.counts in
    (fails_behind c.sync.result (faults d0) (faults d2) (faults d3) (omega (arith, first, second)) c.sync.ensures.faults).1

pub returns-then-is_no_room-clause-clean : goal.returns-then-is_no_room-clause-clean
returns-then-is_no_room-clause-clean g c = c.sync.ensures.clean ∙ c.write_piece.ensures.clean ∙ c.writing.invariant.clean

pub returns-then-is_no_room-clause-usable : goal.returns-then-is_no_room-clause-usable
returns-then-is_no_room-clause-usable g c = ok_usable c.sync.result _ c.sync.ensures.usable

pub returns-in-Err-clause-len : goal.returns-in-Err-clause-len
returns-in-Err-clause-len g c = tt

pub returns-in-Err-clause-durable : goal.returns-in-Err-clause-durable
returns-in-Err-clause-durable g c = tt

pub returns-in-Err-clause-usable : goal.returns-in-Err-clause-usable
returns-in-Err-clause-usable g c = tt

pub returns-in-Err-clause-seen : goal.returns-in-Err-clause-seen
returns-in-Err-clause-seen g c = λ front low it. c.write_piece.ensures.seen front (omega (arith, low, c.writing.invariant.from)) (c.writing.invariant.seen front low it)

pub returns-in-Err-clause-fails : goal.returns-in-Err-clause-fails
returns-in-Err-clause-fails g c =
    let faults = g.D.Disk.faults in
    let tally = g.D.Disk.tally_of in
    let d0 = disk_of c.args.disk.now in
    let d1 = disk_of c.writing.disk in
    let d2 = disk_of c.write_piece.new.disk in
    let first = counted_grows (Ok 0) (faults d0) (faults d1) (tally d0) (tally d1) c.writing.invariant.counts in
    subst (λ (r : Result ℕ Error). OnErr r (MoreFaults (faults d0) (faults d2))) c.in-Err.is (fails_behind c.write_piece.result (faults d0) (faults d1) (faults d2) first c.write_piece.ensures.counts.faults).0

pub returns-in-Err-clause-faults : goal.returns-in-Err-clause-faults
returns-in-Err-clause-faults g c =
    let faults = g.D.Disk.faults in
    let tally = g.D.Disk.tally_of in
    let d0 = disk_of c.args.disk.now in
    let d1 = disk_of c.writing.disk in
    let d2 = disk_of c.write_piece.new.disk in
    let first = counted_grows (Ok 0) (faults d0) (faults d1) (tally d0) (tally d1) c.writing.invariant.counts in
    (fails_behind c.write_piece.result (faults d0) (faults d1) (faults d2) first c.write_piece.ensures.counts.faults).1

pub returns-in-Err-clause-clean : goal.returns-in-Err-clause-clean
returns-in-Err-clause-clean g c = c.write_piece.ensures.clean ∙ c.writing.invariant.clean

pub returns-clause-len : goal.returns-clause-len
returns-clause-len g c =
    let seen = g.D.Disk.seen in
    let some : c.args.from < c.writing.at = omega (arith, c.requires.some, c.writing-test.false) in
    let all : c.writing.at ≡ c.args.to = omega (arith, c.writing-test.false, c.writing.invariant.to) in
    let long : length (seen (disk_of c.writing.disk)) ≡ max (length (seen (disk_of c.args.disk.now))) c.args.to = subst (λ n. length (seen (disk_of c.writing.disk)) ≡ max (length (seen (disk_of c.args.disk.now))) n) all (c.writing.invariant.len some) in
    on_ok c.sync-2.result (inl (subst (λ (l : List ℕ). length l ≡ max (length (seen (disk_of c.args.disk.now))) c.args.to) (sym c.sync-2.ensures.seen) long))

pub returns-clause-seen : goal.returns-clause-seen
returns-clause-seen g c =
    let seen = g.D.Disk.seen in
    λ front low it. begins_in front (seen (disk_of c.writing.disk)) (seen (disk_of c.sync-2.new.self)) (sym c.sync-2.ensures.seen) (c.writing.invariant.seen front low it)

pub returns-clause-durable : goal.returns-clause-durable
returns-clause-durable g c = on_ok_weaker c.sync-2.result (λ only f left. only f left ∙ sym c.sync-2.ensures.seen) c.sync-2.ensures.durable

pub returns-clause-fails : goal.returns-clause-fails
returns-clause-fails g c =
    let faults = g.D.Disk.faults in
    let tally = g.D.Disk.tally_of in
    let d0 = disk_of c.args.disk.now in
    let d1 = disk_of c.writing.disk in
    let d2 = disk_of c.sync-2.new.self in
    let first = counted_grows (Ok 0) (faults d0) (faults d1) (tally d0) (tally d1) c.writing.invariant.counts in
    (fails_behind c.sync-2.result (faults d0) (faults d1) (faults d2) first c.sync-2.ensures.faults).0

pub returns-clause-faults : goal.returns-clause-faults
returns-clause-faults g c =
    let faults = g.D.Disk.faults in
    let tally = g.D.Disk.tally_of in
    let d0 = disk_of c.args.disk.now in
    let d1 = disk_of c.writing.disk in
    let d2 = disk_of c.sync-2.new.self in
    let first = counted_grows (Ok 0) (faults d0) (faults d1) (tally d0) (tally d1) c.writing.invariant.counts in
    (fails_behind c.sync-2.result (faults d0) (faults d1) (faults d2) first c.sync-2.ensures.faults).1

pub returns-clause-clean : goal.returns-clause-clean
returns-clause-clean g c = c.sync-2.ensures.clean ∙ c.writing.invariant.clean

pub returns-clause-usable : goal.returns-clause-usable
returns-clause-usable g c = ok_usable c.sync-2.result _ c.sync-2.ensures.usable
