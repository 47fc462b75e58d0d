-- A part more, of two pieces.
use Rattle.std.proofs.Common.{rules, ◌≡◌, ◌+◌, ◌++◌, [], ℕ, List, inr, length, max, take, refl, sym, ◌∙◌, ap, subst, arith, length-append}
use Rattle.std.proofs.lemmas.List.{append-nil, take_all}
use Rattle.std.proofs.lemmas.Result.{IfOk-from_err}
use Rattle.journal_core.specs.declared.round.Part.{Part}
use Rattle.std.proofs.lemmas.Grind.{common_steps}
use Rattle.journal_core.specs.Clocked.{disk_of}
use Rattle.journal_core.specs.Private.Stages.{BeginsWith, bytes_of_part, parts_text}
use Rattle.journal_core.proofs.Staging.{begins_as, behind_not, behind_on, counted_exit, counted_ok, counted_then, counted_two}
use Rattle.journal_core.proofs.Feeding.{parts_within, one_part}
use Rattle.journal_core.proofs.writing.write_parts.Goals as goal

pub write_piece-requires-clause-fits : goal.write_piece-requires-clause-fits
write_piece-requires-clause-fits g c =
    let parts = c.args.round.now.parts.items in
    let i = c.writing.part-index in
    let part = c.part-item.result in
    let more : parts_text (take (i + 1) parts) ≡ parts_text (take i parts) ++ bytes_of_part part = grind (arith, common_steps) in
    omega (arith, ap length more, length-append (parts_text (take i parts)) (bytes_of_part part), length-append part.own.items part.body, parts_within (i + 1) parts, ap length c.deref.ensures.value, c.writing.invariant.at, c.requires.fits)

pub returns-in_err-at-clause-behind : goal.returns-in_err-at-clause-behind
returns-in_err-at-clause-behind g c =
    behind_on g.D.Disk.seen g.D.Disk.may_leave c.args.note.now c.args.from c.writing.at c.args.disk.now c.writing.disk c.write_piece.new.disk (omega (arith, c.writing.invariant.at)) c.writing.invariant.behind c.write_piece.ensures.behind

pub write_piece-requires-in-writing-clause-fits : goal.write_piece-requires-in-writing-clause-fits
write_piece-requires-in-writing-clause-fits g c =
    let parts = c.args.round.now.parts.items in
    let i = c.writing.part-index in
    let part = c.part-item.result in
    let more : parts_text (take (i + 1) parts) ≡ parts_text (take i parts) ++ bytes_of_part part = grind (arith, common_steps) in
    omega (arith, ap length more, length-append (parts_text (take i parts)) (bytes_of_part part), length-append part.own.items part.body, parts_within (i + 1) parts, ap length c.deref.ensures.value, ap length c.deref-in-writing.ensures, c.in_ok-at.ensures.next, c.writing.invariant.at, c.requires.fits)

pub returns-in_err-at-2-clause-behind : goal.returns-in_err-at-2-clause-behind
returns-in_err-at-2-clause-behind g c =
    behind_on g.D.Disk.seen g.D.Disk.may_leave c.args.note.now c.args.from c.in_ok-at.at c.args.disk.now c.write_piece.new.disk c.write_piece-in-writing.new.disk (omega (arith, c.writing.invariant.at, c.in_ok-at.ensures.next))
    (behind_on g.D.Disk.seen g.D.Disk.may_leave c.args.note.now c.args.from c.writing.at c.args.disk.now c.writing.disk c.write_piece.new.disk (omega (arith, c.writing.invariant.at)) c.writing.invariant.behind c.write_piece.ensures.behind)
    c.write_piece-in-writing.ensures.behind

pub writing-preserved : goal.writing-preserved
writing-preserved g c =
    let parts = c.args.round.now.parts.items in
    let i = c.writing.part-index in
    let part = c.part-item.result in
    let seen = g.D.Disk.seen in
    let done = parts_text (take i parts) in
    let more : parts_text (take (i + 1) parts) ≡ done ++ bytes_of_part part = grind (arith, common_steps) in
    let own_len : length c.deref.result.now ≡ length part.own.items = ap length c.deref.ensures.value in
    let body_len : length c.deref-in-writing.result.now ≡ length part.body = ap length c.deref-in-writing.ensures in
    let first : c.in_ok-at.at ≡ c.writing.at + length part.own.items = omega (arith, own_len, c.in_ok-at.ensures.next) in
    let second : c.in_ok-at-2.at ≡ c.in_ok-at.at + length part.body = omega (arith, body_len, c.in_ok-at-2.ensures.next) in
    record {
      at = omega (arith, first, second, c.writing.invariant.at, ap length more, length-append done (bytes_of_part part), length-append part.own.items part.body);
      writes = λ front place it.
          let there = c.writing.invariant.writes front place it in
          let there2 = subst (λ (l : List ℕ). BeginsWith ((front ++ done) ++ l) (seen (disk_of c.write_piece.new.disk))) c.deref.ensures.value
          (c.in_ok-at.ensures.writes (front ++ done) (omega (arith, length-append front done, place, c.writing.invariant.at)) there) in
          let there3 = subst (λ (l : List ℕ). BeginsWith (((front ++ done) ++ part.own.items) ++ l) (seen (disk_of c.write_piece-in-writing.new.disk))) c.deref-in-writing.ensures
          (c.in_ok-at-2.ensures.writes ((front ++ done) ++ part.own.items) (omega (arith, length-append (front ++ done) part.own.items, length-append front done, place, c.writing.invariant.at, first)) there2) in
          one_part front done part.own.items part.body (parts_text (take (i + 1) parts)) (seen (disk_of c.write_piece-in-writing.new.disk)) more there3;
      len = λ within.
          let l0 = c.writing.invariant.len within in
          let l1 = c.in_ok-at.ensures.len (inr (omega (arith, l0))) in
          let l2 = c.in_ok-at-2.ensures.len (inr (omega (arith, l0, l1, c.in_ok-at.ensures.next))) in
          omega (arith, l0, l1, l2, c.in_ok-at.ensures.next, c.in_ok-at-2.ensures.next);
      behind = behind_on g.D.Disk.seen g.D.Disk.may_leave c.args.note.now c.args.from c.in_ok-at.at c.args.disk.now c.write_piece.new.disk c.write_piece-in-writing.new.disk (omega (arith, c.writing.invariant.at, c.in_ok-at.ensures.next))
          (behind_on g.D.Disk.seen g.D.Disk.may_leave c.args.note.now c.args.from c.writing.at c.args.disk.now c.writing.disk c.write_piece.new.disk (omega (arith, c.writing.invariant.at)) c.writing.invariant.behind c.write_piece.ensures.behind)
          c.write_piece-in-writing.ensures.behind;
      counts = search rules;
      clean = search rules;
      usable = search rules;
    }

pub write_piece-requires-clause-usable : goal.write_piece-requires-clause-usable
write_piece-requires-clause-usable g c = c.writing.invariant.usable

pub write_piece-requires-in-writing-clause-usable : goal.write_piece-requires-in-writing-clause-usable
write_piece-requires-in-writing-clause-usable g c = c.write_piece.ensures.usable

pub returns-in_err-at-clause-next : goal.returns-in_err-at-clause-next
returns-in_err-at-clause-next g c = IfOk-from_err c.from_residual.result _ c.from_residual.ensures.0

pub returns-in_err-at-clause-writes : goal.returns-in_err-at-clause-writes
returns-in_err-at-clause-writes g c = IfOk-from_err c.from_residual.result _ c.from_residual.ensures.0

pub returns-in_err-at-clause-len : goal.returns-in_err-at-clause-len
returns-in_err-at-clause-len g c = IfOk-from_err c.from_residual.result _ c.from_residual.ensures.0

pub returns-in_err-at-2-clause-next : goal.returns-in_err-at-2-clause-next
returns-in_err-at-2-clause-next g c = IfOk-from_err c.from_residual-in_err-at-2.result _ c.from_residual-in_err-at-2.ensures.0

pub returns-in_err-at-2-clause-writes : goal.returns-in_err-at-2-clause-writes
returns-in_err-at-2-clause-writes g c = IfOk-from_err c.from_residual-in_err-at-2.result _ c.from_residual-in_err-at-2.ensures.0

pub returns-in_err-at-2-clause-len : goal.returns-in_err-at-2-clause-len
returns-in_err-at-2-clause-len g c = IfOk-from_err c.from_residual-in_err-at-2.result _ c.from_residual-in_err-at-2.ensures.0

pub returns-in_err-at-clause-usable : goal.returns-in_err-at-clause-usable
returns-in_err-at-clause-usable g c = c.write_piece.ensures.usable

pub returns-in_err-at-2-clause-usable : goal.returns-in_err-at-2-clause-usable
returns-in_err-at-2-clause-usable g c = c.write_piece-in-writing.ensures.usable

pub returns-in_err-at-clause-clean : goal.returns-in_err-at-clause-clean
returns-in_err-at-clause-clean g c = c.write_piece.ensures.clean ∙ c.writing.invariant.clean

pub returns-in_err-at-2-clause-clean : goal.returns-in_err-at-2-clause-clean
returns-in_err-at-2-clause-clean g c = c.write_piece-in-writing.ensures.clean ∙ c.write_piece.ensures.clean ∙ c.writing.invariant.clean

pub returns-in_err-at-clause-counts : goal.returns-in_err-at-clause-counts
returns-in_err-at-clause-counts g c =
    let faults = g.D.Disk.faults in
    let tally = g.D.Disk.tally_of in
    let d0 = disk_of c.args.disk.now in
    let d1 = disk_of c.writing.disk in
    let d2 = disk_of c.write_piece.new.disk in
    let exit = counted_exit c.write_piece.result c.in_err-at.field-0.0 c.from_residual.result (faults d1) (faults d2) (tally d1) (tally d2) c.in_err-at.was c.from_residual.ensures.1 c.write_piece.ensures.counts in
    counted_two 0 c.from_residual.result (faults d0) (faults d1) (faults d2) (tally d0) (tally d1) (tally d2) c.writing.invariant.counts exit

pub returns-in_err-at-2-clause-counts : goal.returns-in_err-at-2-clause-counts
returns-in_err-at-2-clause-counts g c =
    let faults = g.D.Disk.faults in
    let tally = g.D.Disk.tally_of in
    let d0 = disk_of c.args.disk.now in
    let d1 = disk_of c.writing.disk in
    let d2 = disk_of c.write_piece.new.disk in
    let d3 = disk_of c.write_piece-in-writing.new.disk in
    let r = c.from_residual-in_err-at-2.result in
    let exit = counted_exit c.write_piece-in-writing.result c.in_err-at-2.field-0.0 r (faults d2) (faults d3) (tally d2) (tally d3) c.in_err-at-2.was c.from_residual-in_err-at-2.ensures.1 c.write_piece-in-writing.ensures.counts in
    let second = counted_then c.write_piece.result c.in_ok-at.at r (faults d1) (faults d2) (faults d3) (tally d1) (tally d2) (tally d3) c.in_ok-at.was c.write_piece.ensures.counts exit in
    counted_two 0 r (faults d0) (faults d1) (faults d3) (tally d0) (tally d1) (tally d3) c.writing.invariant.counts second

pub writing-init : goal.writing-init
writing-init g c =
    let seen = g.D.Disk.seen in
    let disk = c.args.disk.now in
    record {
      at = omega arith;
      writes = λ front place it. begins_as front (front ++ []) (seen (disk_of disk)) (sym (append-nil front)) it;
      len = λ within. omega (arith, within);
      behind = behind_not seen g.D.Disk.may_leave c.args.note.now c.args.from disk;
      counts = record { faults = refl; refused = record { caught = refl; refused = refl } };
      clean = refl;
      usable = c.requires.usable;
    }

pub returns-clause-next : goal.returns-clause-next
returns-clause-next g c =
    let parts = c.args.round.now.parts.items in
    let i = c.writing.part-index in
    let all : take i parts ≡ parts = take_all i parts (omega (arith, c.deref-part-items.ensures.len, c.writing-test.false, ap length c.deref-part-items.ensures.value)) in
    subst (λ (l : List Part). c.writing.at ≡ c.args.from + length (parts_text l)) all c.writing.invariant.at

pub returns-clause-writes : goal.returns-clause-writes
returns-clause-writes g c =
    let parts = c.args.round.now.parts.items in
    let i = c.writing.part-index in
    let all : take i parts ≡ parts = take_all i parts (omega (arith, c.deref-part-items.ensures.len, c.writing-test.false, ap length c.deref-part-items.ensures.value)) in
    λ front place it. subst (λ (l : List Part). BeginsWith (front ++ parts_text l) (g.D.Disk.seen (disk_of c.writing.disk))) all (c.writing.invariant.writes front place it)

pub returns-clause-len : goal.returns-clause-len
returns-clause-len g c =
    let parts = c.args.round.now.parts.items in
    let i = c.writing.part-index in
    let all : take i parts ≡ parts = take_all i parts (omega (arith, c.deref-part-items.ensures.len, c.writing-test.false, ap length c.deref-part-items.ensures.value)) in
    let seen = g.D.Disk.seen in
    let next = subst (λ (l : List Part). c.writing.at ≡ c.args.from + length (parts_text l)) all c.writing.invariant.at in
    λ within. subst (λ n. length (seen (disk_of c.writing.disk)) ≡ max (length (seen (disk_of c.args.disk.now))) n) next (c.writing.invariant.len within)

pub returns-clause-behind : goal.returns-clause-behind
returns-clause-behind g c = c.writing.invariant.behind

pub returns-clause-counts : goal.returns-clause-counts
returns-clause-counts g c =
    let faults = g.D.Disk.faults in
    let tally = g.D.Disk.tally_of in
    let d0 = disk_of c.args.disk.now in
    let d1 = disk_of c.writing.disk in
    counted_ok 0 c.writing.at (faults d0) (faults d1) (tally d0) (tally d1) c.writing.invariant.counts

pub returns-clause-clean : goal.returns-clause-clean
returns-clause-clean g c = c.writing.invariant.clean

pub returns-clause-usable : goal.returns-clause-usable
returns-clause-usable g c = c.writing.invariant.usable
