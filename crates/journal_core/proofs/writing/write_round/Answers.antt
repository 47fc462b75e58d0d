-- Piece by piece, each behind the one before.
use Rattle.std.proofs.Common.{◌≡◌, ◌++◌, ℕ, List, inl, inr, length, sym, ◌∙◌, ap, arith, append_assoc, length-append, Result, subst, is_ok}
use Rattle.std.proofs.lemmas.Result.{IfOk-from_err}
use Rattle.std.specs.declared.io.Error.{Error}
use Rattle.journal_core.specs.Clocked.{disk_of}
use Rattle.journal_core.specs.Format.{round_text, shut_word, sum_of, word_of}
use Rattle.journal_core.specs.Private.Stages.{parts_text, round_bytes, IsCounted}
use Rattle.journal_core.proofs.Staging.{begins_as, begins_in, behind_next, behind_sync, behind_two, counted_ok, exit_counted, then_counted}
use Rattle.journal_core.proofs.Numbers.{word_as}
use Rattle.journal_core.proofs.writing.write_round.Goals as goal

pub returns-in_err-at-2-clause-behind : goal.returns-in_err-at-2-clause-behind
returns-in_err-at-2-clause-behind g c =
    behind_next _ c.in_ok-at.ensures.next c.write_piece.ensures.behind
    c.write_piece-2.ensures.behind

pub returns-in_err-at-3-clause-behind : goal.returns-in_err-at-3-clause-behind
returns-in_err-at-3-clause-behind g c =
    behind_next _ c.in_ok-at.ensures.next c.write_piece.ensures.behind
    (behind_next _ c.in_ok-at-2.ensures.next c.write_piece-2.ensures.behind
    c.write_parts.ensures.behind)

pub returns-in_err-at-4-clause-behind : goal.returns-in_err-at-4-clause-behind
returns-in_err-at-4-clause-behind g c =
    behind_next _ c.in_ok-at.ensures.next c.write_piece.ensures.behind
    (behind_next _ c.in_ok-at-2.ensures.next c.write_piece-2.ensures.behind
    (behind_next _ c.in_ok-at-3.ensures.next c.write_parts.ensures.behind
    c.write_piece-3.ensures.behind))

pub returns-in_err-_end-clause-behind : goal.returns-in_err-_end-clause-behind
returns-in_err-_end-clause-behind g c =
    behind_next _ c.in_ok-at.ensures.next c.write_piece.ensures.behind
    (behind_next _ c.in_ok-at-2.ensures.next c.write_piece-2.ensures.behind
    (behind_next _ c.in_ok-at-3.ensures.next c.write_parts.ensures.behind
    (behind_next _ c.in_ok-at-4.ensures.next c.write_piece-3.ensures.behind
    c.write_piece-4.ensures.behind)))

pub returns-in_err-sync-clause-behind : goal.returns-in_err-sync-clause-behind
returns-in_err-sync-clause-behind g c =
    behind_next _ c.in_ok-at.ensures.next c.write_piece.ensures.behind
    (behind_next _ c.in_ok-at-2.ensures.next c.write_piece-2.ensures.behind
    (behind_next _ c.in_ok-at-3.ensures.next c.write_parts.ensures.behind
    (behind_next _ c.in_ok-at-4.ensures.next c.write_piece-3.ensures.behind
    (behind_two g.D.Disk.seen g.D.Disk.may_leave c.args.note.now c.in_ok-at-4.at c.write_piece-3.new.disk c.write_piece-4.new.disk c.sync.new.self c.write_piece-4.ensures.behind
    (behind_sync g.D.Disk.seen g.D.Disk.may_leave c.args.note.now c.in_ok-at-4.at c.write_piece-4.new.disk c.sync.new.self c.sync.ensures.noted c.sync.ensures.seen c.sync.ensures.crash)))))

pub returns-clause-behind : goal.returns-clause-behind
returns-clause-behind g c =
    behind_next _ c.in_ok-at.ensures.next c.write_piece.ensures.behind
    (behind_next _ c.in_ok-at-2.ensures.next c.write_piece-2.ensures.behind
    (behind_next _ c.in_ok-at-3.ensures.next c.write_parts.ensures.behind
    (behind_next _ c.in_ok-at-4.ensures.next c.write_piece-3.ensures.behind
    (behind_two g.D.Disk.seen g.D.Disk.may_leave c.args.note.now c.in_ok-at-4.at c.write_piece-3.new.disk c.write_piece-4.new.disk c.sync.new.self c.write_piece-4.ensures.behind
    (behind_sync g.D.Disk.seen g.D.Disk.may_leave c.args.note.now c.in_ok-at-4.at c.write_piece-4.new.disk c.sync.new.self c.sync.ensures.noted c.sync.ensures.seen c.sync.ensures.crash)))))

pub returns-clause-durable : goal.returns-clause-durable
returns-clause-durable g c = λ f left. c.in_ok-sync.ensures.durable f left ∙ sym c.sync.ensures.seen

whole : (front one two parts tail : List ℕ) → (((((front ++ one) ++ two) ++ parts) ++ tail) ++ shut_word) ≡ front ++ ((one ++ (two ++ (parts ++ tail))) ++ shut_word)
whole front one two parts tail = simp append_assoc

pub returns-clause-writes : goal.returns-clause-writes
returns-clause-writes g c = λ front place it.
    let seen = g.D.Disk.seen in
    let r = c.args.round.now in
    let bytes = round_bytes r in
    let parts = parts_text r.parts.items in
    let tail = r.tail.items in
    let one = c.to_le_bytes.result in
    let two = c.to_le_bytes-2.result in
    let one_is = word_as c.args.len (length bytes) one c.to_le_bytes.ensures c.requires.len in
    let two_is = word_as c.sum-sum.result (sum_of c.args.key c.args.gate bytes) two c.to_le_bytes-2.ensures c.sum-sum.ensures in
    let there1 = c.in_ok-at.ensures.writes front place it in
    let len1 : length (front ++ one) ≡ c.in_ok-at.at = omega (arith, length-append front one, place, c.in_ok-at.ensures.next) in
    let there2 = c.in_ok-at-2.ensures.writes (front ++ one) len1 there1 in
    let len2 : length ((front ++ one) ++ two) ≡ c.in_ok-at-2.at = omega (arith, length-append (front ++ one) two, len1, c.in_ok-at-2.ensures.next) in
    let there3 = c.in_ok-at-3.ensures.writes ((front ++ one) ++ two) len2 there2 in
    let len3 : length (((front ++ one) ++ two) ++ parts) ≡ c.in_ok-at-3.at = omega (arith, length-append ((front ++ one) ++ two) parts, len2, c.in_ok-at-3.ensures.next) in
    let there4 = begins_as ((((front ++ one) ++ two) ++ parts) ++ c.deref.result.now) ((((front ++ one) ++ two) ++ parts) ++ tail) (seen (disk_of c.write_piece-3.new.disk)) (ap (λ (l : List ℕ). (((front ++ one) ++ two) ++ parts) ++ l) c.deref.ensures.value)
    (c.in_ok-at-4.ensures.writes (((front ++ one) ++ two) ++ parts) len3 there3) in
    let len4 : length ((((front ++ one) ++ two) ++ parts) ++ tail) ≡ c.in_ok-at-4.at = omega (arith, length-append (((front ++ one) ++ two) ++ parts) tail, len3, c.in_ok-at-4.ensures.next, ap length c.deref.ensures.value) in
    let there5 = c.in_ok-_end.ensures.writes ((((front ++ one) ++ two) ++ parts) ++ tail) len4 there4 in
    begins_in (front ++ (round_text c.args.key c.args.gate bytes ++ shut_word)) (seen (disk_of c.write_piece-4.new.disk)) (seen (disk_of c.sync.new.self)) (sym c.sync.ensures.seen)
    (begins_as (((((front ++ one) ++ two) ++ parts) ++ tail) ++ shut_word) (front ++ (round_text c.args.key c.args.gate bytes ++ shut_word)) (seen (disk_of c.write_piece-4.new.disk))
    (whole front one two parts tail ∙ ap (λ (l : List ℕ). front ++ ((l ++ (two ++ (parts ++ tail))) ++ shut_word)) one_is ∙ ap (λ (l : List ℕ). front ++ ((word_of (length bytes) ++ (l ++ (parts ++ tail))) ++ shut_word)) two_is)
    there5)

pub returns-clause-len : goal.returns-clause-len
returns-clause-len g c =
    let r = c.args.round.now in
    let one : length c.to_le_bytes.result ≡ 8 = ap length c.to_le_bytes.ensures in
    let two : length c.to_le_bytes-2.result ≡ 8 = ap length c.to_le_bytes-2.ensures in
    let tail : length c.deref.result.now ≡ length r.tail.items = ap length c.deref.ensures.value in
    let l1 = c.in_ok-at.ensures.len (inl (omega (arith, one))) in
    let l2 = c.in_ok-at-2.ensures.len (inl (omega (arith, two))) in
    let l3 = c.in_ok-at-3.ensures.len (omega (arith, l2, c.in_ok-at-2.ensures.next)) in
    let l4 = c.in_ok-at-4.ensures.len (inr (omega (arith, l3, c.in_ok-at-3.ensures.next))) in
    let l5 = c.in_ok-_end.ensures.len (inl (omega arith)) in
    ap length c.sync.ensures.seen ∙ omega (
      arith,
      l1,
      l2,
      l3,
      l4,
      l5,
      one,
      two,
      tail,
      length-append (parts_text r.parts.items) r.tail.items,
      c.in_ok-at.ensures.next,
      c.in_ok-at-2.ensures.next,
      c.in_ok-at-3.ensures.next,
      c.in_ok-at-4.ensures.next,
    )

pub write_piece-requires-clause-fits : goal.write_piece-requires-clause-fits
write_piece-requires-clause-fits g c =
    let one : length c.to_le_bytes.result ≡ 8 = ap length c.to_le_bytes.ensures in
    omega (arith, one, c.requires.fits)

pub write_piece-requires-2-clause-fits : goal.write_piece-requires-2-clause-fits
write_piece-requires-2-clause-fits g c =
    let one : length c.to_le_bytes.result ≡ 8 = ap length c.to_le_bytes.ensures in
    let two : length c.to_le_bytes-2.result ≡ 8 = ap length c.to_le_bytes-2.ensures in
    omega (arith, one, two, c.in_ok-at.ensures.next, c.requires.fits)

pub write_parts-requires-clause-fits : goal.write_parts-requires-clause-fits
write_parts-requires-clause-fits g c =
    let one : length c.to_le_bytes.result ≡ 8 = ap length c.to_le_bytes.ensures in
    let two : length c.to_le_bytes-2.result ≡ 8 = ap length c.to_le_bytes-2.ensures in
    let bytes = length-append (parts_text c.args.round.now.parts.items) c.args.round.now.tail.items in
    omega (arith, one, two, bytes, c.in_ok-at.ensures.next, c.in_ok-at-2.ensures.next, c.requires.fits)

pub write_piece-requires-3-clause-fits : goal.write_piece-requires-3-clause-fits
write_piece-requires-3-clause-fits g c =
    let one : length c.to_le_bytes.result ≡ 8 = ap length c.to_le_bytes.ensures in
    let two : length c.to_le_bytes-2.result ≡ 8 = ap length c.to_le_bytes-2.ensures in
    let bytes = length-append (parts_text c.args.round.now.parts.items) c.args.round.now.tail.items in
    let tail : length c.deref.result.now ≡ length c.args.round.now.tail.items = ap length c.deref.ensures.value in
    omega (arith, one, two, bytes, tail, c.in_ok-at.ensures.next, c.in_ok-at-2.ensures.next, c.in_ok-at-3.ensures.next, c.requires.fits)

pub write_piece-requires-4-clause-fits : goal.write_piece-requires-4-clause-fits
write_piece-requires-4-clause-fits g c =
    let one : length c.to_le_bytes.result ≡ 8 = ap length c.to_le_bytes.ensures in
    let two : length c.to_le_bytes-2.result ≡ 8 = ap length c.to_le_bytes-2.ensures in
    let bytes = length-append (parts_text c.args.round.now.parts.items) c.args.round.now.tail.items in
    let tail : length c.deref.result.now ≡ length c.args.round.now.tail.items = ap length c.deref.ensures.value in
    omega (arith, one, two, bytes, tail, c.in_ok-at.ensures.next, c.in_ok-at-2.ensures.next, c.in_ok-at-3.ensures.next, c.in_ok-at-4.ensures.next, c.requires.fits)

pub returns-clause-next : goal.returns-clause-next
returns-clause-next g c =
    let one : length c.to_le_bytes.result ≡ 8 = ap length c.to_le_bytes.ensures in
    let two : length c.to_le_bytes-2.result ≡ 8 = ap length c.to_le_bytes-2.ensures in
    let bytes = length-append (parts_text c.args.round.now.parts.items) c.args.round.now.tail.items in
    let tail : length c.deref.result.now ≡ length c.args.round.now.tail.items = ap length c.deref.ensures.value in
    omega (arith, one, two, bytes, tail, c.in_ok-at.ensures.next, c.in_ok-at-2.ensures.next, c.in_ok-at-3.ensures.next, c.in_ok-at-4.ensures.next)

pub returns-in_err-at-clause-next : goal.returns-in_err-at-clause-next
returns-in_err-at-clause-next g c = IfOk-from_err c.from_residual.result _ c.from_residual.ensures.0

pub returns-in_err-at-clause-writes : goal.returns-in_err-at-clause-writes
returns-in_err-at-clause-writes g c = IfOk-from_err c.from_residual.result _ c.from_residual.ensures.0

pub returns-in_err-at-clause-len : goal.returns-in_err-at-clause-len
returns-in_err-at-clause-len g c = IfOk-from_err c.from_residual.result _ c.from_residual.ensures.0

pub returns-in_err-at-clause-durable : goal.returns-in_err-at-clause-durable
returns-in_err-at-clause-durable g c = IfOk-from_err c.from_residual.result _ c.from_residual.ensures.0

pub returns-in_err-at-clause-usable : goal.returns-in_err-at-clause-usable
returns-in_err-at-clause-usable g c = IfOk-from_err c.from_residual.result _ c.from_residual.ensures.0

pub returns-in_err-at-2-clause-next : goal.returns-in_err-at-2-clause-next
returns-in_err-at-2-clause-next g c = IfOk-from_err c.from_residual-in_err-at-2.result _ c.from_residual-in_err-at-2.ensures.0

pub returns-in_err-at-2-clause-writes : goal.returns-in_err-at-2-clause-writes
returns-in_err-at-2-clause-writes g c = IfOk-from_err c.from_residual-in_err-at-2.result _ c.from_residual-in_err-at-2.ensures.0

pub returns-in_err-at-2-clause-len : goal.returns-in_err-at-2-clause-len
returns-in_err-at-2-clause-len g c = IfOk-from_err c.from_residual-in_err-at-2.result _ c.from_residual-in_err-at-2.ensures.0

pub returns-in_err-at-2-clause-durable : goal.returns-in_err-at-2-clause-durable
returns-in_err-at-2-clause-durable g c = IfOk-from_err c.from_residual-in_err-at-2.result _ c.from_residual-in_err-at-2.ensures.0

pub returns-in_err-at-2-clause-usable : goal.returns-in_err-at-2-clause-usable
returns-in_err-at-2-clause-usable g c = IfOk-from_err c.from_residual-in_err-at-2.result _ c.from_residual-in_err-at-2.ensures.0

pub returns-in_err-at-3-clause-next : goal.returns-in_err-at-3-clause-next
returns-in_err-at-3-clause-next g c = IfOk-from_err c.from_residual-in_err-at-3.result _ c.from_residual-in_err-at-3.ensures.0

pub returns-in_err-at-3-clause-writes : goal.returns-in_err-at-3-clause-writes
returns-in_err-at-3-clause-writes g c = IfOk-from_err c.from_residual-in_err-at-3.result _ c.from_residual-in_err-at-3.ensures.0

pub returns-in_err-at-3-clause-len : goal.returns-in_err-at-3-clause-len
returns-in_err-at-3-clause-len g c = IfOk-from_err c.from_residual-in_err-at-3.result _ c.from_residual-in_err-at-3.ensures.0

pub returns-in_err-at-3-clause-durable : goal.returns-in_err-at-3-clause-durable
returns-in_err-at-3-clause-durable g c = IfOk-from_err c.from_residual-in_err-at-3.result _ c.from_residual-in_err-at-3.ensures.0

pub returns-in_err-at-3-clause-usable : goal.returns-in_err-at-3-clause-usable
returns-in_err-at-3-clause-usable g c = IfOk-from_err c.from_residual-in_err-at-3.result _ c.from_residual-in_err-at-3.ensures.0

pub returns-in_err-at-4-clause-next : goal.returns-in_err-at-4-clause-next
returns-in_err-at-4-clause-next g c = IfOk-from_err c.from_residual-in_err-at-4.result _ c.from_residual-in_err-at-4.ensures.0

pub returns-in_err-at-4-clause-writes : goal.returns-in_err-at-4-clause-writes
returns-in_err-at-4-clause-writes g c = IfOk-from_err c.from_residual-in_err-at-4.result _ c.from_residual-in_err-at-4.ensures.0

pub returns-in_err-at-4-clause-len : goal.returns-in_err-at-4-clause-len
returns-in_err-at-4-clause-len g c = IfOk-from_err c.from_residual-in_err-at-4.result _ c.from_residual-in_err-at-4.ensures.0

pub returns-in_err-at-4-clause-durable : goal.returns-in_err-at-4-clause-durable
returns-in_err-at-4-clause-durable g c = IfOk-from_err c.from_residual-in_err-at-4.result _ c.from_residual-in_err-at-4.ensures.0

pub returns-in_err-at-4-clause-usable : goal.returns-in_err-at-4-clause-usable
returns-in_err-at-4-clause-usable g c = IfOk-from_err c.from_residual-in_err-at-4.result _ c.from_residual-in_err-at-4.ensures.0

pub returns-in_err-_end-clause-next : goal.returns-in_err-_end-clause-next
returns-in_err-_end-clause-next g c = IfOk-from_err c.from_residual-in_err-_end.result _ c.from_residual-in_err-_end.ensures.0

pub returns-in_err-_end-clause-writes : goal.returns-in_err-_end-clause-writes
returns-in_err-_end-clause-writes g c = IfOk-from_err c.from_residual-in_err-_end.result _ c.from_residual-in_err-_end.ensures.0

pub returns-in_err-_end-clause-len : goal.returns-in_err-_end-clause-len
returns-in_err-_end-clause-len g c = IfOk-from_err c.from_residual-in_err-_end.result _ c.from_residual-in_err-_end.ensures.0

pub returns-in_err-_end-clause-durable : goal.returns-in_err-_end-clause-durable
returns-in_err-_end-clause-durable g c = IfOk-from_err c.from_residual-in_err-_end.result _ c.from_residual-in_err-_end.ensures.0

pub returns-in_err-_end-clause-usable : goal.returns-in_err-_end-clause-usable
returns-in_err-_end-clause-usable g c = IfOk-from_err c.from_residual-in_err-_end.result _ c.from_residual-in_err-_end.ensures.0

pub returns-in_err-sync-clause-next : goal.returns-in_err-sync-clause-next
returns-in_err-sync-clause-next g c = IfOk-from_err c.from_residual-in_err-sync.result _ c.from_residual-in_err-sync.ensures.0

pub returns-in_err-sync-clause-writes : goal.returns-in_err-sync-clause-writes
returns-in_err-sync-clause-writes g c = IfOk-from_err c.from_residual-in_err-sync.result _ c.from_residual-in_err-sync.ensures.0

pub returns-in_err-sync-clause-len : goal.returns-in_err-sync-clause-len
returns-in_err-sync-clause-len g c = IfOk-from_err c.from_residual-in_err-sync.result _ c.from_residual-in_err-sync.ensures.0

pub returns-in_err-sync-clause-durable : goal.returns-in_err-sync-clause-durable
returns-in_err-sync-clause-durable g c = IfOk-from_err c.from_residual-in_err-sync.result _ c.from_residual-in_err-sync.ensures.0

pub returns-in_err-sync-clause-usable : goal.returns-in_err-sync-clause-usable
returns-in_err-sync-clause-usable g c = IfOk-from_err c.from_residual-in_err-sync.result _ c.from_residual-in_err-sync.ensures.0

pub returns-in_err-at-clause-counts : goal.returns-in_err-at-clause-counts
returns-in_err-at-clause-counts g c =
    exit_counted c.in_err-at.was c.from_residual.ensures.1 c.write_piece.ensures.counts

pub returns-in_err-at-2-clause-counts : goal.returns-in_err-at-2-clause-counts
returns-in_err-at-2-clause-counts g c =
    then_counted c.in_ok-at.was c.write_piece.ensures.counts
    (exit_counted c.in_err-at-2.was c.from_residual-in_err-at-2.ensures.1 c.write_piece-2.ensures.counts)

pub returns-in_err-at-3-clause-counts : goal.returns-in_err-at-3-clause-counts
returns-in_err-at-3-clause-counts g c =
    then_counted c.in_ok-at.was c.write_piece.ensures.counts
    (then_counted c.in_ok-at-2.was c.write_piece-2.ensures.counts
    (exit_counted c.in_err-at-3.was c.from_residual-in_err-at-3.ensures.1 c.write_parts.ensures.counts))

pub returns-in_err-at-4-clause-counts : goal.returns-in_err-at-4-clause-counts
returns-in_err-at-4-clause-counts g c =
    then_counted c.in_ok-at.was c.write_piece.ensures.counts
    (then_counted c.in_ok-at-2.was c.write_piece-2.ensures.counts
    (then_counted c.in_ok-at-3.was c.write_parts.ensures.counts
    (exit_counted c.in_err-at-4.was c.from_residual-in_err-at-4.ensures.1 c.write_piece-3.ensures.counts)))

pub returns-in_err-_end-clause-counts : goal.returns-in_err-_end-clause-counts
returns-in_err-_end-clause-counts g c =
    then_counted c.in_ok-at.was c.write_piece.ensures.counts
    (then_counted c.in_ok-at-2.was c.write_piece-2.ensures.counts
    (then_counted c.in_ok-at-3.was c.write_parts.ensures.counts
    (then_counted c.in_ok-at-4.was c.write_piece-3.ensures.counts
    (exit_counted c.in_err-_end.was c.from_residual-in_err-_end.ensures.1 c.write_piece-4.ensures.counts))))

pub returns-in_err-sync-clause-counts : goal.returns-in_err-sync-clause-counts
returns-in_err-sync-clause-counts g c =
    let faults = g.D.Disk.faults in
    let tally = g.D.Disk.tally_of in
    let d5 = disk_of c.write_piece-4.new.disk in
    let d6 = disk_of c.sync.new.self in
    let synced : IsCounted c.sync.result (faults d5) (faults d6) (tally d5) (tally d6) = record { faults = c.sync.ensures.faults; refused = c.sync.ensures.tally } in
    then_counted c.in_ok-at.was c.write_piece.ensures.counts
    (then_counted c.in_ok-at-2.was c.write_piece-2.ensures.counts
    (then_counted c.in_ok-at-3.was c.write_parts.ensures.counts
    (then_counted c.in_ok-at-4.was c.write_piece-3.ensures.counts
    (then_counted c.in_ok-_end.was c.write_piece-4.ensures.counts
    (exit_counted c.in_err-sync.was c.from_residual-in_err-sync.ensures.1 synced)))))

pub returns-clause-counts : goal.returns-clause-counts
returns-clause-counts g c =
    let faults = g.D.Disk.faults in
    let tally = g.D.Disk.tally_of in
    let d5 = disk_of c.write_piece-4.new.disk in
    let d6 = disk_of c.sync.new.self in
    let synced : IsCounted c.sync.result (faults d5) (faults d6) (tally d5) (tally d6) = record { faults = c.sync.ensures.faults; refused = c.sync.ensures.tally } in
    then_counted c.in_ok-at.was c.write_piece.ensures.counts
    (then_counted c.in_ok-at-2.was c.write_piece-2.ensures.counts
    (then_counted c.in_ok-at-3.was c.write_parts.ensures.counts
    (then_counted c.in_ok-at-4.was c.write_piece-3.ensures.counts
    (then_counted c.in_ok-_end.was c.write_piece-4.ensures.counts
    (counted_ok tt c.in_ok-at-4.at (faults d5) (faults d6) (tally d5) (tally d6) (subst (λ (r : Result (Unit {0}) Error). IsCounted r (faults d5) (faults d6) (tally d5) (tally d6)) c.in_ok-sync.was synced))))))

pub returns-in_err-at-clause-clean : goal.returns-in_err-at-clause-clean
returns-in_err-at-clause-clean g c = c.write_piece.ensures.clean

pub returns-in_err-at-2-clause-clean : goal.returns-in_err-at-2-clause-clean
returns-in_err-at-2-clause-clean g c = c.write_piece-2.ensures.clean ∙ c.write_piece.ensures.clean

pub returns-in_err-at-3-clause-clean : goal.returns-in_err-at-3-clause-clean
returns-in_err-at-3-clause-clean g c = c.write_parts.ensures.clean ∙ c.write_piece-2.ensures.clean ∙ c.write_piece.ensures.clean

pub returns-in_err-at-4-clause-clean : goal.returns-in_err-at-4-clause-clean
returns-in_err-at-4-clause-clean g c = c.write_piece-3.ensures.clean ∙ c.write_parts.ensures.clean ∙ c.write_piece-2.ensures.clean ∙ c.write_piece.ensures.clean

pub returns-in_err-_end-clause-clean : goal.returns-in_err-_end-clause-clean
returns-in_err-_end-clause-clean g c = c.write_piece-4.ensures.clean ∙ c.write_piece-3.ensures.clean ∙ c.write_parts.ensures.clean ∙ c.write_piece-2.ensures.clean ∙ c.write_piece.ensures.clean

pub returns-in_err-sync-clause-clean : goal.returns-in_err-sync-clause-clean
returns-in_err-sync-clause-clean g c = c.sync.ensures.clean ∙ c.write_piece-4.ensures.clean ∙ c.write_piece-3.ensures.clean ∙ c.write_parts.ensures.clean ∙ c.write_piece-2.ensures.clean ∙ c.write_piece.ensures.clean

pub returns-clause-clean : goal.returns-clause-clean
returns-clause-clean g c = c.sync.ensures.clean ∙ c.write_piece-4.ensures.clean ∙ c.write_piece-3.ensures.clean ∙ c.write_parts.ensures.clean ∙ c.write_piece-2.ensures.clean ∙ c.write_piece.ensures.clean

pub returns-clause-usable : goal.returns-clause-usable
returns-clause-usable g c = c.sync.ensures.usable ∙ ap is_ok c.in_ok-sync.was

pub returns-in_err-at-clause-behind : goal.returns-in_err-at-clause-behind
returns-in_err-at-clause-behind g c =
    c.write_piece.ensures.behind

pub write_piece-requires-clause-usable : goal.write_piece-requires-clause-usable
write_piece-requires-clause-usable g c = c.requires.usable

pub write_piece-requires-2-clause-usable : goal.write_piece-requires-2-clause-usable
write_piece-requires-2-clause-usable g c = c.write_piece.ensures.usable

pub write_parts-requires-clause-usable : goal.write_parts-requires-clause-usable
write_parts-requires-clause-usable g c = c.write_piece-2.ensures.usable

pub write_piece-requires-3-clause-usable : goal.write_piece-requires-3-clause-usable
write_piece-requires-3-clause-usable g c = c.write_parts.ensures.usable

pub write_piece-requires-4-clause-usable : goal.write_piece-requires-4-clause-usable
write_piece-requires-4-clause-usable g c = c.write_piece-3.ensures.usable

pub sync-requires : goal.sync-requires
sync-requires g c = c.write_piece-4.ensures.usable
