use Rattle.std.proofs.Common.{[], ◌++◌, Bool, IsTrue, length, ap, subst, arith, eqb-true, refl, sym, ◌∙◌}
use Rattle.std.proofs.lemmas.List.{nil_from_length}
use Rattle.journal_core.specs.Resting.{Carries}
use Rattle.kept_frames.specs.KeptMoments.{IsTurn}
use Rattle.kept_frames.proofs.Giving.{NoneWait, append_broken, appended, begin_waiting, turned, ungiven, unrecorded}
use Rattle.kept_frames.proofs.Noting.{told_broken, told_noted}
use Rattle.kept_frames.proofs.Rooms.{either_made, nothing_done, within_room}
use Rattle.kept_frames.proofs.Standings.{kept_stays}
use Rattle.kept_frames.proofs.Steps.{breaks_then, fails, steps_then}
use Rattle.kept_frames.proofs.rounds.give_round.Goals as goal

pub returns-in_err-turned-clause-err : goal.returns-in_err-turned-clause-err
returns-in_err-turned-clause-err g c =
    fails c.from_residual.result
    (breaks_then (begin_waiting IsTurn NoneWait refl c.args.clients.now c.args.service.now.service c.args.journal.now c.args.output.now)
    (unrecorded IsTurn NoneWait (λ e turn. turn) c.in_err-turned.ensures.err.1 c.give_turns.ensures.keeps))

pub returns-then-is_empty-clause-ok : goal.returns-then-is_empty-clause-ok
returns-then-is_empty-clause-ok g c =
    let numbers = c.in_ok-turned.turned.numbers in
    ungiven IsTurn NoneWait (λ e turn. turn) refl numbers.items c.in_ok-turned.turned.round c.in_ok-turned.ensures.ok
    (nil_from_length numbers.items (omega (arith, numbers.ok.0, eqb-true _ 0 (sym c.is_empty.ensures ∙ c.if-is_empty.true)))) c.give_turns.ensures.keeps c.in_ok-turned.ensures.stays

pub returns-in_err-append-clause-err : goal.returns-in_err-append-clause-err
returns-in_err-append-clause-err g c =
    let turned_by = c.in_ok-turned.turned in
    let either = either_made (Carries turned_by.round) c.give_turns.new.journal c.append.new.self c.args.output.now c.append.ensures.header (λ records new settled carries. c.append.ensures.any_moment records new settled carries)
    (λ records new settled carries. c.append.ensures.crash records new settled carries) in
    fails c.from_residual-in_err-append.result
    (breaks_then (turned turned_by.numbers.items turned_by.round c.in_ok-turned.ensures.ok c.give_turns.ensures.keeps c.in_ok-turned.ensures.stays)
    (append_broken IsTurn (Carries turned_by.round) c.give_turns.new.clients c.give_turns.new.service.service either))

pub returns-in_err-tell_each-clause-err : goal.returns-in_err-tell_each-clause-err
returns-in_err-tell_each-clause-err g c =
    let turned_by = c.in_ok-turned.turned in
    let either = either_made (Carries turned_by.round) c.give_turns.new.journal c.append.new.self c.args.output.now c.append.ensures.header (λ records new settled carries. c.append.ensures.any_moment records new settled carries)
    (λ records new settled carries. c.append.ensures.crash records new settled carries) in
    fails c.from_residual-in_err-tell_each.result
    (breaks_then
    (steps_then (turned turned_by.numbers.items turned_by.round c.in_ok-turned.ensures.ok c.give_turns.ensures.keeps c.in_ok-turned.ensures.stays)
    (appended IsTurn (Carries turned_by.round) c.give_turns.new.clients c.give_turns.new.service.service either (λ records new settled carries. c.in_ok-append.ensures.acknowledged records new settled carries)))
    (told_broken kept_stays c.in_err-tell_each.ensures.err))

pub returns-clause-ok : goal.returns-clause-ok
returns-clause-ok g c =
    let turned_by = c.in_ok-turned.turned in
    let t = c.in_ok-tell_each.ensures.ok in
    let either = either_made (Carries turned_by.round) c.give_turns.new.journal c.append.new.self c.args.output.now c.append.ensures.header (λ records new settled carries. c.append.ensures.any_moment records new settled carries)
    (λ records new settled carries. c.append.ensures.crash records new settled carries) in (
      (c.in_ok-turned.ensures.ok.0 ++ []) ++ t.0,
      steps_then
          (steps_then (turned turned_by.numbers.items turned_by.round c.in_ok-turned.ensures.ok c.give_turns.ensures.keeps c.in_ok-turned.ensures.stays)
          (appended IsTurn (Carries turned_by.round) c.give_turns.new.clients c.give_turns.new.service.service either (λ records new settled carries. c.in_ok-append.ensures.acknowledged records new settled carries)))
          (told_noted kept_stays t c.note.ensures.noted c.note.ensures.header c.note.ensures.settled),
    )

pub returns-then-is_empty-clause-grows : goal.returns-then-is_empty-clause-grows
returns-then-is_empty-clause-grows g c = λ records settled. record { made = c.give_turns.new.journal; keeps = c.give_turns.ensures.keeps; within = λ clean. refl }

pub returns-clause-grows : goal.returns-clause-grows
returns-clause-grows g c = λ records settled.
    let made = c.give_turns.new.journal in
    let after = c.append.new.self in
    let round = c.in_ok-turned.turned.round in
    let new = c.in_ok-turned.ensures.ok.3.0 in
    let carries = c.in_ok-turned.ensures.ok.3.1 in
    record {
      made = made;
      keeps = c.give_turns.ensures.keeps;
      within = λ clean.
          ap (λ (d : g.row.D.Denot). length (g.D.Disk.seen d)) c.note.ensures.disk ∙
          within_room made after records new round (c.in_ok-turned.ensures.stays records settled) carries c.in_ok-append.ensures.room
          (nothing_done made after round c.append.ensures.not_open c.append.ensures.nothing) (c.in_ok-turned.ensures.room records new settled carries)
          (subst (λ (b : Bool). IsTrue b) (ap g.D.Disk.is_clean c.note.ensures.disk ∙ c.append.ensures.clean) clean);
    }
