use Rattle.std.proofs.Common.{[], ◌∷◌}
use Rattle.http_frames.proofs.Results.{on_err}
use Rattle.kept_frames.proofs.Steps.{fails}
use Rattle.kept_frames.proofs.Waits.{turn_given, turn_told, turn_unrecorded, turn_untold}
use Rattle.kept_frames.proofs.late.answer_next.Goals as goal

pub returns-in_err-make_way-clause-err : goal.returns-in_err-make_way-clause-err
returns-in_err-make_way-clause-err g c = fails c.from_residual.result c.in_err-make_way.ensures.err.1

pub returns-in_err-number-clause-err : goal.returns-in_err-number-clause-err
returns-in_err-number-clause-err g c = on_err _ (turn_unrecorded c.args.waiting.now c.make_way.new.waiting c.in_ok-make_way.ensures.ok c.in_err-number.ensures.err)

pub returns-in_default-clause-ok : goal.returns-in_default-clause-ok
returns-in_default-clause-ok g c =
    turn_given c.args.waiting.now c.make_way.new.waiting c.in_ok-make_way.ensures.ok [] c.give_turn.new.round (rw c.in_default.is at c.in_ok-number.ensures.ok)

pub returns-in_err-tell-clause-err : goal.returns-in_err-tell-clause-err
returns-in_err-tell-clause-err g c =
    on_err _
    (turn_untold c.args.waiting.now c.give_turn.new.round
    (turn_given c.args.waiting.now c.make_way.new.waiting c.in_ok-make_way.ensures.ok (c.in-Some.number ∷ []) c.give_turn.new.round (rw c.in-Some.is at c.in_ok-number.ensures.ok)) c.in_err-tell.ensures.err)

pub returns-clause-ok : goal.returns-clause-ok
returns-clause-ok g c =
    turn_told c.args.waiting.now c.give_turn.new.round
    (turn_given c.args.waiting.now c.make_way.new.waiting c.in_ok-make_way.ensures.ok (c.in-Some.number ∷ []) c.give_turn.new.round (rw c.in-Some.is at c.in_ok-number.ensures.ok)) c.in_ok-tell.ensures.ok
    c.note.ensures.noted c.note.ensures.header c.note.ensures.settled
