use Rattle.std.proofs.Common.{refl, take}
use Rattle.std.proofs.KnownBytes.{Keeps-refl}
use Rattle.http_frames.proofs.Ends.{wrong_end}
use Rattle.http_frames.specs.Frames.{bytes_at_hand, unread}
use Rattle.kept_frames.proofs.Standings.{kept_stays}
use Rattle.kept_frames.proofs.Steps.{fails, flushed, steps_break}
use Rattle.kept_frames.proofs.Taking.{read_broken, read_kept}
use Rattle.kept_frames.proofs.serving.go_on.Goals as goal

pub returns-in_err-take_next-clause-err : goal.returns-in_err-take_next-clause-err
returns-in_err-take_next-clause-err g c = fails c.from_residual.result c.in_err-take_next.ensures.err.1

pub returns-then-not-branch-clause-ok : goal.returns-then-not-branch-clause-ok
returns-then-not-branch-clause-ok g c =
    let x = rw c.if-not-branch.true at c.in_ok-take_next.ensures.ok in (
      x.0,
      Keeps-refl (unread g.I.Read.remaining c.args.frames.now),
      wrong_end g.I.Read.remaining c.args.frames.now c.take_next.new.clients c.in-Some.frame.head c.in-Some.frame.bytes.now c.in-Some.frame.length c.in-Some.ensures.some.1 x.1,
    )

pub returns-in-Some-clause-ok : goal.returns-in-Some-clause-ok
returns-in-Some-clause-ok g c =
    let text = take c.in-Some.frame.length (bytes_at_hand c.args.frames.now) in
    let taken = rw c.if-not-branch.false at c.in_ok-take_next.ensures.ok in
    let x = taken text c.in-Some.ensures.some.1 in (x.0, text, x.1, c.skip.ensures)

pub returns-in_err-flush-clause-err : goal.returns-in_err-flush-clause-err
returns-in_err-flush-clause-err g c = fails c.from_residual-in_err-flush.result (steps_break kept_stays (flushed kept_stays c.in_ok-round_or_ask.ensures.ok.1 c.flush.ensures.bytes))

pub returns-in_err-read_on-clause-err : goal.returns-in_err-read_on-clause-err
returns-in_err-read_on-clause-err g c =
    fails c.from_residual-in_err-read_on.result (read_broken kept_stays (flushed kept_stays c.in_ok-round_or_ask.ensures.ok.1 c.in_ok-flush.ensures.bytes) c.in_err-read_on.ensures.err)

pub returns-clause-ok : goal.returns-clause-ok
returns-clause-ok g c =
    read_kept kept_stays c.read_on.new.clients (unread g.I.Read.remaining c.args.frames.now) (unread g.I.Read.remaining c.read_on.new.frames) c.in_ok-read_on.field-0 (flushed kept_stays c.in_ok-round_or_ask.ensures.ok.1 c.in_ok-flush.ensures.bytes) (c.in_ok-read_on.ensures.ok (c.in_default.ensures.none refl))
