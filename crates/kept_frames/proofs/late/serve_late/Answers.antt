use Rattle.std.proofs.Common.{[], Err, refl}
use Rattle.std.proofs.KnownBytes.{Consumes-nil}
use Rattle.line_streams.specs.declared.Fault.TheVariants.{Io}
use Rattle.http_frames.specs.ConnectionEvents.{IsNoTick}
use Rattle.http_frames.specs.Frames.{unread}
use Rattle.journal_core.specs.Resting.{Carries}
use Rattle.kept_frames.specs.declared.error.KeptError.TheVariants.{Stream}
use Rattle.kept_frames.proofs.Giving.{begin_waiting}
use Rattle.kept_frames.proofs.Standings.{tick_stays, waiting_stays}
use Rattle.kept_frames.proofs.Steps.{breaks_then, serves_then, steps_break, steps_then}
use Rattle.kept_frames.proofs.WholeRuns.{broke_kept, ended_kept}
use Rattle.kept_frames.proofs.late.serve_late.Goals as goal

pub loop-step-init : goal.loop-step-init
loop-step-init g c = record {
  served = (
    [],
    [],
    begin_waiting IsNoTick (Carries c.new-waiting.result) c.new-waiting.ensures c.args.clients.now c.args.service.now.service c.args.journal.now c.args.output.now,
    Consumes-nil (unread g.I.Read.remaining c.args.frames.now),
  );
  usable = c.requires.usable;
}

pub returns-in_err-ended : goal.returns-in_err-ended
returns-in_err-ended g c = record {
  kept = λ records has settled stand.
      broke_kept c.from_residual.result records c.from_residual.ensures.0 has settled stand (breaks_then c.loop-step.invariant.served.2 c.in_err-ended.ensures.err.1);
}

pub returns-in_err-finish : goal.returns-in_err-finish
returns-in_err-finish g c = record {
  kept = λ records has settled stand.
      let end = rw c.in-Some.is at c.in_ok-ended.ensures.ok in
      broke_kept c.from_residual-in_err-finish.result records c.from_residual-in_err-finish.ensures.0 has settled stand
      (breaks_then (steps_then c.loop-step.invariant.served.2 end.0.1) c.in_err-finish.ensures.err.1);
}

pub returns-in-Some : goal.returns-in-Some
returns-in-Some g c = record {
  kept = λ records has settled stand.
      ended_kept tick_stays (unread g.I.Read.remaining c.args.frames.now) (unread g.I.Read.remaining c.loop-step.frames) (unread g.I.Read.remaining c.go_on.new.frames) c.in-Some.end records has settled stand
      c.loop-step.invariant.served (rw c.in-Some.is at c.in_ok-ended.ensures.ok) c.in_ok-finish.ensures.ok c.finish.ensures.begun;
}

pub loop-step-preserved : goal.loop-step-preserved
loop-step-preserved g c = record {
  served = serves_then (unread g.I.Read.remaining c.args.frames.now) (unread g.I.Read.remaining c.loop-step.frames) (unread g.I.Read.remaining c.go_on.new.frames) c.loop-step.invariant.served
      (rw c.in_default.is at c.in_ok-ended.ensures.ok);
  usable = c.in_ok-ended.ensures.usable;
}

pub returns : goal.returns
returns g c = record {
  kept = λ records has settled stand. broke_kept (Err (Stream Io)) records refl has settled stand (steps_break (waiting_stays (Carries c.loop-step.waiting)) c.loop-step.invariant.served.2);
}
