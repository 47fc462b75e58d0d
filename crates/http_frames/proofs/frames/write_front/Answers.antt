use Rattle.http_frames.proofs.Fronts.{front_is, more_front, more_kept, within_back}
use Rattle.http_frames.proofs.Results.{on_err}
use Rattle.http_frames.proofs.frames.write_front.Goals as goal

pub returns-in_err-count-clause-err : goal.returns-in_err-count-clause-err
returns-in_err-count-clause-err g c =
    let x = front_is _ _ c.args.bytes.now c.loop-turn.at
    (more_kept (g.O.Write.contents c.args.output.now) (g.O.Write.contents c.loop-turn.output) (g.O.Write.contents c.write.new.self) _ c.loop-turn.invariant.1 c.in_err-count.ensures.bytes) in
    on_err _ x

pub returns-then-count-eq0-clause-err : goal.returns-then-count-eq0-clause-err
returns-then-count-eq0-clause-err g c =
    front_is _ _ c.args.bytes.now _
    (more_front (g.O.Write.contents c.args.output.now) (g.O.Write.contents c.loop-turn.output) (g.O.Write.contents c.write.new.self) c.args.bytes.now c.loop-turn.at c.in_ok-count.count
    c.loop-turn.invariant.1 c.in_ok-count.ensures.bytes)

pub loop-turn-preserved : goal.loop-turn-preserved
loop-turn-preserved g c = (
  within_back c.args.bytes.now c.loop-turn.at c.in_ok-count.count c.loop-turn.invariant.0 c.in_ok-count.ensures.bound,
  more_front (g.O.Write.contents c.args.output.now) (g.O.Write.contents c.loop-turn.output) (g.O.Write.contents c.write.new.self) c.args.bytes.now c.loop-turn.at c.in_ok-count.count
      c.loop-turn.invariant.1 c.in_ok-count.ensures.bytes,
)

pub returns-clause-err : goal.returns-clause-err
returns-clause-err g c = front_is _ _ c.args.bytes.now c.loop-turn.at c.loop-turn.invariant.1
