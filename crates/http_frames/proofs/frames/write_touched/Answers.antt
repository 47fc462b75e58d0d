use Rattle.http_frames.proofs.Fronts.{touched_off}
use Rattle.http_frames.proofs.Results.{on_err-map}
use Rattle.http_frames.proofs.frames.write_touched.Goals as goal

pub returns-clause-err : goal.returns-clause-err
returns-clause-err g c = on_err-map c.write_front.result (touched_off (g.O.Write.contents c.args.output.now) (g.O.Write.contents c.write_front.new.output)) c.write_front.ensures.err
