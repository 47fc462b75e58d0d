use Rattle.std.proofs.lemmas.Result.{IfOk-weaker}
use Rattle.std.specs.Io.Buffered.{writer_contents}
use Rattle.dav_resource_core.specs.Private.Playing.{Played}
use Rattle.dav_guarded_core.specs.Stores.{state_of}
use Rattle.dav_resource_core.proofs.PlayingLaws.{line_stopped}
use Rattle.dav_resource_core.proofs.davreplay.play_line.Goals as goal

pub returns-clause-ok : goal.returns-clause-ok
returns-clause-ok g c =
    IfOk-weaker c.play_said.result _ _ (λ on played. (played.0, (c.request_of-said.result, c.request_of-said.ensures, played.1), played.2)) c.play_said.ensures.ok

pub returns-clause-err : goal.returns-clause-err
returns-clause-err g c =
    let p : Played = (state_of c.args.player.now.stores (g.R.Rng.stream c.args.player.now.rng), c.args.player.now.labels) in
    line_stopped c.play_said.result p c.args.line.now c.request_of-said.result (writer_contents g.O.Write.contents c.args.output.now) (writer_contents g.O.Write.contents c.play_said.new.output)
    c.request_of-said.ensures c.play_said.ensures.err
