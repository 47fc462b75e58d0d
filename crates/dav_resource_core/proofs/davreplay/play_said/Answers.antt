use Rattle.std.specs.Io.Buffered.{writer_contents}
use Rattle.dav_resource_core.specs.Private.Playing.{Played}
use Rattle.dav_guarded_core.specs.Stores.{state_of}
use Rattle.dav_resource_core.proofs.PlayingLaws.{said_stopped_by, part_written}
use Rattle.dav_resource_core.proofs.davreplay.play_said.Goals as goal

pub returns-in_err-write_text-clause-err : goal.returns-in_err-write_text-clause-err
returns-in_err-write_text-clause-err g c =
    let p : Played = (state_of c.args.player.now.stores (g.R.Rng.stream c.args.player.now.rng), c.args.player.now.labels) in
    let p' : Played = (state_of c.follow.new.player.stores (g.R.Rng.stream c.follow.new.player.rng), c.follow.new.player.labels) in
    let old = writer_contents g.O.Write.contents c.args.output.now in
    let new = writer_contents g.O.Write.contents c.write_text.new.output in
    let follows = c.in_ok-right.ensures in
    let front = c.in_err-write_text.ensures.err in
    said_stopped_by c.from_residual-in_err-write_text.result p c.args.said.now old new
    (part_written p p' c.args.said.now c.in_ok-right.right c.clear.new.self.items c.follow.new.output.items c.deref.result.now follows.0 old new front.0
    follows.1 c.clear.ensures.items follows.2 c.deref.ensures.value front.1)
