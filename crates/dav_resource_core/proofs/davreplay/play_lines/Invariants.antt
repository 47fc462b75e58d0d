use Rattle.std.specs.Io.Buffered.{reader_remaining, writer_contents}
use Rattle.dav_guarded_core.specs.Stores.{state_of}
use Rattle.dav_resource_core.proofs.PlayingLaws.{PlayedFront}
use Rattle.dav_resource_core.proofs.davreplay.play_lines.Given as goal

-- the lines so far were played
abbrev pub invariant-loop-number : goal.invariant-loop-number
invariant-loop-number g l =
    PlayedFront (state_of l.fn.player.stores (g.R.Rng.stream l.fn.player.rng), l.fn.player.labels)
    (reader_remaining g.I.Read.remaining l.fn.input) (writer_contents g.O.Write.contents l.fn.output) l.number
    (state_of l.player.stores (g.R.Rng.stream l.player.rng), l.player.labels)
    (reader_remaining g.I.Read.remaining l.input) (writer_contents g.O.Write.contents l.output)
