use Rattle.std.proofs.Common.{◌≤◌, length, take}
use Rattle.std.specs.Io.KnownBytes.{Appends}
use Rattle.http_frames.proofs.frames.write_front.Given as goal

abbrev pub invariant-loop-turn : goal.invariant-loop-turn
invariant-loop-turn g l = (l.at ≤ length l.bytes) × Appends (g.O.Write.contents l.fn.output) (g.O.Write.contents l.output) (take l.at l.bytes)
