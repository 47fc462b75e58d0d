use Rattle.std.proofs.Common.{◌≡◌, ℕ, List, ◌++◌}
use Rattle.std.specs.Io.KnownBytes.{Appends}
use Rattle.dav_resource_core.proofs.davreplay.write_text.Given as goal

-- a front was written, and the rest is left
abbrev pub invariant-loop-turn : goal.invariant-loop-turn
invariant-loop-turn g l = (done : List ℕ) × (l.text ≡ done ++ l.rest) × Appends (g.O.Write.contents l.fn.output) (g.O.Write.contents l.output) done
