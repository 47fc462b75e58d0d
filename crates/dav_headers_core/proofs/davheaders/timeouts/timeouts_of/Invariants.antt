use Rattle.std.proofs.Common.{◌≡◌, take, map, Some}
use Rattle.dav_headers_core.specs.Optional.{every}
use Rattle.dav_headers_core.specs.Timeouts.{timeout_of}
use Rattle.dav_headers_core.proofs.davheaders.timeouts.timeouts_of.Given as goal

abbrev pub invariant-loop-piece : goal.invariant-loop-piece
invariant-loop-piece l = every timeout_of (map (λ piece. piece.now) (take l.piece-index l.pieces)) ≡ Some l.timeouts.items
