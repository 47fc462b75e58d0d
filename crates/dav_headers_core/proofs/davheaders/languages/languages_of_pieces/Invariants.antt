use Rattle.std.proofs.Common.{◌≡◌, take, map, Some, string_bytes}
use Rattle.dav_headers_core.specs.Optional.{every}
use Rattle.dav_headers_core.specs.Languages.{language_of}
use Rattle.dav_headers_core.proofs.davheaders.languages.languages_of_pieces.Given as goal

abbrev pub invariant-loop-piece : goal.invariant-loop-piece
invariant-loop-piece l = every language_of (map (λ piece. piece.now) (take l.piece-index l.pieces)) ≡ Some (map string_bytes l.languages.items)
