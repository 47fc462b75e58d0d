use Rattle.std.proofs.Common.{◌≡◌, take, map}
use Rattle.std.specs.Prelude.{filter}
use Rattle.dav_headers_core.specs.Tags.{is_tag}
use Rattle.dav_headers_core.proofs.davheaders.tag_lists.tags_among.Given as goal

abbrev pub invariant-loop-piece : goal.invariant-loop-piece
invariant-loop-piece l = l.tags.items ≡ filter is_tag (map (λ piece. piece.now) (take l.piece-index l.pieces))
