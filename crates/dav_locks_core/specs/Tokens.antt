-- The token that a stream of random numbers gives: the URN of a version 4 identifier (RFC 4918 section 6.5, RFC 9562
-- sections 4 and 5.4).
use Rattle.std.specs.Prelude.{ℕ, List}
use Rattle.rand_core.specs.Stream.{Stream, fill_bytes}
use Rattle.uuid.specs.Parts.{v4_of_fill}
use Rattle.uuid.specs.Text.{urn_text, lower}

-- and what is left of the stream
unfoldable pub token_from : Stream → List ℕ × Stream
token_from stream = let drawn = v4_of_fill (fill_bytes 16 stream) in (urn_text lower drawn.0, drawn.1)
