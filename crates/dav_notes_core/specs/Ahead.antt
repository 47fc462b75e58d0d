-- A generator whose next sixteen bytes are drawn ahead, so that a request knows those of its token.
use Rattle.std.specs.Prelude.{ℕ, List, Bool, true, false, ◌==◌, ◌&&◌, is_ok, if◌then◌else◌}
use Rattle.rand_core.specs.Stream.{Stream, next_u32, next_u64, fill_bytes}
use Rattle.rand_core.specs.Steps.{Steps, stream_of}
use Rattle.dav_guarded_core.specs.Requests.{Command, Answer}
use Rattle.dav_notes_core.specs.Changes.{grants}

-- who asks for sixteen bytes gets those that are ahead, and the next are drawn; all else is asked of the generator
abbrev pub ahead_steps : Steps (List ℕ × Stream)
ahead_steps = record {
  next_u32 = λ a. ((next_u32 a.1).0, (a.0, (next_u32 a.1).1));
  next_u64 = λ a. ((next_u64 a.1).0, (a.0, (next_u64 a.1).1));
  fill_bytes = λ n a. if n == 16 then (a.0, fill_bytes 16 a.1) else ((fill_bytes n a.1).0, (a.0, (fill_bytes n a.1).1));
}

-- what it gives, with these bytes ahead
abbrev pub ahead : List ℕ × Stream → Stream
ahead a = stream_of ahead_steps a

-- a lock was granted
abbrev pub was_granted : Command → Answer → Bool
was_granted command answer = grants command && is_ok answer

-- the bytes of the next token, and what the generator gives behind them, by whether those ahead were used
abbrev pub drawn_on : Bool → List ℕ × Stream → List ℕ × Stream
drawn_on false ahead = ahead
drawn_on true ahead = fill_bytes 16 ahead.1
