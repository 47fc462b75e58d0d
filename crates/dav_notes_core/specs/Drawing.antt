-- A generator whose next sixteen bytes are known.
use Rattle.std.specs.Prelude.{ℕ, List, replicate, ◌==◌, if◌then◌else◌}
use Rattle.rand_core.specs.Stream.{Stream}

-- it gives these bytes to whoever draws sixteen, each time
unfoldable pub stream_giving : List ℕ → Stream
stream_giving bytes = record {
  u32_after = λ _. 0;
  u64_after = λ _. 0;
  bytes_after = λ _ n. if n == 16 then bytes else replicate n 0;
}
