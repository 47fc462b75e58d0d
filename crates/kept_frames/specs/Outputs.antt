-- What a clause sees of an output: the output itself, and what it took.
use Rattle.std.specs.Prelude.{ℕ, List, map}
use Rattle.http_server.specs.declared.log.Log.{Log}
use Rattle.kept_frames.specs.declared.told.Told.{Told}

-- the bytes that were noted
abbrev pub bytes_in : Log ℕ Unit → List ℕ
bytes_in log = map (λ pair. pair.0) log.items

abbrev pub out_of : {W : Type 0} → Told W → W
out_of it = it.out

abbrev pub bytes_taken : {W : Type 0} → Told W → List ℕ
bytes_taken it = bytes_in it.taken
