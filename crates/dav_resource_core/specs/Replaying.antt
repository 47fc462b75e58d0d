-- A scenario from its start (own).
use Rattle.std.specs.Prelude.{ℕ, List, [], Option}
use Rattle.std.specs.Io.KnownBytes.{Appends}
use Rattle.std.specs.List.{concat}
use Rattle.rand_core.specs.Pcg32Seed.{pcg32_seed}
use Rattle.rand_core.specs.Steps.{steps_u64_low, stream_of}
use Rattle.rand_core.specs.Stream.{Stream}
use Rattle.rand_pcg.specs.Pcg.{pcg64, pcg64_of_seed}
use Rattle.dav_resource_core.specs.Private.Playing.{Played, InputPlayed, PlayedPart}
use Rattle.dav_guarded_core.specs.Stores.{start_stores, state_of}

-- what the generator gives that begins with this seed
abbrev pub generator : ℕ → Stream
generator seed = stream_of (steps_u64_low pcg64) (pcg64_of_seed (pcg32_seed 32 seed))

-- how a scenario begins: a root folder of moment 0, no lock and no label
abbrev pub beginning : ℕ → Played
beginning seed = (state_of (start_stores 0) (generator seed), [])

-- an input was played, to its end or to the first malformed line, told by its number, and what it wrote
abbrev pub ReplayedAs : ℕ → Option (List ℕ) → Option ℕ → List (List ℕ) → Type 0
ReplayedAs seed input end texts = (p' : Played) × InputPlayed (beginning seed) input end texts p'

-- the same, whatever it wrote
abbrev pub Replayed : ℕ → Option (List ℕ) → Option ℕ → Type 0
Replayed seed input end = (texts : List (List ℕ)) × ReplayedAs seed input end texts

-- and the texts of its answers, with their labels, were appended in order to what an output had
abbrev pub ReplayedTo : ℕ → Option (List ℕ) → Option ℕ → Option (List ℕ) → Option (List ℕ) → Type 0
ReplayedTo seed input end old new = (texts : List (List ℕ)) × ReplayedAs seed input end texts × Appends old new (concat texts)

-- a fault has stopped it: the lines in front of some one were played, and their texts were appended, and behind them at most a front of that line's
abbrev pub ReplayedPart : ℕ → Option (List ℕ) → Option (List ℕ) → Option (List ℕ) → Type 0
ReplayedPart seed input old new = PlayedPart (beginning seed) input old new
