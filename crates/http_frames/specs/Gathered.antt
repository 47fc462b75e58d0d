-- What an output has taken that gathers what is written (own).
use Rattle.std.specs.Prelude.{List, ℕ, Option}
use Rattle.std.specs.Io.KnownBytes.{Keeps, append_known}
use Rattle.http_frames.specs.declared.gathered.Gathered.{Gathered}

-- the bytes that wait
abbrev pub waiting : {O : Type 0} → Gathered O → List ℕ
waiting g = g.buffer.items

-- the bytes of the output behind it, and then those that wait
abbrev pub gathered_contents : {O : Type 0} → (O → Option (List ℕ)) → Gathered O → Option (List ℕ)
gathered_contents contents g = append_known (contents g.output) (waiting g)

-- from one state to the other no byte is lost or moved
abbrev pub KeepsAll : {O : Type 0} → (O → Option (List ℕ)) → Gathered O → Gathered O → Type 0
KeepsAll contents g h = Keeps (gathered_contents contents g) (gathered_contents contents h)
