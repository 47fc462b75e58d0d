use Rattle.std.proofs.Common.{◌≡◌, ℕ, List, [], ◌++◌}
use Rattle.http_frames.specs.Private.Steps.{ReadsFront}
use Rattle.http_frames.proofs.held.read_all.Given as goal

abbrev pub invariant-loop-turn : goal.invariant-loop-turn
invariant-loop-turn l = (taken : List ℕ) × (l.fn.rest.now ≡ taken ++ l.rest.now) × ReadsFront taken l.fn.connection l.connection × (l.rest.now ≡ [] → l.fn.rest.now ≡ [])
