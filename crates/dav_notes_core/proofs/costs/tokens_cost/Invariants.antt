use Rattle.std.proofs.Common.{◌≡◌, ◌+◌, length, take, map, string_bytes}
use Rattle.std.specs.List.{sum_by}
use Rattle.dav_notes_core.specs.Costs.{in_eight_bytes}
use Rattle.dav_notes_core.proofs.costs.tokens_cost.Given as goal

abbrev pub invariant-adding : goal.invariant-adding
invariant-adding l = l.sum ≡ in_eight_bytes (sum_by (λ t. length t + 8) (map string_bytes (take l.token-index l.tokens)))
