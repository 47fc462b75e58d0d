use Rattle.std.proofs.Common.{◌≡◌, ◌+◌, ◌<◌, ◌^◌, length}
use Rattle.std.specs.List.{sum_by}
use Rattle.dav_path_core.specs.Segments.{segments}
use Rattle.dav_notes_core.specs.Costs.{in_eight_bytes, path_cost}
use Rattle.dav_notes_core.proofs.costs.path_cost.Given as goal

abbrev pub invariant-adding : goal.invariant-adding
invariant-adding l = record {
  sum : in_eight_bytes (l.sum + sum_by (λ s. length s + 1) (segments l.segment-iterator)) ≡ in_eight_bytes (path_cost (segments l.path.bytes));
  small : l.sum < 2 ^ 64;
}
