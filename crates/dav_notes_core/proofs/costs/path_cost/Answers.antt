use Rattle.std.proofs.Common.{rules}
use Rattle.dav_path_core.specs.Segments.{segments}
use Rattle.dav_notes_core.specs.Costs.{in_eight_bytes, path_cost}
use Rattle.dav_notes_core.proofs.SumLemmas.{summed}
use Rattle.dav_notes_core.proofs.costs.path_cost.Goals as goal

pub returns : goal.returns
returns c = summed c.adding.sum (in_eight_bytes (path_cost (segments c.args.path.now.bytes))) (segments c.adding.segment-iterator) c.adding.invariant.small (search rules) c.adding.invariant.sum
