use Rattle.std.proofs.Common.{◌≡◌, ◌-◌}
use Rattle.std.specs.FinMap.{len}
use Rattle.dav_path_core.specs.Walking.{climbs}
use Rattle.dav_path_core.proofs.tree.Tree.next_beside.Given as goal

abbrev pub invariant-loop-turn : goal.invariant-loop-turn
invariant-loop-turn g l = climbs l.self l.fn.top (len l.self.keyed.nodes) l.fn.id ≡ climbs l.self l.fn.top (len l.self.keyed.nodes - l._turn) l.at
