use Rattle.std.proofs.Common.{◌≡◌, ◌-◌}
use Rattle.dav_path_core.specs.Keyed.{is_under, meets, parent_number}
use Rattle.dav_path_core.proofs.trees.KeyedDepth.{Climb}
use Rattle.dav_path_core.proofs.tree.Tree.is_below.Given as goal

abbrev pub invariant-loop-turn : goal.invariant-loop-turn
invariant-loop-turn g l =
    (is_under l.self.keyed l.id l.from ≡ meets (parent_number l.self.keyed) (l.self.keyed.next - l._turn) l.id l.at) × Climb l.self.keyed l.at l._turn
