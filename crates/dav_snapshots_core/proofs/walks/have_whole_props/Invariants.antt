use Rattle.std.proofs.Common.{take}
use Rattle.std.specs.List.{AllByRecursion}
use Rattle.dav_snapshots_core.specs.Snapshots.{HasWholeProps}
use Rattle.dav_snapshots_core.proofs.walks.have_whole_props.Given as goal

abbrev pub invariant-looking : goal.invariant-looking
invariant-looking l = AllByRecursion HasWholeProps (take l.stored-index l.all)
