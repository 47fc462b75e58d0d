use Rattle.std.proofs.Common.{arith}
use Rattle.dav_snapshots_core.proofs.LateLemmas.{room}
use Rattle.dav_snapshots_core.proofs.late.moment_set_back.Goals as goal

pub overflow_add-result : goal.overflow_add-result
overflow_add-result c =
    let place = c.place_of.ensures in
    let le = room c.args.late.now c.args.from c.args.moment c.requires.ascend c.requires.from_there c.if-moment-from.false in
    grind (arith, place, le)
