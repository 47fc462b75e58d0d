use Rattle.dav_snapshots_core.proofs.LateLemmas.{found_at, missed_at}
use Rattle.dav_snapshots_core.proofs.late.place_of.Goals as goal

pub returns-in-Ok : goal.returns-in-Ok
returns-in-Ok c = found_at c.args.late.now c.args.moment c.binary_search.result c.in-Ok.place c.requires c.binary_search.ensures.position c.in-Ok.is

pub returns-in-Err : goal.returns-in-Err
returns-in-Err c = missed_at c.args.late.now c.args.moment c.binary_search.result c.in-Err.place c.requires c.binary_search.ensures.position c.in-Err.is
