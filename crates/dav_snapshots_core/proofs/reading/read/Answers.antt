use Rattle.dav_snapshots_core.specs.SnapshotReading.{snapshot_at}
use Rattle.dav_snapshots_core.proofs.ReadLemmas.{is_fault, is_found, is_only}
use Rattle.dav_snapshots_core.proofs.reading.read.Goals as goal

pub returns-clause-found : goal.returns-clause-found
returns-clause-found c = is_found c.read_all.result (snapshot_at c.args.bytes.now) c.read_all.ensures

pub returns-clause-only : goal.returns-clause-only
returns-clause-only c = λ s now is paths. is_only c.args.bytes.now c.read_all.result s now c.read_all.ensures is paths

pub returns-clause-fault : goal.returns-clause-fault
returns-clause-fault c = is_fault c.read_all.result (snapshot_at c.args.bytes.now) c.read_all.ensures
