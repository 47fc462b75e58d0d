use Rattle.dav_snapshots_core.proofs.SnapshotForms.{snapshot_again}
use Rattle.dav_snapshots_core.proofs.laws.snapshots_restore.Goals as goal

pub returns : goal.returns
returns c = snapshot_again
