use Rattle.dav_snapshots_core.proofs.NamedPaths.{new_paths, notes_keep_paths}
use Rattle.dav_snapshots_core.proofs.RestoredPaths.{snapshot_paths}
use Rattle.dav_snapshots_core.proofs.laws.noted_stores_have_paths.Goals as goal

pub returns : goal.returns
returns c = record { begins = new_paths; restored = snapshot_paths; goes_on = notes_keep_paths }
