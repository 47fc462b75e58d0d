use Rattle.dav_guarded_core.proofs.BelowLaws.{does_below, does_apart}
use Rattle.dav_guarded_core.proofs.guarded.laws.commands_keep_to_folders.Goals as goal

pub returns-clause-below : goal.returns-clause-below
returns-clause-below c = does_below

pub returns-clause-apart : goal.returns-clause-apart
returns-clause-apart c = does_apart
