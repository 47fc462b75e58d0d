use Rattle.dav_session_core.proofs.KindLemmas.{folder_told}
use Rattle.dav_session_core.proofs.session.subtrees.is_folder.Goals as goal

pub returns-in-Ok : goal.returns-in-Ok
returns-in-Ok c = folder_told c.in-Ok.folder c.args.entry.now.meta.kind c.in-Ok.ensures
