use Rattle.dav_session_core.proofs.SubtreeLemmas.{walk_left}
use Rattle.dav_session_core.proofs.session.subtrees.walk_without_its_last.Goals as goal

pub returns : goal.returns
returns c = λ m after p last before walk gone same. walk_left m after p last before walk gone same
