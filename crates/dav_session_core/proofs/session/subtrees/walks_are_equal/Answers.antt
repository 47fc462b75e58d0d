use Rattle.dav_session_core.proofs.SubtreeLemmas.{walks_are_equal}
use Rattle.dav_session_core.proofs.session.subtrees.walks_are_equal.Goals as goal

pub returns : goal.returns
returns c = walks_are_equal
