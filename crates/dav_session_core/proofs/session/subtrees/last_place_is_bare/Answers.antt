use Rattle.dav_session_core.proofs.SubtreeLemmas.{last_bare}
use Rattle.dav_session_core.proofs.session.subtrees.last_place_is_bare.Goals as goal

pub returns : goal.returns
returns c = λ m p last before walk. last_bare m p last before walk
