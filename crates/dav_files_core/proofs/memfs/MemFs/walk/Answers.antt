use Rattle.dav_files_core.proofs.changes.LeftLemmas.{stands_for}
use Rattle.dav_files_core.proofs.walks.StoredLemmas.{walks, all_known}
use Rattle.dav_files_core.proofs.memfs.MemFs.walk.Goals as goal

pub invariant_of-result : goal.invariant_of-result
invariant_of-result c = all_known c.self.inside.tree.keyed c.walk.result (λ n i. (c.walk.ensures.members n).0 i)

pub returns : goal.returns
returns c = walks c.self.inside.tree.keyed c.args.self.now (stands_for _ _ c.self.view_is c.self.invariant) c.walk.result c.walk.ensures
