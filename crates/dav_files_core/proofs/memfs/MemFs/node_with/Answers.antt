use Rattle.dav_files_core.proofs.opens.OpenedLemmas.{node_found}
use Rattle.dav_files_core.proofs.changes.LeftLemmas.{stands_for}
use Rattle.dav_files_core.proofs.memfs.MemFs.node_with.Goals as goal

pub returns-clause-answer : goal.returns-clause-answer
returns-clause-answer c =
    node_found c.self.inside.tree.keyed c.args.self.now (stands_for _ _ c.self.view_is c.self.invariant) c.args.number c.node_of.result c.node_of.ensures.ok c.node_of.ensures.err
