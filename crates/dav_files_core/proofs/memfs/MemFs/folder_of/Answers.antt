use Rattle.dav_files_core.proofs.walks.AboveLemmas.{parent_known, stands_in}
use Rattle.dav_files_core.proofs.changes.LeftLemmas.{stands_for}
use Rattle.dav_files_core.proofs.memfs.MemFs.folder_of.Goals as goal

pub unreachable-requires : goal.unreachable-requires
unreachable-requires c =
    let h = c.requires in
    parent_known c.self.inside.tree.keyed c.args.self.now (stands_for _ _ c.self.view_is c.self.invariant) h.0 h.1 h.2 c.args.id h.3 _ c.in-Err.field-0 c.in-Err.ensures.answer

pub returns : goal.returns
returns c = λ p r here number.
    stands_in c.self.inside.tree.keyed c.args.self.now (stands_for _ _ c.self.view_is c.self.invariant) p r here c.args.id number c.in-Ok.parent c.in-Ok.ensures.answer
