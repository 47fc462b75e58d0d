use Rattle.std.proofs.Common.{sym, ◌∙◌}
use Rattle.dav_files_core.proofs.changes.LeftLemmas.{stands_for, lost, item_is}
use Rattle.dav_files_core.proofs.memfs.MemFs.node_at.Goals as goal

pub unreachable-requires : goal.unreachable-requires
unreachable-requires c =
    let h = c.requires in
    lost c.self.inside.tree.keyed c.args.self.now (stands_for _ _ c.self.view_is c.self.invariant) h.0 h.1 h.2 c.args.id h.3 c.in-Err.ensures.err.1

pub returns : goal.returns
returns c = λ p r here number.
    let n = c.in-Ok.ensures.ok in
    sym n.2 ∙ item_is c.self.inside.tree.keyed c.args.self.now (stands_for _ _ c.self.view_is c.self.invariant) p r here c.args.id number n.0 n.1
