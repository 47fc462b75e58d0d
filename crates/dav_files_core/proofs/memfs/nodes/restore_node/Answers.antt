use Rattle.dav_files_core.proofs.walks.TreeWordLemmas.{no_child, restored_ok, restored_err}
use Rattle.dav_files_core.proofs.memfs.nodes.restore_node.Goals as goal

pub returns-clause-ok : goal.returns-clause-ok
returns-clause-ok c = restored_ok c.args.tree.now c.restore_child.new.tree c.args.folder c.args.name c.args.node c.requires.known c.requires.free c.args.number c.restore_child.result c.restore_child.ensures.answer

pub returns-clause-err : goal.returns-clause-err
returns-clause-err c =
    restored_err c.args.tree.now c.restore_child.new.tree c.args.folder c.args.name c.args.node c.requires.known c.requires.free c.args.number c.requires.unused c.requires.positive c.requires.given c.restore_child.result c.restore_child.ensures.answer

pub restore_child-requires-clause-free : goal.restore_child-requires-clause-free
restore_child-requires-clause-free c = no_child c.args.tree.now c.args.tree.now c.args.folder c.args.name c.args.node c.requires.known c.requires.free
