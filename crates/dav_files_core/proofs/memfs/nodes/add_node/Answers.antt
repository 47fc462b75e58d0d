use Rattle.dav_files_core.proofs.walks.TreeWordLemmas.{no_child, added_ok, added_err}
use Rattle.dav_files_core.proofs.memfs.nodes.add_node.Goals as goal

pub returns-clause-ok : goal.returns-clause-ok
returns-clause-ok c =
    added_ok c.args.tree.now c.add_new_child.new.tree c.args.folder c.args.name c.args.node c.requires.known c.requires.free c.add_new_child.result c.add_new_child.ensures.answer

pub returns-clause-err : goal.returns-clause-err
returns-clause-err c =
    added_err c.args.tree.now c.add_new_child.new.tree c.args.folder c.args.name c.args.node c.requires.known c.requires.free c.add_new_child.result c.add_new_child.ensures.answer

pub add_new_child-requires-clause-free : goal.add_new_child-requires-clause-free
add_new_child-requires-clause-free c = no_child c.args.tree.now c.args.tree.now c.args.folder c.args.name c.args.node c.requires.known c.requires.free
