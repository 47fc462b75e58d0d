use Rattle.dav_files_core.proofs.walks.TreeWordLemmas.{finds}
use Rattle.dav_files_core.proofs.memfs.nodes.member_of.Goals as goal

pub returns : goal.returns
returns c = finds c.args.tree.now.keyed c.args.folder c.args.name.now c.find_child.result c.find_child.ensures
