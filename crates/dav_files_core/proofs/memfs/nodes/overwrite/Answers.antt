use Rattle.dav_files_core.specs.OpenFiles.{overwritten_at}
use Rattle.dav_files_core.proofs.walks.TreeWordLemmas.{set_ok, set_err}
use Rattle.dav_path_core.proofs.index.IndexLemmas.{IsIndex-with_item}
use Rattle.dav_files_core.proofs.memfs.nodes.overwrite.Goals as goal

pub returns-clause-ok : goal.returns-clause-ok
returns-clause-ok g c =
    set_ok c.args.tree.now.keyed c.args.id c.in_ok-node.node.now c.overwrite.new.self (λ n. record n { bytes = overwritten_at n.bytes c.args.start (g.B.Buf.unread c.args.buf.now) })
    c.in_ok-node.ensures.value c.overwrite.result c.overwrite.ensures.ok

pub returns-clause-err : goal.returns-clause-err
returns-clause-err g c = set_err c.args.tree.now.keyed c.args.id c.in_ok-node.node.now c.overwrite.new.self c.in_ok-node.ensures.value c.overwrite.result c.overwrite.ensures.err

pub returns-clause-indexed : goal.returns-clause-indexed
returns-clause-indexed g c = IsIndex-with_item c.args.tree.now.keyed c.get_node_mut.ensures.shape.tree c.args.id _
