use Rattle.std.proofs.Common.{◌+◌, max}
use Rattle.dav_path_core.proofs.trees.Refusals.{restore_unused}
use Rattle.dav_path_core.proofs.index.Steps.{child_added, has_parent, index_added}
use Rattle.dav_path_core.proofs.child_index.ChildIndex.restore_child.Goals as goal

pub note_child-requires : goal.note_child-requires
note_child-requires g c =
    let t = c.args.tree.now.keyed in
    let a = c.in_ok-restore_child.ensures in
    has_parent t c.restore_child.new.self.keyed a.shape_before.tree a.shape.tree c.args.self.now c.args.self.now c.requires.indexed c.args.folder c.args.number (max t.next (c.args.number + 1)) c.args.name c.args.item
    (restore_unused t c.args.folder c.args.number a.answer.0) a.answer.1

pub keep_if_wide-requires : goal.keep_if_wide-requires
keep_if_wide-requires g c =
    let t = c.args.tree.now.keyed in
    let a = c.in_ok-restore_child.ensures in
    let next = max t.next (c.args.number + 1) in
    let unused = restore_unused t c.args.folder c.args.number a.answer.0 in
    record {
      indexed = index_added t c.restore_child.new.self.keyed a.shape_before.tree a.shape.tree c.args.self.now c.note_child.new.self c.requires.indexed c.args.folder c.args.number next c.args.name c.args.item unused a.answer.1
          (c.note_child.ensures c.args.name
          (child_added t c.restore_child.new.self.keyed a.shape_before.tree a.shape.tree c.args.self.now c.args.self.now c.requires.indexed c.args.folder c.args.number next c.args.name c.args.item unused a.answer.1));
    }
