use Rattle.dav_path_core.proofs.index.Steps.{child_next, has_parent_next, index_next}
use Rattle.dav_path_core.proofs.child_index.ChildIndex.add_new_child.Goals as goal

pub note_child-requires : goal.note_child-requires
note_child-requires g c =
    let a = c.in_ok-id.ensures in
    has_parent_next c.args.tree.now.keyed c.add_new_child.new.self.keyed a.shape_before.tree a.shape.tree c.args.self.now c.args.self.now c.requires.indexed c.args.folder c.in_ok-id.id c.args.name c.args.item a.answer.1.0 a.answer.1.1

pub keep_if_wide-requires : goal.keep_if_wide-requires
keep_if_wide-requires g c =
    let a = c.in_ok-id.ensures in
    record {
      indexed = index_next c.args.tree.now.keyed c.add_new_child.new.self.keyed a.shape_before.tree a.shape.tree c.args.self.now c.note_child.new.self c.requires.indexed c.args.folder c.in_ok-id.id c.args.name c.args.item a.answer.1.0 a.answer.1.1
          (c.note_child.ensures c.args.name
          (child_next c.args.tree.now.keyed c.add_new_child.new.self.keyed a.shape_before.tree a.shape.tree c.args.self.now c.args.self.now c.requires.indexed c.args.folder c.in_ok-id.id c.args.name c.args.item a.answer.1.0 a.answer.1.1));
    }
