use Rattle.std.proofs.Common.{◌≡◌, ◌⊎◌, subst}
use Rattle.std.specs.FinMap.{remove}
use Rattle.dav_path_core.specs.ChildIndex.{with_noted}
use Rattle.dav_path_core.proofs.index.Steps.{index_moved}
use Rattle.dav_path_core.proofs.child_index.ChildIndex.move_below.Goals as goal

pub keep_if_wide-requires : goal.keep_if_wide-requires
keep_if_wide-requires g c =
    let kept = c.forget_child.new.self in
    record {
      indexed = index_moved c.args.tree.now.keyed c.put_below.new.self.keyed c.forget_child.ensures.shape.tree c.put_below.ensures.shape.tree c.args.self.now c.note.new.self c.requires.indexed c.args.id c.args.folder c.args.name c.requires.known c.requires.not_root c.put_below.ensures.placed
          kept c.forget_child.ensures.forgotten (subst (λ k. (c.note.new.self ≡ with_noted kept c.args.folder k c.args.id) ⊎ (c.note.new.self ≡ remove kept c.args.folder)) c.as_slice.ensures c.note.ensures);
    }
