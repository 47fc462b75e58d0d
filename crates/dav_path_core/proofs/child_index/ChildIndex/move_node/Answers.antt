use Rattle.std.proofs.Common.{◌≡◌, Some, ap, sym, ◌∙◌, subst, None, false}
use Rattle.std.specs.Prelude.{nat_eq}
use Rattle.std.specs.Cmp.Lexicographic.{pointwise, nat_list_eq_equiv}
use Rattle.dav_path_core.specs.Keyed.{child, is_under, with_new_place, IsKnown}
use Rattle.dav_path_core.proofs.trees.Trees.{none≢some}
use Rattle.dav_path_core.proofs.trees.Refusals.{allowed-outside, forbidden-below}
use Rattle.dav_path_core.proofs.trees.Replacing.{replaced-leaf, replaced-known, replaced-known_parent, replaced-outside, replaced-free}
use Rattle.dav_path_core.proofs.index.Steps.{found, moved-over}
use Rattle.dav_path_core.proofs.child_index.ChildIndex.move_node.Goals as goal

pub returns-in-Err-clause-below : goal.returns-in-Err-clause-below
returns-in-Err-clause-below g c = λ is. forbidden-below c.args.tree.now.keyed (pointwise nat_eq) c.args.id c.args.folder c.args.name c.args.overwrite c.check_move_over.ensures.shape.tree (c.in-Err.ensures.answer ∙ ap (λ e. Some e) is)

pub returns-in-None-clause-outside : goal.returns-in-None-clause-outside
returns-in-None-clause-outside g c = allowed-outside c.args.tree.now.keyed (pointwise nat_eq) c.args.id c.args.folder c.args.name c.args.overwrite c.check_move_over.ensures.shape.tree c.in-Ok.ensures.answer

pub returns-then-other-id-clause-outside : goal.returns-then-other-id-clause-outside
returns-then-other-id-clause-outside g c = allowed-outside c.args.tree.now.keyed (pointwise nat_eq) c.args.id c.args.folder c.args.name c.args.overwrite c.check_move_over.ensures.shape.tree c.in-Ok.ensures.answer

pub returns-in-Ok-delete_node-clause-outside : goal.returns-in-Ok-delete_node-clause-outside
returns-in-Ok-delete_node-clause-outside g c = allowed-outside c.args.tree.now.keyed (pointwise nat_eq) c.args.id c.args.folder c.args.name c.args.overwrite c.check_move_over.ensures.shape.tree c.in-Ok.ensures.answer

pub move_below-requires-in-Ok-delete_node-clause-known : goal.move_below-requires-in-Ok-delete_node-clause-known
move_below-requires-in-Ok-delete_node-clause-known g c =
    subst (λ t. IsKnown t c.args.id) (sym c.in-Ok-delete_node.ensures.answer.2)
    (replaced-known (pointwise nat_eq) nat_list_eq_equiv c.args.tree.now.keyed c.args.id c.args.folder c.args.name c.args.overwrite c.check_move_over.ensures.shape.tree c.in-Ok.ensures.answer c.in-Some.other (found c.args.tree.now.keyed c.args.folder c.args.name _ _ _ c.ok-taken.ensures.value c.find_child.ensures c.as_slice.ensures ∙ c.in-Some.is) c.if-other-id.false)

pub move_below-requires-in-Ok-delete_node-clause-known_parent : goal.move_below-requires-in-Ok-delete_node-clause-known_parent
move_below-requires-in-Ok-delete_node-clause-known_parent g c =
    subst (λ t. IsKnown t c.args.folder) (sym c.in-Ok-delete_node.ensures.answer.2)
    (replaced-known_parent (pointwise nat_eq) nat_list_eq_equiv c.args.tree.now.keyed c.args.id c.args.folder c.args.name c.args.overwrite c.check_move_over.ensures.shape.tree c.in-Ok.ensures.answer c.in-Some.other (found c.args.tree.now.keyed c.args.folder c.args.name _ _ _ c.ok-taken.ensures.value c.find_child.ensures c.as_slice.ensures ∙ c.in-Some.is) c.if-other-id.false)

pub move_below-requires-in-Ok-delete_node-clause-outside : goal.move_below-requires-in-Ok-delete_node-clause-outside
move_below-requires-in-Ok-delete_node-clause-outside g c =
    subst (λ t. is_under t c.args.id c.args.folder ≡ false) (sym c.in-Ok-delete_node.ensures.answer.2)
    (replaced-outside (pointwise nat_eq) nat_list_eq_equiv c.args.tree.now.keyed c.args.id c.args.folder c.args.name c.args.overwrite c.check_move_over.ensures.shape.tree c.in-Ok.ensures.answer c.in-Some.other (found c.args.tree.now.keyed c.args.folder c.args.name _ _ _ c.ok-taken.ensures.value c.find_child.ensures c.as_slice.ensures ∙ c.in-Some.is) c.if-other-id.false)

pub move_below-requires-in-Ok-delete_node-clause-free : goal.move_below-requires-in-Ok-delete_node-clause-free
move_below-requires-in-Ok-delete_node-clause-free g c =
    subst (λ t. child (pointwise nat_eq c.args.name) t c.args.folder ≡ None) (sym c.in-Ok-delete_node.ensures.answer.2)
    (replaced-free (pointwise nat_eq) nat_list_eq_equiv c.args.tree.now.keyed c.args.id c.args.folder c.args.name c.args.overwrite c.check_move_over.ensures.shape.tree c.in-Ok.ensures.answer c.in-Some.other (found c.args.tree.now.keyed c.args.folder c.args.name _ _ _ c.ok-taken.ensures.value c.find_child.ensures c.as_slice.ensures ∙ c.in-Some.is) c.if-other-id.false)

pub returns-in-Ok-delete_node-clause-answer : goal.returns-in-Ok-delete_node-clause-answer
returns-in-Ok-delete_node-clause-answer g c = (
  c.in-Ok.ensures.answer,
  c.move_below-in-Ok-delete_node.ensures.placed ∙ ap (λ t. with_new_place t c.args.id c.args.folder c.args.name) c.in-Ok-delete_node.ensures.answer.2
      ∙ sym (moved-over c.args.tree.now.keyed c.args.folder c.args.name c.args.id c.in-Some.other (found c.args.tree.now.keyed c.args.folder c.args.name _ _ _ c.ok-taken.ensures.value c.find_child.ensures c.as_slice.ensures ∙ c.in-Some.is) c.if-other-id.false),
)

pub unreachable-requires : goal.unreachable-requires
unreachable-requires g c =
    none≢some _ (sym (replaced-leaf (pointwise nat_eq) nat_list_eq_equiv c.args.tree.now.keyed c.args.id c.args.folder c.args.name c.args.overwrite c.check_move_over.ensures.shape.tree c.in-Ok.ensures.answer c.in-Some.other (found c.args.tree.now.keyed c.args.folder c.args.name _ _ _ c.ok-taken.ensures.value c.find_child.ensures c.as_slice.ensures ∙ c.in-Some.is) c.if-other-id.false) ∙ c.in-Err-delete_node.ensures.answer.0)
