use Rattle.std.proofs.Common.{◌<◌, refl, sym, subst}
use Rattle.std.specs.Prelude.{nat_eq}
use Rattle.std.specs.Cmp.Lexicographic.{pointwise}
use Rattle.dav_path_core.specs.Fronts.{Segment}
use Rattle.dav_path_core.specs.Keyed.{Keyed, here}
use Rattle.dav_path_core.proofs.trees.Cutting.{Cutting, going, cutting_known, cutting_next, cutting_ends, leaf_not_root, known_below, fewer}
use Rattle.dav_path_core.proofs.child_index.ChildIndex.cut_out.Goals as goal

pub loop-tree-init : goal.loop-tree-init
loop-tree-init g c = (c.requires.indexed, going c.requires.known c.requires.known here refl)

pub leaf_below-leaf-requires : goal.leaf_below-leaf-requires
leaf_below-leaf-requires g c = cutting_known c.loop-tree.invariant.1 (sym c.loop-tree-test.ensures.known)

pub drop_leaf-at-requires-clause-not_root : goal.drop_leaf-at-requires-clause-not_root
drop_leaf-at-requires-clause-not_root g c =
    leaf_not_root (pointwise nat_eq) c.args.tree.now.keyed c.loop-tree.tree.keyed c.args.id c.loop-tree.at c.loop-tree-test.ensures.shape.tree c.requires.not_root (sym c.loop-tree-test.ensures.known) c.loop-tree.invariant.1
    c.leaf_below-leaf.result c.leaf_below-leaf.ensures.known c.leaf_below-leaf.ensures.under

pub loop-tree-smaller : goal.loop-tree-smaller
loop-tree-smaller g c =
    let t : Keyed Segment g.row.D.Denot = c.loop-tree.tree.keyed in
    subst (λ u. known_below u u.next < known_below t t.next) (sym c.drop_leaf-at.ensures.dropped)
    (fewer t c.leaf_below-leaf.result t.next c.leaf_below-leaf.ensures.known (c.loop-tree-test.ensures.shape.tree.numbered c.leaf_below-leaf.result c.leaf_below-leaf.ensures.known).1)

pub loop-tree-preserved : goal.loop-tree-preserved
loop-tree-preserved g c = (
  c.drop_leaf-at.ensures.indexed,
  subst (λ u. Cutting c.args.tree.now.keyed c.args.id u c.drop_leaf-at.result) (sym c.drop_leaf-at.ensures.dropped)
      (cutting_next (pointwise nat_eq) c.args.tree.now.keyed c.loop-tree.tree.keyed c.args.id c.loop-tree.at c.loop-tree-test.ensures.shape.tree c.requires.not_root (sym c.loop-tree-test.ensures.known) c.loop-tree.invariant.1
      c.leaf_below-leaf.result c.leaf_below-leaf.ensures.known c.leaf_below-leaf.ensures.under c.leaf_below-leaf.ensures.leaf c.drop_leaf-at.result c.drop_leaf-at.ensures.parent),
)

pub returns-clause-cut : goal.returns-clause-cut
returns-clause-cut g c = cutting_ends c.loop-tree.invariant.1 (sym c.loop-tree-test.ensures.known)
