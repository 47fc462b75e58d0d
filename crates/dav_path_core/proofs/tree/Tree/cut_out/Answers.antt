use Rattle.std.proofs.Common.{◌<◌, refl, sym, subst}
use Rattle.dav_path_core.specs.Keyed.{Keyed, here}
use Rattle.dav_path_core.proofs.children.Links.{shape_of}
use Rattle.dav_path_core.proofs.trees.Cutting.{Cutting, going, cutting_known, cutting_next, cutting_ends, leaf_not_root, known_below, fewer}
use Rattle.dav_path_core.proofs.tree.Tree.cut_out.Goals as goal

pub loop-self-init : goal.loop-self-init
loop-self-init g c =
    (shape_of c.self.invariant c.self.view_is, going c.requires.known c.requires.known here refl)

pub leaf_below-leaf-requires : goal.leaf_below-leaf-requires
leaf_below-leaf-requires g c = cutting_known c.loop-self.invariant.1 (sym c.loop-self-test.ensures.known)

pub drop_leaf-at-requires-clause-not_root : goal.drop_leaf-at-requires-clause-not_root
drop_leaf-at-requires-clause-not_root g c =
    leaf_not_root g.K.PartialEq.eq c.args.self.now.keyed c.loop-self.self.keyed c.args.id c.loop-self.at c.loop-self.invariant.0.tree c.requires.not_root (sym c.loop-self-test.ensures.known) c.loop-self.invariant.1
    c.leaf_below-leaf.result c.leaf_below-leaf.ensures.known c.leaf_below-leaf.ensures.under

pub loop-self-smaller : goal.loop-self-smaller
loop-self-smaller g c =
    let t : Keyed g.row.K.Denot g.row.D.Denot = c.loop-self.self.keyed in
    subst (λ u. known_below u u.next < known_below t t.next) (sym c.drop_leaf-at.ensures.dropped)
    (fewer t c.leaf_below-leaf.result t.next c.leaf_below-leaf.ensures.known (c.loop-self.invariant.0.tree.numbered c.leaf_below-leaf.result c.leaf_below-leaf.ensures.known).1)

pub loop-self-preserved : goal.loop-self-preserved
loop-self-preserved g c = (
  c.drop_leaf-at.ensures.shape,
  subst (λ u. Cutting c.args.self.now.keyed c.args.id u c.drop_leaf-at.result) (sym c.drop_leaf-at.ensures.dropped)
      (cutting_next g.K.PartialEq.eq c.args.self.now.keyed c.loop-self.self.keyed c.args.id c.loop-self.at c.loop-self.invariant.0.tree c.requires.not_root (sym c.loop-self-test.ensures.known) c.loop-self.invariant.1
      c.leaf_below-leaf.result c.leaf_below-leaf.ensures.known c.leaf_below-leaf.ensures.under c.leaf_below-leaf.ensures.leaf c.drop_leaf-at.result c.drop_leaf-at.ensures.parent),
)

pub returns-clause-cut : goal.returns-clause-cut
returns-clause-cut g c = cutting_ends c.loop-self.invariant.1 (sym c.loop-self-test.ensures.known)

pub returns-clause-shape : goal.returns-clause-shape
returns-clause-shape g c = c.loop-self.invariant.0
