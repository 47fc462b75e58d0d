use Rattle.std.specs.Prelude.{nat_eq}
use Rattle.std.specs.Cmp.Lexicographic.{pointwise}
use Rattle.std.proofs.Common.{sym, subst}
use Rattle.dav_path_core.specs.Keyed.{IsCut}
use Rattle.dav_path_core.proofs.trees.Cutting.{IsCut-cut}
use Rattle.dav_path_core.proofs.child_index.ChildIndex.delete_subtree.Goals as goal

pub returns-clause-gone : goal.returns-clause-gone
returns-clause-gone g c =
    subst (λ u. IsCut c.args.tree.now.keyed u c.args.id) (sym c.cut_out.ensures.cut)
    (IsCut-cut (pointwise nat_eq) c.args.tree.now.keyed c.if-not-is_known.ensures.shape.tree c.args.id)
