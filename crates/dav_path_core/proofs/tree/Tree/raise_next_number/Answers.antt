use Rattle.std.proofs.Common.{refl, sym, subst, max}
use Rattle.dav_path_core.specs.Private.Nodes.{IsLinked}
use Rattle.dav_path_core.specs.View.{keyed_of}
use Rattle.dav_path_core.proofs.trees.Trees.{IsTree-raised}
use Rattle.dav_path_core.proofs.children.Links.{shape_of}
use Rattle.dav_path_core.proofs.tree.Tree.raise_next_number.Goals as goal

pub returns-clause-shape : goal.returns-clause-shape
returns-clause-shape g c =
    let raised : IsLinked g.K.PartialEq.eq c.self.inside.nodes.entries (max c.self.inside.next c.args.next) = record {
      tree = IsTree-raised g.K.PartialEq.eq (keyed_of c.self.inside.nodes.entries c.self.inside.next) c.args.next c.self.invariant.tree;
      chained = c.self.invariant.chained;
      root_alone = c.self.invariant.root_alone;
    } in
    shape_of (subst (IsLinked g.K.PartialEq.eq c.self.inside.nodes.entries) (sym c.max-self-inside.ensures) raised) refl
