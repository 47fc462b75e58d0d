use Rattle.std.proofs.Common.{◌≡◌, Some, None, MatchOption, false, subst}
use Rattle.dav_path_core.specs.Keyed.{has_child, parent_number}
use Rattle.dav_path_core.proofs.trees.Cutting.{first_kind}
use Rattle.dav_path_core.proofs.tree.Tree.first_below.Goals as goal

pub returns-in-Some : goal.returns-in-Some
returns-in-Some g c =
    subst (λ t. MatchOption c.in-Some.node.now.first_child (has_child t.keyed c.args.id ≡ false) (λ m. parent_number t.keyed m ≡ Some c.args.id)) c.self.view_is
    (first_kind g.K.PartialEq.eq c.self.inside.nodes.entries c.self.inside.next c.self.invariant c.args.id (Some c.in-Some.node.now) c.in-Some.ensures.value)

pub returns-in-None : goal.returns-in-None
returns-in-None g c =
    subst (λ t. has_child t.keyed c.args.id ≡ false) c.self.view_is
    (first_kind g.K.PartialEq.eq c.self.inside.nodes.entries c.self.inside.next c.self.invariant c.args.id None c.in-None.ensures.value)
