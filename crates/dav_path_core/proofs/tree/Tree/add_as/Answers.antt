use Rattle.std.proofs.Common.{◌≡◌, ◌≤◌, refl, subst, sym, ap, ◌∙◌, None}
use Rattle.dav_path_core.specs.Keyed.{child, add_as, IsKnown}
use Rattle.dav_path_core.specs.View.{tree_value_of}
use Rattle.dav_path_core.specs.Private.Nodes.{node_numbered, first_in, new_node}
use Rattle.dav_path_core.proofs.children.Views.{known-view}
use Rattle.dav_path_core.proofs.children.Links.{shape_of, nothing_there, keyed-added, IsLinked-added}
use Rattle.dav_path_core.proofs.tree.Tree.add_as.Goals as goal

pub returns-in_err-put_new-clause-shape : goal.returns-in_err-put_new-clause-shape
returns-in_err-put_new-clause-shape g c = shape_of c.self.invariant (ap (λ es. tree_value_of es c.self.inside.next) (sym c.in_err-put_new.ensures.err))

pub invariant_of-self-2 : goal.invariant_of-self-2
invariant_of-self-2 g c =
    IsLinked-added g.K.PartialEq.eq g.met.K.Eq.laws.symm c.self.inside.nodes.entries c.put_new.new.nodes.entries c.self.inside.next c.args.id c.args.next c.args.parent c.args.key
    (new_node c.args.parent c.args.key c.args.item (first_in (node_numbered c.self.inside.nodes.entries) c.args.parent)) c.self.invariant
    (nothing_there c.self.inside.nodes.entries c.self.inside.next _ c.self.view_is c.args.id c.requires.unused)
    c.requires.positive c.requires.below_next (subst (λ t. t.keyed.next ≤ c.args.next) (sym c.self.view_is) c.requires.grows)
    (sym (known-view c.self.inside.nodes.entries c.self.inside.next c.args.parent) ∙ subst (λ t. IsKnown t.keyed c.args.parent) (sym c.self.view_is) c.requires.known)
    (subst (λ t. child (g.K.PartialEq.eq c.args.key) t.keyed c.args.parent ≡ None) (sym c.self.view_is) c.requires.free) refl refl refl refl c.in_ok-put_new.ensures.ok

pub returns-clause-answer : goal.returns-clause-answer
returns-clause-answer g c = (
  refl,
  keyed-added g.K.PartialEq.eq g.met.K.Eq.laws.symm c.self.inside.nodes.entries c.put_new.new.nodes.entries c.self.inside.next c.args.id c.args.next c.args.parent c.args.key
      (new_node c.args.parent c.args.key c.args.item (first_in (node_numbered c.self.inside.nodes.entries) c.args.parent)) c.self.invariant
      (nothing_there c.self.inside.nodes.entries c.self.inside.next _ c.self.view_is c.args.id c.requires.unused)
      c.requires.positive c.requires.below_next (subst (λ t. t.keyed.next ≤ c.args.next) (sym c.self.view_is) c.requires.grows)
      (sym (known-view c.self.inside.nodes.entries c.self.inside.next c.args.parent) ∙ subst (λ t. IsKnown t.keyed c.args.parent) (sym c.self.view_is) c.requires.known)
      (subst (λ t. child (g.K.PartialEq.eq c.args.key) t.keyed c.args.parent ≡ None) (sym c.self.view_is) c.requires.free) refl refl refl refl c.in_ok-put_new.ensures.ok
      ∙ ap (λ t. add_as t.keyed c.args.id c.args.next c.args.parent c.args.key c.args.item) c.self.view_is,
)

pub returns-clause-shape : goal.returns-clause-shape
returns-clause-shape g c = shape_of (invariant_of-self-2 g c) refl
