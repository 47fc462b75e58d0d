use Rattle.std.proofs.Common.{◌≡◌, is_some, false, Option, Some, None, refl, ap, sym, ◌∙◌, subst}
use Rattle.std.specs.Option.{option_map}
use Rattle.std.proofs.lemmas.Bool.{false≢true}
use Rattle.dav_path_core.specs.declared.errors.FsError.TheVariants.{NotFound, Forbidden}
use Rattle.dav_path_core.specs.Keyed.{item, parent_and_key_of, without_node, delete_refusal, IsKnown}
use Rattle.dav_path_core.specs.TreeValue.{links_first}
use Rattle.dav_path_core.specs.View.{keyed_of, entry_of, links_of}
use Rattle.dav_path_core.specs.Private.Nodes.{node_numbered, closed_up, with_node_at}
use Rattle.dav_path_core.proofs.trees.Trees.{none_from_is_some}
use Rattle.dav_path_core.proofs.children.Chains.{first_child_of}
use Rattle.dav_path_core.proofs.children.Views.{entry-view, known-view, node_at-updated, mapped-some}
use Rattle.dav_path_core.proofs.children.Links.{parent-view, first_of, shape_of}
use Rattle.dav_path_core.proofs.children.Unlinking.{closed-node, not_root, leaf_n, keyed-removed, IsLinked-removed}
use Rattle.dav_path_core.proofs.trees.Refusals.{no_parent_root, has_child-true, has_child-false, delete-unknown, delete-root, delete-parent, delete-leaf}
use Rattle.dav_path_core.proofs.tree.Tree.delete_node.Given.{Over}
use Rattle.dav_path_core.proofs.tree.Tree.delete_node.Goals as goal
use Rattle.dav_path_core.proofs.tree.Tree.delete_node.Goals.{In-Some-remove}

not_some : {X : Type 0} (o : Option X) → false ≡ is_some o → o ≡ None
not_some o e = none_from_is_some o (sym e)

pub returns-in_default-clause-answer : goal.returns-in_default-clause-answer
returns-in_default-clause-answer g c =
    (subst (λ t. delete_refusal t.keyed c.args.id ≡ Some NotFound) c.self.view_is (delete-unknown (keyed_of c.self.inside.nodes.entries c.self.inside.next) c.args.id (known-view c.self.inside.nodes.entries c.self.inside.next c.args.id ∙ sym (ap is_some c.in_default.ensures.value))), refl)

pub returns-in_default-clause-shape : goal.returns-in_default-clause-shape
returns-in_default-clause-shape g c = shape_of c.self.invariant c.self.view_is

pub returns-in_default-parent_and_key-clause-answer : goal.returns-in_default-parent_and_key-clause-answer
returns-in_default-parent_and_key-clause-answer g c =
    let known : IsKnown (keyed_of c.self.inside.nodes.entries c.self.inside.next) c.args.id = known-view c.self.inside.nodes.entries c.self.inside.next c.args.id ∙ sym (ap is_some c.in-Some.ensures.value) in (
      subst (λ t. delete_refusal t.keyed c.args.id ≡ Some Forbidden) c.self.view_is (delete-root (keyed_of c.self.inside.nodes.entries c.self.inside.next) c.args.id known
          (no_parent_root (keyed_of c.self.inside.nodes.entries c.self.inside.next) g.K.PartialEq.eq c.self.invariant.tree c.args.id known
          (ap parent_and_key_of (entry-view c.self.inside.nodes.entries c.self.inside.next c.args.id (Some c.in-Some.node.now) c.in-Some.ensures.value) ∙ c.in_default-parent_and_key.is))),
      refl,
    )

pub returns-in_default-parent_and_key-clause-shape : goal.returns-in_default-parent_and_key-clause-shape
returns-in_default-parent_and_key-clause-shape g c = shape_of c.self.invariant c.self.view_is

pub returns-then-is_some-clause-answer : goal.returns-then-is_some-clause-answer
returns-then-is_some-clause-answer g c =
    let known : IsKnown (keyed_of c.self.inside.nodes.entries c.self.inside.next) c.args.id = known-view c.self.inside.nodes.entries c.self.inside.next c.args.id ∙ sym (ap is_some c.in-Some.ensures.value) in
    let m = first_of c.in-Some.node.now.first_child (sym c.if-is_some.ensures) in (
      subst (λ t. delete_refusal t.keyed c.args.id ≡ Some Forbidden) c.self.view_is (delete-parent (keyed_of c.self.inside.nodes.entries c.self.inside.next) c.args.id known
          (has_child-true (keyed_of c.self.inside.nodes.entries c.self.inside.next) c.args.id m.0
          (ap (λ f. f m.0) (parent-view c.self.inside.nodes.entries c.self.inside.next) ∙ (first_child_of c.self.invariant.chained c.args.id m.0 (sym (ap (λ o. links_first (option_map links_of o)) c.in-Some.ensures.value) ∙ m.1)).0))),
      refl,
    )

pub returns-then-is_some-clause-shape : goal.returns-then-is_some-clause-shape
returns-then-is_some-clause-shape g c = shape_of c.self.invariant c.self.view_is

-- the node is there until it is taken
pub unreachable-requires : goal.unreachable-requires
unreachable-requires g c =
    false≢true (ap is_some c.in_default-remove.ensures.value ∙ sym (mapped-some entry_of _) ∙ ap (λ f. is_some (option_map entry_of (f c.args.id))) c.close_up.ensures
    ∙ ap is_some (closed-node g.K.PartialEq.eq c.self.inside.nodes.entries c.self.inside.next c.args.id c.in-Some-parent_and_key.above c.in-Some-parent_and_key._name c.in-Some.node.now c.self.invariant c.in-Some.ensures.value c.in-Some-parent_and_key.is (not_some _ c.if-is_some.ensures)) ∙ mapped-some entry_of _ ∙ sym (ap is_some c.in-Some.ensures.value))

-- what the writes make of the nodes
made : (g : Over) (c : In-Some-remove g) → node_numbered c.remove.new.self.entries
    ≡ with_node_at (closed_up (node_numbered c.self.inside.nodes.entries) c.in-Some-parent_and_key.above c.in-Some.node.now.previous_sibling c.in-Some.node.now.next_sibling) c.args.id None
made g c = node_at-updated c.close_up.new.nodes c.remove.new.self c.args.id None c.in-Some-remove.ensures.updates ∙ ap (λ at. with_node_at at c.args.id None) c.close_up.ensures

pub invariant_of-self : goal.invariant_of-self
invariant_of-self g c =
    IsLinked-removed g.K.PartialEq.eq c.self.inside.nodes.entries c.self.inside.next c.args.id c.in-Some-parent_and_key.above c.in-Some-parent_and_key._name c.in-Some.node.now c.self.invariant c.in-Some.ensures.value c.in-Some-parent_and_key.is (not_some _ c.if-is_some.ensures) c.remove.new.self.entries (made g c)

pub returns-clause-answer : goal.returns-clause-answer
returns-clause-answer g c =
    let known : IsKnown (keyed_of c.self.inside.nodes.entries c.self.inside.next) c.args.id = known-view c.self.inside.nodes.entries c.self.inside.next c.args.id ∙ sym (ap is_some c.in-Some.ensures.value) in (
      subst (λ t. delete_refusal t.keyed c.args.id ≡ None) c.self.view_is (delete-leaf (keyed_of c.self.inside.nodes.entries c.self.inside.next) c.args.id known (not_root g.K.PartialEq.eq c.self.inside.nodes.entries c.self.inside.next c.args.id c.in-Some-parent_and_key.above c.in-Some-parent_and_key._name c.in-Some.node.now c.self.invariant c.in-Some.ensures.value c.in-Some-parent_and_key.is (not_some _ c.if-is_some.ensures))
          (has_child-false (keyed_of c.self.inside.nodes.entries c.self.inside.next) c.args.id (leaf_n g.K.PartialEq.eq c.self.inside.nodes.entries c.self.inside.next c.args.id c.in-Some-parent_and_key.above c.in-Some-parent_and_key._name c.in-Some.node.now c.self.invariant c.in-Some.ensures.value c.in-Some-parent_and_key.is (not_some _ c.if-is_some.ensures)))),
      ap (λ t. item t.keyed c.args.id) (sym c.self.view_is)
          ∙ ap (option_map (λ e. e.item)) (entry-view c.self.inside.nodes.entries c.self.inside.next c.args.id (node_numbered c.self.inside.nodes.entries c.args.id) refl
          ∙ sym (closed-node g.K.PartialEq.eq c.self.inside.nodes.entries c.self.inside.next c.args.id c.in-Some-parent_and_key.above c.in-Some-parent_and_key._name c.in-Some.node.now c.self.invariant c.in-Some.ensures.value c.in-Some-parent_and_key.is (not_some _ c.if-is_some.ensures))
          ∙ ap (λ f. option_map entry_of (f c.args.id)) (sym c.close_up.ensures) ∙ sym (ap (option_map entry_of) c.in-Some-remove.ensures.value)),
      keyed-removed g.K.PartialEq.eq c.self.inside.nodes.entries c.self.inside.next c.args.id c.in-Some-parent_and_key.above c.in-Some-parent_and_key._name c.in-Some.node.now c.self.invariant c.in-Some.ensures.value c.in-Some-parent_and_key.is (not_some _ c.if-is_some.ensures) c.remove.new.self.entries (made g c) ∙ ap (λ t. without_node t.keyed c.args.id) c.self.view_is,
    )

pub returns-clause-shape : goal.returns-clause-shape
returns-clause-shape g c = shape_of (invariant_of-self g c) refl
