use Rattle.std.proofs.Common.{◌≡◌, refl, ap, sym, ◌∙◌, subst, is_some, Some, None, false, Option, ℕ}
use Rattle.std.proofs.lemmas.Bool.{false≢true}
use Rattle.dav_path_core.specs.Keyed.{child, parent_and_key_of, with_new_place, is_under, IsKnown}
use Rattle.dav_path_core.specs.View.{keyed_of}
use Rattle.dav_path_core.specs.Private.Nodes.{node_numbered, first_in, closed_up, with_parent_and_key, put_before}
use Rattle.dav_path_core.proofs.children.Views.{known-view, entry-view}
use Rattle.dav_path_core.proofs.children.Links.{shape_of}
use Rattle.dav_path_core.proofs.trees.Refusals.{no_parent_root}
use Rattle.dav_path_core.proofs.children.Placing.{keyed-placed, IsLinked-placed}
use Rattle.dav_path_core.proofs.tree.Tree.put_below.Given.{Over}
use Rattle.dav_path_core.proofs.tree.Tree.put_below.Goals as goal
use Rattle.dav_path_core.proofs.tree.Tree.put_below.Goals.{After-put_before}

pub unreachable-requires : goal.unreachable-requires
unreachable-requires g c =
    false≢true (ap is_some c.in_default.ensures.value ∙ sym (known-view c.self.inside.nodes.entries c.self.inside.next c.args.id) ∙ subst (λ t. IsKnown t.keyed c.args.id) (sym c.self.view_is) c.requires.known)

pub unreachable-requires-in_default-parent_and_key : goal.unreachable-requires-in_default-parent_and_key
unreachable-requires-in_default-parent_and_key g c =
    let known : IsKnown (keyed_of c.self.inside.nodes.entries c.self.inside.next) c.args.id = known-view c.self.inside.nodes.entries c.self.inside.next c.args.id ∙ sym (ap is_some c.in-Some.ensures.value) in
    c.requires.not_root (no_parent_root (keyed_of c.self.inside.nodes.entries c.self.inside.next) g.K.PartialEq.eq c.self.invariant.tree c.args.id known
    (ap parent_and_key_of (entry-view c.self.inside.nodes.entries c.self.inside.next c.args.id (Some c.in-Some.node.now) c.in-Some.ensures.value) ∙ c.in_default-parent_and_key.is))

-- what the writes make of the nodes
made : (g : Over) (c : After-put_before g) → node_numbered c.put_before.new.nodes.entries
    ≡ put_before (with_parent_and_key (closed_up (node_numbered c.self.inside.nodes.entries) c.in-Some-parent_and_key.above c.in-Some.node.now.previous_sibling c.in-Some.node.now.next_sibling) c.args.id c.args.new_parent c.args.new_name
    (first_in (closed_up (node_numbered c.self.inside.nodes.entries) c.in-Some-parent_and_key.above c.in-Some.node.now.previous_sibling c.in-Some.node.now.next_sibling) c.args.new_parent)) c.args.new_parent c.args.id
    (first_in (closed_up (node_numbered c.self.inside.nodes.entries) c.in-Some-parent_and_key.above c.in-Some.node.now.previous_sibling c.in-Some.node.now.next_sibling) c.args.new_parent)
made g c =
    c.put_before.ensures
    ∙ ap (λ at. put_before at c.args.new_parent c.args.id c.first_of-first.result) c.set_parent_and_key.ensures
    ∙ ap (λ (o : Option ℕ). put_before (with_parent_and_key (node_numbered c.close_up.new.nodes.entries) c.args.id c.args.new_parent c.args.new_name o) c.args.new_parent c.args.id o) c.first_of-first.ensures
    ∙ ap (λ at. put_before (with_parent_and_key at c.args.id c.args.new_parent c.args.new_name (first_in at c.args.new_parent)) c.args.new_parent c.args.id (first_in at c.args.new_parent)) c.close_up.ensures

pub invariant_of-self : goal.invariant_of-self
invariant_of-self g c =
    IsLinked-placed g.K.PartialEq.eq g.met.K.Eq.laws.symm c.self.inside.nodes.entries c.put_before.new.nodes.entries c.self.inside.next c.args.id c.args.new_parent c.in-Some-parent_and_key.above c.args.new_name c.in-Some-parent_and_key._name
    c.in-Some.node.now c.self.invariant (subst (λ t. IsKnown t.keyed c.args.new_parent) (sym c.self.view_is) c.requires.known_parent) c.requires.not_root
    (subst (λ t. is_under t.keyed c.args.id c.args.new_parent ≡ false) (sym c.self.view_is) c.requires.outside)
    (subst (λ t. child (g.K.PartialEq.eq c.args.new_name) t.keyed c.args.new_parent ≡ None) (sym c.self.view_is) c.requires.free)
    c.in-Some.ensures.value c.in-Some-parent_and_key.is (made g c)

pub returns-clause-placed : goal.returns-clause-placed
returns-clause-placed g c =
    keyed-placed g.K.PartialEq.eq g.met.K.Eq.laws.symm c.self.inside.nodes.entries c.put_before.new.nodes.entries c.self.inside.next c.args.id c.args.new_parent c.in-Some-parent_and_key.above c.args.new_name c.in-Some-parent_and_key._name
    c.in-Some.node.now c.self.invariant (subst (λ t. IsKnown t.keyed c.args.new_parent) (sym c.self.view_is) c.requires.known_parent) c.requires.not_root
    (subst (λ t. is_under t.keyed c.args.id c.args.new_parent ≡ false) (sym c.self.view_is) c.requires.outside)
    (subst (λ t. child (g.K.PartialEq.eq c.args.new_name) t.keyed c.args.new_parent ≡ None) (sym c.self.view_is) c.requires.free)
    c.in-Some.ensures.value c.in-Some-parent_and_key.is (made g c)
    ∙ ap (λ t. with_new_place t.keyed c.args.id c.args.new_parent c.args.new_name) c.self.view_is

pub returns-clause-shape : goal.returns-clause-shape
returns-clause-shape g c = shape_of (invariant_of-self g c) refl
