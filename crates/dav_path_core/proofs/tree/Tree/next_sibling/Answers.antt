use Rattle.std.proofs.Common.{ap, sym, ◌∙◌, Some}
use Rattle.std.specs.Option.{ok_or}
use Rattle.dav_path_core.specs.declared.errors.FsError.TheVariants.{NotFound}
use Rattle.dav_path_core.specs.TreeValue.{IsTreeValue, after}
use Rattle.dav_path_core.proofs.children.Links.{told_there, told_nowhere, root_known, after-told, shape_of}
use Rattle.dav_path_core.proofs.tree.Tree.next_sibling.Goals as goal

pub returns-in-Some-clause-answer : goal.returns-in-Some-clause-answer
returns-in-Some-clause-answer g c =
    let es = c.self.inside.nodes.entries in
    let here = c.in-Some.ensures.value in
    told_there es c.self.inside.next c.args.self.now c.self.view_is c.args.id c.in-Some.node.now here c.in-Some.node.now.next_sibling (after c.args.self.now c.args.id)
    (after-told es c.self.inside.next c.args.self.now c.self.view_is c.args.id c.in-Some.node.now here)

pub returns-in-None-clause-answer : goal.returns-in-None-clause-answer
returns-in-None-clause-answer g c =
    told_nowhere c.self.inside.nodes.entries c.self.inside.next c.args.self.now c.self.view_is c.args.id c.in-None.ensures.value (after c.args.self.now c.args.id)

pub returns-in-Some-clause-shape : goal.returns-in-Some-clause-shape
returns-in-Some-clause-shape g c = shape_of c.self.invariant c.self.view_is

pub returns-in-None-clause-shape : goal.returns-in-None-clause-shape
returns-in-None-clause-shape g c = shape_of c.self.invariant c.self.view_is

pub returns-in-Some-clause-root : goal.returns-in-Some-clause-root
returns-in-Some-clause-root g c =
    let shape : IsTreeValue g.K.PartialEq.eq c.args.self.now = shape_of c.self.invariant c.self.view_is in
    λ e. ap (λ o. ok_or (Some o) NotFound) (sym (after-told c.self.inside.nodes.entries c.self.inside.next c.args.self.now c.self.view_is c.args.id c.in-Some.node.now c.in-Some.ensures.value) ∙ ap (after c.args.self.now) e ∙ shape.root_alone)

pub returns-in-None-clause-root : goal.returns-in-None-clause-root
returns-in-None-clause-root g c =
    λ e. absurd (root_known g.K.PartialEq.eq c.self.inside.nodes.entries c.self.inside.next c.self.invariant c.args.id e c.in-None.ensures.value)
