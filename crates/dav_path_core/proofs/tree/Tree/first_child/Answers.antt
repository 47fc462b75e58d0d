use Rattle.dav_path_core.specs.TreeValue.{first}
use Rattle.dav_path_core.proofs.children.Links.{told_there, told_nowhere, first-told, shape_of}
use Rattle.dav_path_core.proofs.tree.Tree.first_child.Goals as goal

pub returns-in-Some-clause-answer : goal.returns-in-Some-clause-answer
returns-in-Some-clause-answer g c =
    let es = c.self.inside.nodes.entries in
    let here = c.in-Some.ensures.value in
    told_there es c.self.inside.next c.args.self.now c.self.view_is c.args.id c.in-Some.node.now here c.in-Some.node.now.first_child (first c.args.self.now c.args.id)
    (first-told es c.self.inside.next c.args.self.now c.self.view_is c.args.id c.in-Some.node.now here)

pub returns-in-None-clause-answer : goal.returns-in-None-clause-answer
returns-in-None-clause-answer g c =
    told_nowhere c.self.inside.nodes.entries c.self.inside.next c.args.self.now c.self.view_is c.args.id c.in-None.ensures.value (first c.args.self.now c.args.id)

pub returns-in-Some-clause-shape : goal.returns-in-Some-clause-shape
returns-in-Some-clause-shape g c = shape_of c.self.invariant c.self.view_is

pub returns-in-None-clause-shape : goal.returns-in-None-clause-shape
returns-in-None-clause-shape g c = shape_of c.self.invariant c.self.view_is
