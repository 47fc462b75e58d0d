use Rattle.std.proofs.Common.{ap, sym, ◌∙◌, subst}
use Rattle.dav_path_core.specs.TreeValue.{IsTreeValue, first}
use Rattle.dav_path_core.proofs.children.Links.{first-view, shape_of}
use Rattle.dav_path_core.proofs.walks.WalkLemmas.{Finds, following-down, following-up, following-found}
use Rattle.dav_path_core.proofs.tree.Tree.next_below.Goals as goal

pub returns-in-Some-clause-value : goal.returns-in-Some-clause-value
returns-in-Some-clause-value g c =
    sym (following-down c.args.self.now c.args.top c.args.id c.in-Some.child
    (ap (λ t. first t c.args.id) (sym c.self.view_is) ∙ ap (λ f. f c.args.id) (first-view c.self.inside.nodes.entries c.self.inside.next) ∙ sym c.first_of.ensures ∙ c.in-Some.is))

pub returns-in-Some-clause-step : goal.returns-in-Some-clause-step
returns-in-Some-clause-step g c =
    let shape : IsTreeValue g.K.PartialEq.eq c.args.self.now = shape_of c.self.invariant c.self.view_is in
    subst (Finds c.args.self.now shape c.args.top c.args.id) (sym (returns-in-Some-clause-value g c)) (following-found c.args.self.now shape c.args.top c.args.id c.requires.under c.requires.known)

pub returns-in-Some-clause-shape : goal.returns-in-Some-clause-shape
returns-in-Some-clause-shape g c = shape_of c.self.invariant c.self.view_is

pub returns-clause-value : goal.returns-clause-value
returns-clause-value g c =
    c.next_beside.ensures
    ∙ sym (following-up c.args.self.now c.args.top c.args.id
    (ap (λ t. first t c.args.id) (sym c.self.view_is) ∙ ap (λ f. f c.args.id) (first-view c.self.inside.nodes.entries c.self.inside.next) ∙ sym c.first_of.ensures ∙ c.in_default.is))

pub returns-clause-step : goal.returns-clause-step
returns-clause-step g c =
    let shape : IsTreeValue g.K.PartialEq.eq c.args.self.now = shape_of c.self.invariant c.self.view_is in
    subst (Finds c.args.self.now shape c.args.top c.args.id) (sym (returns-clause-value g c)) (following-found c.args.self.now shape c.args.top c.args.id c.requires.under c.requires.known)

pub returns-clause-shape : goal.returns-clause-shape
returns-clause-shape g c = shape_of c.self.invariant c.self.view_is
