use Rattle.std.proofs.Common.{ap, is_some, map, [], ◌∷◌, ◌++◌, sym, subst, Some}
use Rattle.dav_path_core.specs.TreeValue.{IsTreeValue}
use Rattle.dav_path_core.specs.Children.{ListsChildren}
use Rattle.dav_path_core.proofs.children.Links.{first-told, shape_of}
use Rattle.dav_path_core.proofs.children.Walks.{walk_here, smaller}
use Rattle.dav_path_core.proofs.children.Listings.{Gathered, gather_start, gather_next, gather_end, known_there, not_known, not_unknown}
use Rattle.dav_path_core.proofs.tree.Tree.get_children.Goals as goal

pub returns-in_default-clause-known : goal.returns-in_default-clause-known
returns-in_default-clause-known g c = λ known. absurd (not_known c.self.inside.nodes.entries c.self.inside.next c.args.self.now c.self.view_is c.args.parent c.in_default.ensures.value known)

pub returns-in_default-clause-shape : goal.returns-in_default-clause-shape
returns-in_default-clause-shape g c = shape_of c.self.invariant c.self.view_is

pub loop-at-init : goal.loop-at-init
loop-at-init g c =
    let shape : IsTreeValue g.K.PartialEq.eq c.args.self.now = shape_of c.self.invariant c.self.view_is in
    subst (Gathered g.K.PartialEq.eq c.args.self.now c.args.parent c.in-Some.top.now.first_child) (sym c.new-pairs.ensures.items)
    (subst (λ o. Gathered g.K.PartialEq.eq c.args.self.now c.args.parent o _)
    (first-told c.self.inside.nodes.entries c.self.inside.next c.args.self.now c.self.view_is c.args.parent c.in-Some.top.now c.in-Some.ensures.value)
    (gather_start g.K.PartialEq.eq c.args.self.now c.args.parent shape
    (known_there c.self.inside.nodes.entries c.self.inside.next c.args.self.now c.self.view_is c.args.parent c.in-Some.top.now c.in-Some.ensures.value)))

pub returns-in_err-clone-clause-unknown : goal.returns-in_err-clone-clause-unknown
returns-in_err-clone-clause-unknown g c = λ none. absurd (not_unknown c.self.inside.nodes.entries c.self.inside.next c.args.self.now c.self.view_is c.args.parent c.in-Some.top.now c.in-Some.ensures.value none)

pub returns-in_err-push-clause-unknown : goal.returns-in_err-push-clause-unknown
returns-in_err-push-clause-unknown g c = λ none. absurd (not_unknown c.self.inside.nodes.entries c.self.inside.next c.args.self.now c.self.view_is c.args.parent c.in-Some.top.now c.in-Some.ensures.value none)

pub returns-clause-children : goal.returns-clause-children
returns-clause-children g c =
    subst (ListsChildren g.K.PartialEq.eq c.args.self.now c.args.parent) (sym c.into_iter.ensures.rest)
    (gather_end g.K.PartialEq.eq c.args.self.now c.args.parent c.loop-at.pairs.items
    (subst (λ o. Gathered g.K.PartialEq.eq c.args.self.now c.args.parent o c.loop-at.pairs.items) c.in_default-at.is c.loop-at.invariant))

pub returns-clause-unknown : goal.returns-clause-unknown
returns-clause-unknown g c = λ none. absurd (not_unknown c.self.inside.nodes.entries c.self.inside.next c.args.self.now c.self.view_is c.args.parent c.in-Some.top.now c.in-Some.ensures.value none)

pub child_at-after-requires : goal.child_at-after-requires
child_at-after-requires g c =
    let w : Gathered g.K.PartialEq.eq c.args.self.now c.args.parent (Some c.in-Some-at.id) c.loop-at.pairs.items = subst (λ o. Gathered g.K.PartialEq.eq c.args.self.now c.args.parent o c.loop-at.pairs.items) c.in-Some-at.is c.loop-at.invariant in
    ap is_some (walk_here c.args.self.now c.args.parent c.in-Some-at.id (map (λ q. q.1) c.loop-at.pairs.items) w.walk)

pub returns-in_err-clone-clause-shape : goal.returns-in_err-clone-clause-shape
returns-in_err-clone-clause-shape g c = shape_of c.self.invariant c.self.view_is

pub returns-in_err-push-clause-shape : goal.returns-in_err-push-clause-shape
returns-in_err-push-clause-shape g c = shape_of c.self.invariant c.self.view_is

pub loop-at-smaller : goal.loop-at-smaller
loop-at-smaller g c =
    let w : Gathered g.K.PartialEq.eq c.args.self.now c.args.parent (Some c.in-Some-at.id) c.loop-at.pairs.items = subst (λ o. Gathered g.K.PartialEq.eq c.args.self.now c.args.parent o c.loop-at.pairs.items) c.in-Some-at.is c.loop-at.invariant in
    smaller c.args.self.now c.args.parent c.in-Some-at.id (map (λ q. q.1) c.loop-at.pairs.items) w.walk (shape_of c.self.invariant c.self.view_is).tree _ _ c.in-Some-at.is (sym c.child_at-after.ensures.after)

pub loop-at-preserved : goal.loop-at-preserved
loop-at-preserved g c =
    let w : Gathered g.K.PartialEq.eq c.args.self.now c.args.parent (Some c.in-Some-at.id) c.loop-at.pairs.items = subst (λ o. Gathered g.K.PartialEq.eq c.args.self.now c.args.parent o c.loop-at.pairs.items) c.in-Some-at.is c.loop-at.invariant in
    subst (Gathered g.K.PartialEq.eq c.args.self.now c.args.parent c.child_at-after.result.1) {x = c.loop-at.pairs.items ++ (c.in_ok-clone.field-0, c.in-Some-at.id) ∷ []} (sym c.in_ok-push.ensures.items)
    (subst (λ o. Gathered g.K.PartialEq.eq c.args.self.now c.args.parent o (c.loop-at.pairs.items ++ (c.in_ok-clone.field-0, c.in-Some-at.id) ∷ [])) (sym c.child_at-after.ensures.after)
    (gather_next g.K.PartialEq.eq c.args.self.now c.args.parent c.in-Some-at.id c.loop-at.pairs.items w _ c.in_ok-clone.field-0 (c.child_at-after.ensures.key c.args.parent (walk_here c.args.self.now c.args.parent c.in-Some-at.id (map (λ q. q.1) c.loop-at.pairs.items) w.walk))
    (c.requires.clones_equal _ _ c.in_ok-clone.ensures.cases)))

pub returns-clause-shape : goal.returns-clause-shape
returns-clause-shape g c = shape_of c.self.invariant c.self.view_is
