use Rattle.std.proofs.Common.{◌≡◌, ℕ, ap, sym, ◌∙◌, refl, subst, Some, None, is_some, false}
use Rattle.std.specs.Fn.{FnReturnsAt}
use Rattle.std.specs.Option.{option_map}
use Rattle.std.proofs.lemmas.Bool.{false≢true}
use Rattle.dav_path_core.specs.declared.errors.FsError.TheVariants.{NotFound}
use Rattle.dav_path_core.specs.Keyed.{entry}
use Rattle.dav_path_core.proofs.trees.Trees.{same_some}
use Rattle.dav_path_core.specs.TreeValue.{IsTreeValue}
use Rattle.dav_path_core.specs.View.{entry_of}
use Rattle.dav_path_core.proofs.children.Views.{entry-view}
use Rattle.dav_path_core.proofs.children.Links.{first-told, shape_of}
use Rattle.dav_path_core.proofs.children.Walks.{Searched, parent_known, walk_here, smaller, search_start, search_next, search_end, search-found, search-none}
use Rattle.dav_path_core.proofs.tree.Tree.find_child.Goals as goal

pub returns-in_default-clause-none : goal.returns-in_default-clause-none
returns-in_default-clause-none g c =
    let shape : IsTreeValue g.K.PartialEq.eq c.args.self.now = shape_of c.self.invariant c.self.view_is in
    let gone : entry c.args.self.now.keyed c.args.parent ≡ None = ap (λ t. entry t.keyed c.args.parent) (sym c.self.view_is) ∙ entry-view c.self.inside.nodes.entries c.self.inside.next c.args.parent None c.in_default.ensures.value in
    λ n k e. absurd (false≢true (ap is_some (sym gone) ∙ parent_known g.K.PartialEq.eq c.args.self.now.keyed shape.tree n c.args.parent (ap (option_map (λ q. q.0)) e)))

pub returns-in_default-clause-by_test : goal.returns-in_default-clause-by_test
returns-in_default-clause-by_test g c =
    let shape : IsTreeValue g.K.PartialEq.eq c.args.self.now = shape_of c.self.invariant c.self.view_is in
    λ test one pure. search-none g.K.PartialEq.eq c.args.self.now.keyed c.args.parent shape.tree (λ k b. FnReturnsAt g.F.Fn c.args.same k b) NotFound test one pure (returns-in_default-clause-none g c)

pub returns-in_default-clause-shape : goal.returns-in_default-clause-shape
returns-in_default-clause-shape g c = shape_of c.self.invariant c.self.view_is

pub loop-at-init : goal.loop-at-init
loop-at-init g c =
    let known : entry c.args.self.now.keyed c.args.parent ≡ Some (entry_of c.in-Some.top.now) = ap (λ t. entry t.keyed c.args.parent) (sym c.self.view_is) ∙ entry-view c.self.inside.nodes.entries c.self.inside.next c.args.parent (Some c.in-Some.top.now) c.in-Some.ensures.value in
    subst (Searched c.args.self.now c.args.parent (λ k. FnReturnsAt g.F.Fn c.args.same k false))
    (first-told c.self.inside.nodes.entries c.self.inside.next c.args.self.now c.self.view_is c.args.parent c.in-Some.top.now c.in-Some.ensures.value)
    (search_start c.args.self.now c.args.parent (λ k. FnReturnsAt g.F.Fn c.args.same k false) (shape_of c.self.invariant c.self.view_is) (ap is_some known))

pub child_at-after-requires : goal.child_at-after-requires
child_at-after-requires g c =
    let s : Searched c.args.self.now c.args.parent (λ k. FnReturnsAt g.F.Fn c.args.same k false) (Some c.in-Some-at.id) = subst (Searched c.args.self.now c.args.parent (λ k. FnReturnsAt g.F.Fn c.args.same k false)) c.in-Some-at.is c.loop-at.invariant in
    ap is_some (walk_here c.args.self.now c.args.parent c.in-Some-at.id s.passed s.walk)

pub returns-then-same-clause-found : goal.returns-then-same-clause-found
returns-then-same-clause-found g c =
    let s : Searched c.args.self.now c.args.parent (λ k. FnReturnsAt g.F.Fn c.args.same k false) (Some c.in-Some-at.id) = subst (Searched c.args.self.now c.args.parent (λ k. FnReturnsAt g.F.Fn c.args.same k false)) c.in-Some-at.is c.loop-at.invariant in
    (_, c.child_at-after.ensures.key c.args.parent (walk_here c.args.self.now c.args.parent c.in-Some-at.id s.passed s.walk), record { shown = _; shows = refl; says = record { met = c.if-same.ensures } })

pub returns-then-same-clause-by_test : goal.returns-then-same-clause-by_test
returns-then-same-clause-by_test g c =
    let s : Searched c.args.self.now c.args.parent (λ k. FnReturnsAt g.F.Fn c.args.same k false) (Some c.in-Some-at.id) = subst (Searched c.args.self.now c.args.parent (λ k. FnReturnsAt g.F.Fn c.args.same k false)) c.in-Some-at.is c.loop-at.invariant in
    λ test one pure. search-found g.K.PartialEq.eq c.args.self.now.keyed c.args.parent (shape_of c.self.invariant c.self.view_is).tree (λ k b. FnReturnsAt g.F.Fn c.args.same k b) NotFound test one pure c.in-Some-at.id _
    (c.child_at-after.ensures.key c.args.parent (walk_here c.args.self.now c.args.parent c.in-Some-at.id s.passed s.walk)) (record { shown = _; shows = refl; says = record { met = c.if-same.ensures } })

pub returns-then-same-clause-shape : goal.returns-then-same-clause-shape
returns-then-same-clause-shape g c = shape_of c.self.invariant c.self.view_is

pub loop-at-smaller : goal.loop-at-smaller
loop-at-smaller g c =
    let s : Searched c.args.self.now c.args.parent (λ k. FnReturnsAt g.F.Fn c.args.same k false) (Some c.in-Some-at.id) = subst (Searched c.args.self.now c.args.parent (λ k. FnReturnsAt g.F.Fn c.args.same k false)) c.in-Some-at.is c.loop-at.invariant in
    smaller c.args.self.now c.args.parent c.in-Some-at.id s.passed s.walk (shape_of c.self.invariant c.self.view_is).tree _ _ c.in-Some-at.is (sym c.child_at-after.ensures.after)

pub loop-at-preserved : goal.loop-at-preserved
loop-at-preserved g c =
    let s : Searched c.args.self.now c.args.parent (λ k. FnReturnsAt g.F.Fn c.args.same k false) (Some c.in-Some-at.id) = subst (Searched c.args.self.now c.args.parent (λ k. FnReturnsAt g.F.Fn c.args.same k false)) c.in-Some-at.is c.loop-at.invariant in
    subst (Searched c.args.self.now c.args.parent (λ k. FnReturnsAt g.F.Fn c.args.same k false)) (sym c.child_at-after.ensures.after)
    (search_next c.args.self.now c.args.parent (λ k. FnReturnsAt g.F.Fn c.args.same k false) c.in-Some-at.id s (λ k e.
    record { shown = _; shows = ap (λ (q : ℕ × g.row.K.Denot). q.1) (same_some _ _ (sym (c.child_at-after.ensures.key c.args.parent (walk_here c.args.self.now c.args.parent c.in-Some-at.id s.passed s.walk)) ∙ e)); says = record { met = c.if-same.ensures } }))

pub returns-clause-none : goal.returns-clause-none
returns-clause-none g c = search_end c.args.self.now c.args.parent (λ k. FnReturnsAt g.F.Fn c.args.same k false) (subst (Searched c.args.self.now c.args.parent (λ k. FnReturnsAt g.F.Fn c.args.same k false)) c.in_default-at.is c.loop-at.invariant)

pub returns-clause-by_test : goal.returns-clause-by_test
returns-clause-by_test g c =
    λ test one pure. search-none g.K.PartialEq.eq c.args.self.now.keyed c.args.parent (shape_of c.self.invariant c.self.view_is).tree (λ k b. FnReturnsAt g.F.Fn c.args.same k b) NotFound test one pure (returns-clause-none g c)

pub returns-clause-shape : goal.returns-clause-shape
returns-clause-shape g c = shape_of c.self.invariant c.self.view_is
