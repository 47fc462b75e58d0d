use Rattle.std.proofs.Common.{◌≡◌, is_some, IsSome, Option, Some, None, refl, sym, ap, ◌∙◌, subst}
use Rattle.std.specs.Option.{option_map}
use Rattle.std.specs.Result.{result_ok}
use Rattle.dav_path_core.specs.TreeValue.{after}
use Rattle.std.specs.FinMap.{insert}
use Rattle.dav_path_core.proofs.trees.Trees.{none≢some, same_some, ok-ok_or}
use Rattle.dav_path_core.proofs.children.Walks.{walk_here, smaller}
use Rattle.dav_path_core.proofs.index.Naming.{Naming, naming_start, naming_next, naming_end}
use Rattle.dav_path_core.proofs.child_index.names_in.Goals as goal

-- what is told of a number is told of a known one
told_of : {X A : Type 0} (o : Option X) (x at : A) → option_map (λ _. x) o ≡ Some at → IsSome o × (x ≡ at)
told_of None x at e = absurd (none≢some at e)
told_of (Some y) x at e = (refl, same_some x at e)

pub loop-at-init : goal.loop-at-init
loop-at-init g c =
    let t = c.args.tree.now in
    let shape = c.first_child.ensures.shape in
    let w = told_of _ _ _ (sym (ok-ok_or _ _) ∙ ap result_ok (sym c.first_child.ensures.answer) ∙ sym c.ok.ensures.value ∙ c.in_ok-at.was) in
    subst (λ names. Naming t c.args.folder names c.in_ok-at.at) (sym c.new-names.ensures)
    (subst (Naming t c.args.folder _) w.1 (naming_start t c.args.folder shape w.0))

pub child_at-after-requires : goal.child_at-after-requires
child_at-after-requires g c =
    let w : Naming c.args.tree.now c.args.folder c.loop-at.names (Some c.in-Some.id) = subst (Naming c.args.tree.now c.args.folder c.loop-at.names) c.in-Some.is c.loop-at.invariant in
    ap is_some (walk_here c.args.tree.now c.args.folder c.in-Some.id w.passed w.walk)

pub loop-at-smaller : goal.loop-at-smaller
loop-at-smaller g c =
    let w : Naming c.args.tree.now c.args.folder c.loop-at.names (Some c.in-Some.id) = subst (Naming c.args.tree.now c.args.folder c.loop-at.names) c.in-Some.is c.loop-at.invariant in
    smaller c.args.tree.now c.args.folder c.in-Some.id w.passed w.walk c.first_child.ensures.shape.tree _ _ c.in-Some.is (sym c.child_at-after.ensures.after)

pub loop-at-preserved : goal.loop-at-preserved
loop-at-preserved g c =
    let t = c.args.tree.now in
    let w : Naming t c.args.folder c.loop-at.names (Some c.in-Some.id) = subst (Naming t c.args.folder c.loop-at.names) c.in-Some.is c.loop-at.invariant in
    let is = c.child_at-after.ensures.key c.args.folder (walk_here t c.args.folder c.in-Some.id w.passed w.walk) in
    subst (Naming t c.args.folder c.add.new.self) (sym c.child_at-after.ensures.after)
    (subst (λ names. Naming t c.args.folder names (after t c.in-Some.id)) (sym (c.add.ensures.added c.if-not-add.false ∙ ap (λ k. insert c.loop-at.names k c.in-Some.id) c.as_slice.ensures))
    (naming_next t c.args.folder c.first_child.ensures.shape c.loop-at.names c.in-Some.id _ w is))

pub returns : goal.returns
returns g c =
    naming_end c.args.tree.now c.args.folder c.first_child.ensures.shape c.loop-at.names
    (subst (Naming c.args.tree.now c.args.folder c.loop-at.names) c.in_default.is c.loop-at.invariant)
