use Rattle.std.proofs.Common.{◌≡◌, None, Some, sym, ap, ◌∙◌, subst, ℕ}
use Rattle.dav_path_core.specs.Keyed.{IsKnown, child}
use Rattle.dav_locks_core.specs.Private.LockTree.{is_segment}
use Rattle.dav_locks_core.proofs.trees.GrowingLemmas.{Grows, Grows-by, child_known, alone-add, free_child}
use Rattle.dav_locks_core.proofs.memls.way.get_or_create_child.Goals as goal

grows : (c : goal.In-Ok) → Grows c.args.tree.now.keyed c.add_new_child.new.tree.keyed c.args.node c.args.segment.now
grows c =
    Grows-by c.args.tree.now.keyed c.add_new_child.new.tree.keyed c.args.node c.args.segment.now c.in_ok-key.key c.new.result.items
    c.requires.shape c.in-Ok.ensures.shape.tree c.in_ok-key.ensures c.new.ensures.items c.in-Ok.ensures.answer.1.1

pub returns-in-Some-clause-child : goal.returns-in-Some-clause-child
returns-in-Some-clause-child c =
    (sym c.in-Some.ensures, child_known c.args.tree.now.keyed c.args.node c.args.segment.now c.in-Some.child (sym c.in-Some.ensures))

pub returns-in-Ok-clause-grown : goal.returns-in-Ok-clause-grown
returns-in-Ok-clause-grown c = (grows c).grown

pub returns-in-Ok-clause-child : goal.returns-in-Ok-clause-child
returns-in-Ok-clause-child c =
    let number = c.in-Ok.ensures.answer.1.0 in
    let child = (grows c).child in
    let known = (grows c).known in
    (child ∙ ap (λ (n : ℕ). Some n) (sym number), subst (IsKnown c.add_new_child.new.tree.keyed) (sym number) known)

pub returns-in-Ok-clause-alone : goal.returns-in-Ok-clause-alone
returns-in-Ok-clause-alone c =
    alone-add c.args.tree.now.keyed c.add_new_child.new.tree.keyed c.args.node c.args.segment.now c.in_ok-key.key c.new.result.items c.in-Ok.child
    c.in_ok-key.ensures c.in-Ok.ensures.answer.1.0 c.in-Ok.ensures.answer.1.1

pub add_new_child-requires-clause-free : goal.add_new_child-requires-clause-free
add_new_child-requires-clause-free c =
    subst (λ k. child (is_segment k) c.args.tree.now.keyed c.args.node ≡ None) (sym c.in_ok-key.ensures) (free_child c.args.tree.now.keyed c.args.node c.args.segment.now (sym c.in_default.ensures))
