use Rattle.std.proofs.Common.{rules, ap, sym, ◌∙◌, subst}
use Rattle.std.specs.Ordering.{nat_cmp}
use Rattle.std.specs.FinMap.{find}
use Rattle.std.proofs.lemmas.List.Sorted.{answers_always}
use Rattle.dav_locks_core.proofs.answers.LockListLemmas.{some_granted}
use Rattle.dav_locks_core.proofs.lists.NumberedLemmas.{InOrder, searched_found, searched_none}
use Rattle.dav_locks_core.proofs.memls.way.lock_at.Goals as goal

pub returns-in-Ok : goal.returns-in-Ok
returns-in-Ok c =
    let place = c.in-Ok.ensures.position (λ granted. granted.0) (answers_always _ _ _ (λ f a r g called. search rules)) in
    sym (ap (find nat_cmp c.args.number) (sym c.locks_at-granted.ensures)
    ∙ searched_found c.locks_at-granted.result.now c.index-granted-place.result (subst InOrder (sym c.locks_at-granted.ensures) c.requires) c.args.number c.in-Ok.place c.in-Ok.ensures.bound place)

pub returns-in-Err : goal.returns-in-Err
returns-in-Err c =
    let place = c.in-Err.ensures.position (λ granted. granted.0) (answers_always _ _ _ (λ f a r g called. search rules)) in
    sym (ap (find nat_cmp c.args.number) (sym c.locks_at-granted.ensures)
    ∙ searched_none c.locks_at-granted.result.now some_granted (subst InOrder (sym c.locks_at-granted.ensures) c.requires) c.args.number c.in-Err.field-0 c.in-Err.ensures.bound place)
