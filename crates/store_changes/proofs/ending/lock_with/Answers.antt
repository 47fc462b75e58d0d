use Rattle.std.proofs.Common.{List, sym, ◌∙◌, subst}
use Rattle.dav_locks_core.specs.Lock.{Lock}
use Rattle.store_changes.proofs.EndedLockLemmas.{Passed, finds_one, passes_none, passes_one}
use Rattle.store_changes.proofs.ending.lock_with.Goals as goal

pub looking-init : goal.looking-init
looking-init c =
    let token = c.args.token.now in
    let all = c.args.stores.now.locks in
    subst (λ (left : List Lock). Passed token c.args.now.0 all left) (sym (c.into_iter-lock-iterator.ensures.into_iter_gives ∙ c.locks-lock-items.ensures.locks)) (passes_none token c.args.now.0 all)

pub looking-preserved : goal.looking-preserved
looking-preserved c =
    let token = c.args.token.now in
    let all = c.args.stores.now.locks in
    passes_one token c.args.now.0 all c.in-Some.lock.now c.next.new.self (subst (λ (left : List Lock). Passed token c.args.now.0 all left) c.in-Some.ensures.steps c.looking.invariant) (sym c.is_named.ensures ∙ c.if-is_named.false)

pub returns-then-is_named : goal.returns-then-is_named
returns-then-is_named c =
    let token = c.args.token.now in
    let all = c.args.stores.now.locks in
    finds_one token c.args.now.0 all c.in-Some.lock.now c.next.new.self (subst (λ (left : List Lock). Passed token c.args.now.0 all left) c.in-Some.ensures.steps c.looking.invariant) (sym c.is_named.ensures ∙ c.if-is_named.true)
