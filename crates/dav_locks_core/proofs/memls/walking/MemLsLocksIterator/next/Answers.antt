use Rattle.std.proofs.Common.{◌≡◌, ◌∷◌, List, length, rules, sym, ap, ◌∙◌, arith}
use Rattle.dav_locks_core.specs.Lock.{Lock}
use Rattle.dav_locks_core.specs.Private.LockWalking.{locks_by}
use Rattle.dav_locks_core.proofs.answers.ListingLemmas.{none_by, first_by}
use Rattle.dav_locks_core.proofs.memls.walking.MemLsLocksIterator.next.Goals as goal

pub returns-in_err-number-clause-steps : goal.returns-in_err-number-clause-steps
returns-in_err-number-clause-steps c =
    let t = c.self.inside.tree.now.keyed in
    rw c.from_residual.ensures (sym c.self.view_is ∙ ap (locks_by t) c.in_err-number.ensures.steps.0 ∙ none_by t, ap (locks_by t) c.in_err-number.ensures.steps.1 ∙ none_by t)

steps : (c : goal.In-Some) → c.args.self.now ≡ c.in-Some.lock.now ∷ locks_by c.self.inside.tree.now.keyed c.next.new.self
steps c =
    let t = c.self.inside.tree.now.keyed in
    sym c.self.view_is ∙ ap (locks_by t) c.in_ok-number.ensures.steps ∙ first_by t (c.in_ok-number.number.now, c.in_ok-number.node.now) c.next.new.self c.in-Some.lock.now (sym c.in-Some.ensures)

pub returns-clause-steps : goal.returns-clause-steps
returns-clause-steps c = steps c

pub returns-clause-goes : goal.returns-clause-goes
returns-clause-goes c =
    let long = ap (λ (locks : List Lock). length locks) (steps c) in
    record { on = λ _. (tt, tt, omega (arith, long)); keeps = search rules; rests = search rules }
