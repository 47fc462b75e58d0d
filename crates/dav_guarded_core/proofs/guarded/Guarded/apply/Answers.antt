use Rattle.std.proofs.Common.{◌≡◌, sym, subst, rules}
use Rattle.dav_locks_core.specs.Stale.{without_stale}
use Rattle.dav_locks_core.proofs.laws.StaleLemmas.{stale_once}
use Rattle.dav_guarded_core.specs.Served.{request_of, answer_of}
use Rattle.dav_guarded_core.specs.Stores.{state_of}
use Rattle.dav_guarded_core.proofs.StepLaws.{step_isolated, step_any_isolated, step_ends, step_shows}
use Rattle.dav_guarded_core.proofs.guarded.Guarded.apply.Goals as goal

pub apply_to_live-requires-clause-fresh : goal.apply_to_live-requires-clause-fresh
apply_to_live-requires-clause-fresh g c =
    let now = c.args.request.now.now.0 in
    subst (λ locks. without_stale now locks ≡ locks) (sym c.expire.ensures.left) (stale_once now c.self.inside.locks)

pub returns-clause-step : goal.returns-clause-step
returns-clause-step g c = search rules

pub returns-clause-isolated : goal.returns-clause-isolated
returns-clause-isolated g c =
    step_isolated (state_of c.args.self.now (g.R.Rng.stream c.args.rng.now)) (state_of c.apply_to_live.new.self (g.R.Rng.stream c.apply_to_live.new.rng)) (request_of c.args.request.now) (answer_of c.apply_to_live.result)
    (returns-clause-step g c)

pub returns-clause-any_isolated : goal.returns-clause-any_isolated
returns-clause-any_isolated g c =
    step_any_isolated (state_of c.args.self.now (g.R.Rng.stream c.args.rng.now)) (state_of c.apply_to_live.new.self (g.R.Rng.stream c.apply_to_live.new.rng)) (request_of c.args.request.now) (answer_of c.apply_to_live.result)
    (returns-clause-step g c)

pub returns-clause-ends_named : goal.returns-clause-ends_named
returns-clause-ends_named g c =
    step_ends (state_of c.args.self.now (g.R.Rng.stream c.args.rng.now)) (state_of c.apply_to_live.new.self (g.R.Rng.stream c.apply_to_live.new.rng)) (request_of c.args.request.now) (answer_of c.apply_to_live.result)
    (returns-clause-step g c)

pub returns-clause-new_shown : goal.returns-clause-new_shown
returns-clause-new_shown g c =
    step_shows (state_of c.args.self.now (g.R.Rng.stream c.args.rng.now)) (state_of c.apply_to_live.new.self (g.R.Rng.stream c.apply_to_live.new.rng)) (request_of c.args.request.now) (answer_of c.apply_to_live.result)
    (returns-clause-step g c)
