use Rattle.std.proofs.Common.{subst}
use Rattle.dav_resource_core.specs.Served.{request_of, refusal_of}
use Rattle.dav_resource_core.specs.Step.{State, Serves}
use Rattle.dav_resource_core.specs.Stores.{state_of}
use Rattle.std.specs.Prelude.{Err}
use Rattle.uses.proofs.Asking.{refused_locks}
use Rattle.uses.proofs.handling.answer.Goals as goal

pub returns-in-Err-clause-locks : goal.returns-in-Err-clause-locks
returns-in-Err-clause-locks g c unsuccessful =
    let r = request_of c.args.request.now in
    let new = state_of c.apply.new.self (g.R.Rng.stream c.apply.new.rng) in
    refused_locks (state_of c.args.stores.now (g.R.Rng.stream c.args.rng.now)) new r (refusal_of c.in-Err.refusal)
    (subst (λ (s : State). Serves s r (Err (refusal_of c.in-Err.refusal)) new) c.in-Ok.ensures.start c.in-Err.ensures.step)
