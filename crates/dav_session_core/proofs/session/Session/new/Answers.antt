use Rattle.dav_session_core.proofs.NotedAsking.{new_state}
use Rattle.dav_session_core.proofs.session.Session.new.Goals as goal

pub returns-clause-state : goal.returns-clause-state
returns-clause-state g c =
    new_state g.R.Rng.stream (record { stores = c.new-stores.result; rng = c.new-stores.new.rng }) c.args.stores (g.R.Rng.stream c.args.rng) c.new-stores.ensures.stores c.new-stores.ensures.drawn
