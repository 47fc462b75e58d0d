use Rattle.std.proofs.Common.{refl}
use Rattle.dav_session_core.proofs.NotedAsking.{state_as}
use Rattle.dav_session_core.proofs.session.Session.take.Goals as goal

pub returns-clause-state : goal.returns-clause-state
returns-clause-state g c =
    let seen = record c.args.self.now.stores { room = c.take.new.self.room; held = c.take.new.self.held; left = c.args.self.now.stores.given; base = c.take.new.self.base } in
    state_as g.R.Rng.stream c.args.self.now (record { stores = c.take.new.self; rng = c.args.self.now.rng }) seen c.take.ensures.same refl
