use Rattle.std.proofs.Common.{inr, refl, string_bytes}
use Rattle.std.proofs.lemmas.Result.{err_from_is_err_and}
use Rattle.dav_guarded_core.specs.Served.{command_of}
use Rattle.dav_session_core.specs.Callers.{also_naming}
use Rattle.dav_session_core.specs.Sessions as spec
use Rattle.dav_session_core.proofs.AskedLemmas.{asked_named}
use Rattle.dav_session_core.proofs.NotedAsking.{room_kept, same_noting, state_as, step_by}
use Rattle.dav_session_core.proofs.session.Session.ask_naming.Goals as goal

pub returns-in_err-ask_naming-clause-asked : goal.returns-in_err-ask_naming-clause-asked
returns-in_err-ask_naming-clause-asked g c =
    let q = err_from_is_err_and c.from_residual.result c.from_residual.ensures.1 in
    rw (q.1, q.2) (inr (refl, state_as g.R.Rng.stream c.args.self.now (record { stores = c.ask_naming.new.self; rng = c.ask_naming.new.rng }) c.args.self.now.stores c.in_err-ask_naming.ensures.untried c.in_err-ask_naming.ensures.undrawn))

pub returns-in_err-ask_naming-clause-room : goal.returns-in_err-ask_naming-clause-room
returns-in_err-ask_naming-clause-room g c = room_kept g.R.Rng.stream c.args.self.now (record { stores = c.ask_naming.new.self; rng = c.ask_naming.new.rng }) c.ask_naming.ensures.keeps c.ask_naming.ensures.room c.ask_naming.ensures.held

pub returns-in_err-ask_naming-clause-noting : goal.returns-in_err-ask_naming-clause-noting
returns-in_err-ask_naming-clause-noting g c = same_noting g.R.Rng.stream c.args.self.now (record { stores = c.ask_naming.new.self; rng = c.ask_naming.new.rng }) c.ask_naming.ensures.keeps c.ask_naming.ensures.base c.ask_naming.ensures.given

pub returns-clause-asked : goal.returns-clause-asked
returns-clause-asked g c =
    let token = string_bytes c.args.token in
    asked_named (spec.caller c.args.self.now) _ _ token (command_of c.args.command) _
    (step_by g.R.Rng.stream c.args.self.now (record { stores = c.ask_naming.new.self; rng = c.ask_naming.new.rng }) (also_naming (spec.caller c.args.self.now) token) (command_of c.args.command) _ c.in_ok-ask_naming.ensures.step
    c.in_ok-ask_naming.ensures.drawn)

pub returns-clause-room : goal.returns-clause-room
returns-clause-room g c = room_kept g.R.Rng.stream c.args.self.now (record { stores = c.ask_naming.new.self; rng = c.ask_naming.new.rng }) c.ask_naming.ensures.keeps c.ask_naming.ensures.room c.ask_naming.ensures.held

pub returns-clause-noting : goal.returns-clause-noting
returns-clause-noting g c = same_noting g.R.Rng.stream c.args.self.now (record { stores = c.ask_naming.new.self; rng = c.ask_naming.new.rng }) c.ask_naming.ensures.keeps c.ask_naming.ensures.base c.ask_naming.ensures.given
