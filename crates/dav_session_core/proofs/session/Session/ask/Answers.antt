use Rattle.std.proofs.Common.{inr}
use Rattle.dav_guarded_core.specs.Served.{answer_of, command_of}
use Rattle.dav_session_core.specs.Sessions as spec
use Rattle.dav_session_core.proofs.AskedLemmas.{asked_acts, asked_looked, asked_requests, looked, unmade_looks}
use Rattle.dav_session_core.proofs.session.Session.ask.Goals as goal

pub returns-clause-acts : goal.returns-clause-acts
returns-clause-acts g c = λ keeps.
    asked_acts g.R.Rng.stream c.args.self.now c.ask_stores.new.self (command_of c.args.command) c.ask_stores.ensures.caller c.ask_stores.ensures.noting (answer_of c.ask_stores.result) c.ask_stores.ensures.asked
    keeps

pub returns-clause-looks : goal.returns-clause-looks
returns-clause-looks g c = λ look.
    looked g.R.Rng.stream c.args.self.now c.ask_stores.new.self (command_of c.args.command) c.ask_stores.ensures.caller c.ask_stores.ensures.noting (answer_of c.ask_stores.result)
    (asked_looked (spec.caller c.args.self.now) (command_of c.args.command) _ _ (answer_of c.ask_stores.result) look c.ask_stores.ensures.asked) look

pub returns-clause-refused : goal.returns-clause-refused
returns-clause-refused g c =
    unmade_looks g.R.Rng.stream c.args.self.now c.ask_stores.new.self (command_of c.args.command) c.ask_stores.ensures.caller c.ask_stores.ensures.noting c.ask_stores.result c.ask_stores.ensures.asked

pub returns-clause-requests : goal.returns-clause-requests
returns-clause-requests g c =
    asked_requests g.R.Rng.stream c.args.self.now c.ask_stores.new.self (command_of c.args.command) c.ask_stores.ensures.caller c.ask_stores.ensures.noting (answer_of c.ask_stores.result) c.ask_stores.ensures.asked

pub returns-clause-shape : goal.returns-clause-shape
returns-clause-shape g c = λ room. c.ask_stores.ensures.shape (inr room)
