use Rattle.std.proofs.Common.{inl, inr, refl}
use Rattle.std.proofs.lemmas.Bool.{false≢true}
use Rattle.std.proofs.lemmas.Result.{err_from_is_err_and}
use Rattle.dav_guarded_core.specs.Requests.{OutOfMemory}
use Rattle.dav_guarded_core.specs.Served.{command_of}
use Rattle.dav_session_core.specs.Sessions as spec
use Rattle.dav_session_core.proofs.AskedLemmas.{asked_of}
use Rattle.dav_session_core.proofs.NotedAsking.{room_kept, same_noting, step_by, undone}
use Rattle.dav_session_core.proofs.session.Session.ask_stores.Goals as goal

pub returns-in_err-ask-clause-asked : goal.returns-in_err-ask-clause-asked
returns-in_err-ask-clause-asked g c =
    let q = err_from_is_err_and c.from_residual.result c.from_residual.ensures.1 in
    rw (q.1, q.2) (inr (undone g.R.Rng.stream c.args.self.now (record { stores = c.ask.new.self; rng = c.ask.new.rng }) (command_of c.args.command) (λ look. false≢true (c.in_err-ask.ensures.looks look).0) c.in_err-ask.ensures.untried
    c.in_err-ask.ensures.undrawn OutOfMemory refl))

pub returns-in_err-ask-clause-step : goal.returns-in_err-ask-clause-step
returns-in_err-ask-clause-step g c = λ room. absurd (false≢true (c.in_err-ask.ensures.sure room))

pub returns-in_err-ask-clause-noting : goal.returns-in_err-ask-clause-noting
returns-in_err-ask-clause-noting g c = same_noting g.R.Rng.stream c.args.self.now (record { stores = c.ask.new.self; rng = c.ask.new.rng }) c.ask.ensures.keeps c.ask.ensures.base c.ask.ensures.given

pub returns-in_err-ask-clause-spared : goal.returns-in_err-ask-clause-spared
returns-in_err-ask-clause-spared g c = λ look. absurd (false≢true (c.in_err-ask.ensures.looks look).0)

pub returns-in_err-ask-clause-shape : goal.returns-in_err-ask-clause-shape
returns-in_err-ask-clause-shape g c = λ h. elim h [
  | inl look ↦ absurd (false≢true (c.in_err-ask.ensures.looks look).0)
  | inr room ↦ absurd (false≢true (c.in_err-ask.ensures.sure room))
]

pub returns-clause-asked : goal.returns-clause-asked
returns-clause-asked g c =
    asked_of (spec.caller c.args.self.now) (command_of c.args.command) _ _ _
    (step_by g.R.Rng.stream c.args.self.now (record { stores = c.ask.new.self; rng = c.ask.new.rng }) (spec.caller c.args.self.now) (command_of c.args.command) _ c.in_ok-ask.ensures.step c.in_ok-ask.ensures.drawn)

pub returns-clause-step : goal.returns-clause-step
returns-clause-step g c = λ room.
    step_by g.R.Rng.stream c.args.self.now (record { stores = c.ask.new.self; rng = c.ask.new.rng }) (spec.caller c.args.self.now) (command_of c.args.command) _ c.in_ok-ask.ensures.step c.in_ok-ask.ensures.drawn

pub returns-clause-noting : goal.returns-clause-noting
returns-clause-noting g c = same_noting g.R.Rng.stream c.args.self.now (record { stores = c.ask.new.self; rng = c.ask.new.rng }) c.ask.ensures.keeps c.ask.ensures.base c.ask.ensures.given

pub returns-clause-spared : goal.returns-clause-spared
returns-clause-spared g c = λ look. room_kept g.R.Rng.stream c.args.self.now (record { stores = c.ask.new.self; rng = c.ask.new.rng }) c.ask.ensures.keeps (c.ask.ensures.spared look).0 (c.ask.ensures.spared look).1

pub returns-clause-shape : goal.returns-clause-shape
returns-clause-shape g c = λ h. c.in_ok-ask.ensures.shape
