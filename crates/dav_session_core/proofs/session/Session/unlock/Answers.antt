use Rattle.std.proofs.Common.{ℕ, List, string_bytes, subst}
use Rattle.std.proofs.lemmas.Result.{err_from_is_err_and}
use Rattle.dav_path_core.specs.Segments.{segments}
use Rattle.dav_guarded_core.specs.Requests.{Command}
use Rattle.dav_guarded_core.specs.Served.{answer_of}
use Rattle.dav_guarded_core.specs.Step.{Serves}
use Rattle.dav_session_core.specs.Callers.{asking, live}
use Rattle.dav_session_core.specs.Sessions as spec
use Rattle.dav_session_core.proofs.Looking.{from_before, looks_before, requests_of, requests_on}
use Rattle.dav_session_core.proofs.OwnLemmas.{own_ends}
use Rattle.dav_session_core.proofs.session.Session.unlock.Goals as goal

pub returns-clause-ends : goal.returns-clause-ends
returns-clause-ends g c =
    let who = spec.caller c.args.self.now in
    let s = spec.state g.R.Rng.stream c.args.self.now in
    let p = segments c.args.path.bytes in
    let token = string_bytes c.args.token in
    let after = spec.state g.R.Rng.stream c.ask.new.self in
    own_ends who (live who.now s) after p token (answer_of c.ask.result) c.requires.covered c.requires.own
    (from_before (λ w t. Serves (live w.now t) (asking w (Command.Unlock p token)) (answer_of c.ask.result) after) c.make_room_to_unlock.ensures.same
    (c.ask.ensures.step (subst (λ (t : List ℕ). spec.HasRoomFor (Command.Unlock p t) c.make_room_to_unlock.new.self) c.deref.ensures c.in_ok-make_room_to_unlock.ensures.ok)))

pub returns-in_err-make_room_to_unlock-clause-requests : goal.returns-in_err-make_room_to_unlock-clause-requests
returns-in_err-make_room_to_unlock-clause-requests g c = requests_of (looks_before c.make_room_to_unlock.ensures.same)

pub returns-clause-requests : goal.returns-clause-requests
returns-clause-requests g c = requests_on (looks_before c.make_room_to_unlock.ensures.same) c.ask.ensures.requests

pub returns-in_err-make_room_to_unlock-clause-refused : goal.returns-in_err-make_room_to_unlock-clause-refused
returns-in_err-make_room_to_unlock-clause-refused g c =
    let q = err_from_is_err_and c.from_residual.result c.from_residual.ensures.1 in
    rw q.1 c.make_room_to_unlock.ensures.same
