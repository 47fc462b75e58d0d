use Rattle.std.proofs.Common.{ap, refl}
use Rattle.dav_notes_core.specs.Seen.{Seen}
use Rattle.dav_guarded_core.specs.Served.{answer_of, command_of}
use Rattle.dav_session_core.specs.Sessions as spec
use Rattle.dav_session_core.proofs.AskedLemmas.{looked}
use Rattle.dav_session_core.proofs.NotedAsking.{look_step, room_kept}
use Rattle.dav_session_core.proofs.session.Session.look.Goals as goal

pub returns-clause-step : goal.returns-clause-step
returns-clause-step g c =
    look_step g.R.Rng.stream c.args.self.now (record { stores = c.look.new.self; rng = c.args.self.now.rng }) (spec.caller c.args.self.now) (command_of c.args.command) (answer_of c.look.result) c.requires
    c.look.ensures.step c.look.ensures.same refl

pub returns-clause-looks : goal.returns-clause-looks
returns-clause-looks g c =
    looked g.R.Rng.stream c.args.self.now (record { stores = c.look.new.self; rng = c.args.self.now.rng }) (command_of c.args.command) (ap (λ (s : Seen). s.who) c.look.ensures.same)
    (ap spec.noting_in c.look.ensures.same) (answer_of c.look.result)
    (look_step g.R.Rng.stream c.args.self.now (record { stores = c.look.new.self; rng = c.args.self.now.rng }) (spec.caller c.args.self.now) (command_of c.args.command) (answer_of c.look.result) c.requires
    c.look.ensures.step c.look.ensures.same refl) c.requires

pub returns-clause-room : goal.returns-clause-room
returns-clause-room g c =
    room_kept g.R.Rng.stream c.args.self.now (record { stores = c.look.new.self; rng = c.args.self.now.rng }) (ap (λ (s : Seen). s.keeps) c.look.ensures.same)
    (ap (λ (s : Seen). s.room) c.look.ensures.same) (ap (λ (s : Seen). s.held) c.look.ensures.same)
