use Rattle.std.proofs.Common.{[], ◌∷◌, refl, sym, ap, ◌∙◌}
use Rattle.http_frames.specs.declared.gate.OneCall.{OneCall}
use Rattle.http_frames.specs.ConnectionEvents.{Answered}
use Rattle.http_frames.proofs.Moments.{same_line, still}
use Rattle.http_frames.proofs.Results.{on_err}
use Rattle.http_frames.proofs.Simulations.{gives_any}
use Rattle.kept_frames.specs.Giving.{BreaksTurns}
use Rattle.kept_frames.proofs.Giving.{adds_none, adds_told, alone_one, notes_asked, notes_none, notes_unasked, other_false, other_true}
use Rattle.kept_frames.proofs.rounds.give_turn.Goals as goal

pub returns-in_default-clause-ok : goal.returns-in_default-clause-ok
returns-in_default-clause-ok g c =
    let none = c.in_default.ensures.none refl in
    notes_none g.S.TurnService.begins g.S.Service.answers g.S.TurnService.clocked g.S.TurnService.listed g.S.Recording.stands c.args.clients.now c.answer.new.self c.args.service.now.service c.answer.new.service.service c.args.round.now
    (still c.args.clients.now c.answer.new.self none.3 (same_line c.args.clients.now c.answer.new.self (none.1 ∙ sym none.0)) c.answer.ensures.settings.config c.answer.ensures.settings.window)
    (ap (λ (o : OneCall g.row.S.Denot g.row.L.Denot). o.service) none.2)

pub returns-in_err-record-clause-err : goal.returns-in_err-record-clause-err
returns-in_err-record-clause-err g c =
    let given = gives_any g.S.TurnService.begins g.S.TurnService.room c.args.service.now.room g.S.Service.answers c.in-Some.number c.args.clients.now c.answer.new.self c.args.service.now.service c.answer.new.service.service
    c.in-Some.ensures.turn in
    let turn : BreaksTurns g.S.TurnService.begins g.S.Service.answers g.S.TurnService.clocked g.S.TurnService.listed c.args.clients.now c.answer.new.self c.args.service.now.service c.answer.new.service.service = (
      Answered c.in-Some.number given.calls ∷ [],
      alone_one g.S.TurnService.begins g.S.Service.answers g.S.TurnService.clocked g.S.TurnService.listed c.in-Some.number c.args.clients.now c.answer.new.self c.args.service.now.service c.answer.new.service.service
          given c.in-Some.ensures.first c.answer.ensures.settings.config c.answer.ensures.settings.window,
    ) in
    on_err _ turn

pub returns-in_ok-record-clause-ok : goal.returns-in_ok-record-clause-ok
returns-in_ok-record-clause-ok g c =
    let given = gives_any g.S.TurnService.begins g.S.TurnService.room c.args.service.now.room g.S.Service.answers c.in-Some.number c.args.clients.now c.answer.new.self c.args.service.now.service c.answer.new.service.service
    c.in-Some.ensures.turn in
    notes_asked g.S.TurnService.begins g.S.Service.answers g.S.TurnService.clocked g.S.TurnService.listed g.S.Recording.stands g.S.Recording.turn g.met.S.Recording.turns c.in-Some.number c.args.clients.now c.answer.new.self
    c.args.service.now.service c.answer.new.service.service given c.in-Some.ensures.first c.answer.ensures.settings.config c.answer.ensures.settings.window g.S.TurnService.room c.args.round.now c.record.new.round
    (other_true c.turn.result c.turn-before.result c.turn.ensures c.turn-before.ensures c.if-turn-before.true) c.in_ok-record.ensures.adds

pub returns-else-turn-before-clause-ok : goal.returns-else-turn-before-clause-ok
returns-else-turn-before-clause-ok g c =
    let given = gives_any g.S.TurnService.begins g.S.TurnService.room c.args.service.now.room g.S.Service.answers c.in-Some.number c.args.clients.now c.answer.new.self c.args.service.now.service c.answer.new.service.service
    c.in-Some.ensures.turn in
    notes_unasked g.S.TurnService.begins g.S.Service.answers g.S.TurnService.clocked g.S.TurnService.listed g.S.Recording.stands g.S.Recording.turn g.met.S.Recording.turns c.in-Some.number c.args.clients.now c.answer.new.self
    c.args.service.now.service c.answer.new.service.service given c.in-Some.ensures.first c.answer.ensures.settings.config c.answer.ensures.settings.window c.args.round.now
    (other_false c.turn.result c.turn-before.result c.turn.ensures c.turn-before.ensures c.if-turn-before.false)

pub returns-in_default-clause-fits : goal.returns-in_default-clause-fits
returns-in_default-clause-fits g c = adds_none c.args.service.now.room c.args.round.now

pub returns-in_ok-record-clause-fits : goal.returns-in_ok-record-clause-fits
returns-in_ok-record-clause-fits g c =
    adds_told g.S.TurnService.begins g.S.Service.answers g.S.Recording.stands g.S.TurnService.room g.S.Recording.turn c.args.service.now.room c.in-Some.number c.args.clients.now c.answer.new.self c.args.service.now.service
    c.answer.new.service.service c.in-Some.ensures.turn c.args.round.now c.record.new.round (other_true c.turn.result c.turn-before.result c.turn.ensures c.turn-before.ensures c.if-turn-before.true) c.in_ok-record.ensures.adds

pub returns-else-turn-before-clause-fits : goal.returns-else-turn-before-clause-fits
returns-else-turn-before-clause-fits g c = adds_none c.args.service.now.room c.args.round.now
