use Rattle.std.proofs.Common.{refl, sym, ap, ◌∙◌}
use Rattle.std.proofs.KnownBytes.{Keeps-refl}
use Rattle.http_frames.specs.declared.gate.OneCall.{OneCall}
use Rattle.http_frames.proofs.Moments.{same_line}
use Rattle.http_frames.proofs.Running.{wrote_still, wrote_told, wrote_told_breaks, wrote_then, wrote_then_breaks, wrote_turn}
use Rattle.http_frames.proofs.Results.{on_err}
use Rattle.http_frames.proofs.Simulations.{gives_any}
use Rattle.http_frames.proofs.serving.give_turn.Goals as goal

pub returns-in_default-clause-ok : goal.returns-in_default-clause-ok
returns-in_default-clause-ok g c =
    let none = c.in_default.ensures.none refl in
    let held = g.O.Write.contents c.args.output.now in
    wrote_still g.S.TurnService.begins g.S.Service.answers g.S.TurnService.clocked g.S.TurnService.listed c.args.clients.now c.answer.new.self c.args.service.now.service c.answer.new.service.service held held
    none.3 (same_line c.args.clients.now c.answer.new.self (none.1 ∙ sym none.0)) c.answer.ensures.settings.config c.answer.ensures.settings.window (ap (λ (o : OneCall g.row.S.Denot g.row.L.Denot). o.service) none.2) (Keeps-refl held)

pub returns-in_err-tell-clause-err : goal.returns-in_err-tell-clause-err
returns-in_err-tell-clause-err g c =
    let held = g.O.Write.contents c.args.output.now in
    let holds = g.O.Write.contents c.tell.new.output in
    let s = c.args.service.now.service in
    let s' = c.answer.new.service.service in
    let turn = gives_any g.S.TurnService.begins g.S.TurnService.room c.args.service.now.room g.S.Service.answers c.in-Some.number c.args.clients.now c.answer.new.self s s' c.in-Some.ensures.turn in
    let x = wrote_then_breaks g.S.TurnService.begins g.S.Service.answers g.S.TurnService.clocked g.S.TurnService.listed c.args.clients.now c.answer.new.self c.tell.new.clients s s' s' held held holds
    (wrote_turn g.S.TurnService.begins g.S.Service.answers g.S.TurnService.clocked g.S.TurnService.listed c.in-Some.number c.args.clients.now c.answer.new.self s s' held turn c.in-Some.ensures.first
    c.answer.ensures.settings.config c.answer.ensures.settings.window)
    (wrote_told_breaks g.S.TurnService.begins g.S.Service.answers g.S.TurnService.clocked g.S.TurnService.listed c.answer.new.self c.tell.new.clients s' held holds c.in_err-tell.ensures.err) in
    on_err _ x

pub returns-clause-ok : goal.returns-clause-ok
returns-clause-ok g c =
    let held = g.O.Write.contents c.args.output.now in
    let holds = g.O.Write.contents c.tell.new.output in
    let s = c.args.service.now.service in
    let s' = c.answer.new.service.service in
    let turn = gives_any g.S.TurnService.begins g.S.TurnService.room c.args.service.now.room g.S.Service.answers c.in-Some.number c.args.clients.now c.answer.new.self s s' c.in-Some.ensures.turn in
    wrote_then g.S.TurnService.begins g.S.Service.answers g.S.TurnService.clocked g.S.TurnService.listed c.args.clients.now c.answer.new.self c.tell.new.clients s s' s' held held holds
    (wrote_turn g.S.TurnService.begins g.S.Service.answers g.S.TurnService.clocked g.S.TurnService.listed c.in-Some.number c.args.clients.now c.answer.new.self s s' held turn c.in-Some.ensures.first
    c.answer.ensures.settings.config c.answer.ensures.settings.window)
    (wrote_told g.S.TurnService.begins g.S.Service.answers g.S.TurnService.clocked g.S.TurnService.listed c.answer.new.self c.tell.new.clients s' held holds c.in_ok-tell.ensures.ok)
