use Rattle.std.proofs.Common.{Some, ap, refl, sym, ◌∙◌, true≢false}
use Rattle.http_frames.specs.declared.frames.Head.{Head}
use Rattle.http_frames.proofs.Framing.{clock_frame, free_frame, from_frame, gone_frame, late_frame, nothing_frame, piece_breaks, piece_frame, taken_breaks, taken_frame, touch_breaks, touch_frame, turned_frame, unlate_frame, untaken_frame, users_frame}
use Rattle.http_frames.proofs.Results.{on_err}
use Rattle.http_frames.proofs.serving.take_frame.Goals as goal

pub returns-then-not-taken-clause-ok : goal.returns-then-not-taken-clause-ok
returns-then-not-taken-clause-ok g c =
    let is = c.in-Some-Taken.is ∙ ap (λ (h : Head). Some h) (rw c.in-Some-Taken.is at c.in-Some-Taken.field-0-is) in (
      c.taken.ensures.refused c.if-not-taken.true,
      refl,
      refl,
      untaken_frame c.args.head c.in-Some-Taken.number c.in-Some-Taken.count c.args.clients.now c.taken.result is c.taken.ensures.order c.if-not-taken.true,
    )

pub returns-in_err-tell-in-Some-Taken-clause-err : goal.returns-in_err-tell-in-Some-Taken-clause-err
returns-in_err-tell-in-Some-Taken-clause-err g c =
    let is = c.in-Some-Taken.is ∙ ap (λ (h : Head). Some h) (rw c.in-Some-Taken.is at c.in-Some-Taken.field-0-is) in
    let x = taken_breaks g.S.TurnService.begins g.S.Service.answers g.S.TurnService.clocked g.S.TurnService.listed c.args.head c.in-Some-Taken.number c.in-Some-Taken.count c.args.bytes.now c.args.clients.now c.taken.new.self c.tell.new.clients
    c.args.service.now.service (g.O.Write.contents c.args.output.now) (g.O.Write.contents c.tell.new.output) is (c.taken.ensures.takes c.if-not-taken.false) c.taken.ensures.queue c.taken.ensures.settings.config
    c.taken.ensures.settings.window c.in_err-tell-in-Some-Taken.ensures.err in
    on_err _ x

pub returns-in_ok-tell-in-Some-Taken-clause-ok : goal.returns-in_ok-tell-in-Some-Taken-clause-ok
returns-in_ok-tell-in-Some-Taken-clause-ok g c =
    let is = c.in-Some-Taken.is ∙ ap (λ (h : Head). Some h) (rw c.in-Some-Taken.is at c.in-Some-Taken.field-0-is) in
    taken_frame g.S.TurnService.begins g.S.Service.answers g.S.TurnService.clocked g.S.TurnService.listed c.args.head c.in-Some-Taken.number c.in-Some-Taken.count c.args.bytes.now c.args.clients.now c.taken.new.self c.tell.new.clients
    c.args.service.now.service (g.O.Write.contents c.args.output.now) (g.O.Write.contents c.tell.new.output) is (c.taken.ensures.takes c.if-not-taken.false) c.taken.ensures.queue c.taken.ensures.settings.config
    c.taken.ensures.settings.window c.in_ok-tell-in-Some-Taken.ensures.ok

pub returns-in-Some-Piece-clause-ok : goal.returns-in-Some-Piece-clause-ok
returns-in-Some-Piece-clause-ok g c =
    let is = c.in-Some-Piece.is ∙ ap (λ (h : Head). Some h) (rw c.in-Some-Piece.is at c.in-Some-Piece.field-0-is) in
    piece_frame g.S.TurnService.begins g.S.Service.answers g.S.TurnService.clocked g.S.TurnService.listed c.take.result c.args.head c.in-Some-Piece.number c.in-Some-Piece.field-0-1 c.args.bytes.now c.args.clients.now c.take.new.self
    c.args.service.now.service (g.O.Write.contents c.args.output.now) (g.O.Write.contents c.take.new.output) is c.take.ensures.order c.take.ensures.takes
    (λ same. let x = c.take.ensures.refused same in (x.0, ap g.O.Write.contents x.1)) c.take.ensures.queue c.take.ensures.config c.take.ensures.window

pub returns-in-Some-Piece-clause-err : goal.returns-in-Some-Piece-clause-err
returns-in-Some-Piece-clause-err g c =
    piece_breaks g.S.TurnService.begins g.S.Service.answers g.S.TurnService.clocked g.S.TurnService.listed c.take.result c.in-Some-Piece.number c.args.clients.now c.take.new.self c.args.service.now.service
    (g.O.Write.contents c.args.output.now) (g.O.Write.contents c.take.new.output) c.take.ensures.fails c.take.ensures.breaks c.take.ensures.queue c.take.ensures.config c.take.ensures.window

pub returns-in-Some-Gone-clause-ok : goal.returns-in-Some-Gone-clause-ok
returns-in-Some-Gone-clause-ok g c =
    let is = c.in-Some-Gone.is ∙ ap (λ (h : Head). Some h) (rw c.in-Some-Gone.is at c.in-Some-Gone.field-0-is) in
    gone_frame g.S.TurnService.begins g.S.Service.answers g.S.TurnService.clocked g.S.TurnService.listed c.gone.result c.args.head c.in-Some-Gone.number c.args.bytes.now c.args.clients.now c.gone.new.self c.args.service.now.service
    (g.O.Write.contents c.args.output.now) is c.gone.ensures.order c.gone.ensures.takes c.gone.ensures.refused c.gone.ensures.queue c.gone.ensures.settings.config c.gone.ensures.settings.window

pub returns-in-Some-Nothing-clause-ok : goal.returns-in-Some-Nothing-clause-ok
returns-in-Some-Nothing-clause-ok g c =
    let is = c.in-Some-Nothing.is ∙ ap (λ (h : Head). Some h) (rw c.in-Some-Nothing.is at c.in-Some-Nothing.field-0-is) in
    nothing_frame g.S.TurnService.begins g.S.Service.answers g.S.TurnService.clocked g.S.TurnService.listed c.nothing.result c.args.head c.args.bytes.now c.args.clients.now c.nothing.new.self c.args.service.now.service
    (g.O.Write.contents c.args.output.now) is c.nothing.ensures.order c.nothing.ensures.takes c.nothing.ensures.refused c.nothing.ensures.queue c.nothing.ensures.settings.config c.nothing.ensures.settings.window

pub returns-in-Some-Clock-clause-ok : goal.returns-in-Some-Clock-clause-ok
returns-in-Some-Clock-clause-ok g c =
    let is = c.in-Some-Clock.is ∙ ap (λ (h : Head). Some h) (rw c.in-Some-Clock.is at c.in-Some-Clock.field-0-is) in
    clock_frame g.S.TurnService.begins g.S.Service.answers g.S.TurnService.clocked g.S.TurnService.listed c.args.head c.in-Some-Clock.moment c.args.bytes.now c.args.clients.now c.args.service.now.service c.set_clock.new.self
    (g.O.Write.contents c.args.output.now) is c.set_clock.ensures

pub returns-in-Some-Free-clause-ok : goal.returns-in-Some-Free-clause-ok
returns-in-Some-Free-clause-ok g c =
    let is = c.in-Some-Free.is ∙ ap (λ (h : Head). Some h) (rw c.in-Some-Free.is at c.in-Some-Free.field-0-is) in
    free_frame g.S.TurnService.begins g.S.Service.answers g.S.TurnService.clocked g.S.TurnService.listed c.args.head c.in-Some-Free.bytes c.args.bytes.now c.args.clients.now c.args.service.now.service (g.O.Write.contents c.args.output.now) is

pub returns-in-Some-Users-clause-ok : goal.returns-in-Some-Users-clause-ok
returns-in-Some-Users-clause-ok g c =
    let is = c.in-Some-Users.is ∙ ap (λ (h : Head). Some h) (rw c.in-Some-Users.is at c.in-Some-Users.field-0-is) in
    users_frame g.S.TurnService.begins g.S.Service.answers g.S.TurnService.clocked g.S.TurnService.listed c.args.head c.in-Some-Users.field-0-0 c.args.bytes.now c.args.clients.now c.args.service.now.service
    c.set_users.new.self (g.O.Write.contents c.args.output.now) is c.set_users.ensures

pub returns-in-Some-From-clause-ok : goal.returns-in-Some-From-clause-ok
returns-in-Some-From-clause-ok g c =
    let is = c.in-Some-From.is ∙ ap (λ (h : Head). Some h) (rw c.in-Some-From.is at c.in-Some-From.field-0-is) in
    from_frame g.S.TurnService.begins g.S.Service.answers g.S.TurnService.clocked g.S.TurnService.listed c.name_next.result c.args.head c.in-Some-From.number c.args.bytes.now c.args.clients.now c.name_next.new.self
    c.args.service.now.service (g.O.Write.contents c.args.output.now) is c.name_next.ensures.order c.name_next.ensures.takes c.name_next.ensures.refused c.name_next.ensures.queue c.name_next.ensures.settings.config
    c.name_next.ensures.settings.window

pub returns-in_err-write_touched-in-Some-Touch-clause-err : goal.returns-in_err-write_touched-in-Some-Touch-clause-err
returns-in_err-write_touched-in-Some-Touch-clause-err g c =
    let x = touch_breaks g.S.TurnService.begins g.S.Service.answers g.S.TurnService.clocked g.S.TurnService.listed c.args.clients.now c.args.service.now.service (g.O.Write.contents c.args.output.now)
    (g.O.Write.contents c.write_touched.new.output) c.in_err-write_touched-in-Some-Touch.ensures.err in
    on_err _ x

pub returns-in_ok-write_touched-in-Some-Touch-clause-ok : goal.returns-in_ok-write_touched-in-Some-Touch-clause-ok
returns-in_ok-write_touched-in-Some-Touch-clause-ok g c =
    let is = c.in-Some-Touch.is ∙ ap (λ (h : Head). Some h) (rw c.in-Some-Touch.is at c.in-Some-Touch.field-0-is) in
    touch_frame g.S.TurnService.begins g.S.Service.answers g.S.TurnService.clocked g.S.TurnService.listed c.args.head c.args.bytes.now c.args.clients.now c.args.service.now.service (g.O.Write.contents c.args.output.now)
    (g.O.Write.contents c.write_touched.new.output) is c.in_ok-write_touched-in-Some-Touch.ensures.ok

pub returns-in-Some-clause-ok : goal.returns-in-Some-clause-ok
returns-in-Some-clause-ok g c =
    let is = c.in-Some-Late.is ∙ ap (λ (h : Head). Some h) (rw c.in-Some-Late.is at c.in-Some-Late.field-0-is) in
    late_frame g.S.TurnService.begins g.S.Service.answers g.S.TurnService.clocked g.S.TurnService.listed c.args.head c.in-Some-Late.number c.args.bytes.now c.args.clients.now c.args.service.now.service (g.O.Write.contents c.args.output.now) is

pub returns-in_default-clause-ok : goal.returns-in_default-clause-ok
returns-in_default-clause-ok g c =
    let is = c.in-Some-Late.is ∙ ap (λ (h : Head). Some h) (rw c.in-Some-Late.is at c.in-Some-Late.field-0-is) in (
      refl,
      refl,
      refl,
      unlate_frame c.args.head c.in-Some-Late.number c.args.clients.now is (λ number. let some = c.address_of.ensures.order.1 number in true≢false (sym (rw c.in_default.is at some))),
    )

pub returns-in-Some-Turned-clause-ok : goal.returns-in-Some-Turned-clause-ok
returns-in-Some-Turned-clause-ok g c =
    let is = c.in-Some-Turned.is ∙ ap (λ (h : Head). Some h) (rw c.in-Some-Turned.is at c.in-Some-Turned.field-0-is) in
    turned_frame g.S.TurnService.begins g.S.Service.answers g.S.TurnService.clocked g.S.TurnService.listed c.args.head c.in-Some-Turned.count c.args.bytes.now c.args.clients.now c.args.service.now.service (g.O.Write.contents c.args.output.now) is
