use Rattle.std.proofs.Common.{[], ◌∷◌, ◌++◌, append-nil, refl, sym, ◌∙◌}
use Rattle.kept_frames.specs.Giving.{BreaksTurns}
use Rattle.kept_frames.proofs.Giving.{alone_then, notes_new, notes_same, notes_then}
use Rattle.kept_frames.proofs.Rooms.{keeps_none, keeps_then, room_none, room_then}
use Rattle.http_frames.proofs.Results.{on_err}
use Rattle.kept_frames.proofs.rounds.give_turns.Goals as goal

pub turns-init : goal.turns-init
turns-init g c = record {
  notes = notes_new g.S.TurnService.begins g.S.Service.answers g.S.TurnService.clocked g.S.TurnService.listed g.S.Recording.stands c.new-2.result.items c.args.clients.now c.args.service.now.service c.new.result c.new-2.ensures.items
      c.new.ensures;
  begun = refl;
  keeps = keeps_none c.args.journal.now c.args.output.now;
  stays = λ records settled. settled;
  room = λ records new settled carries. room_none g.D.Disk.seen g.D.Disk.is_clean c.args.journal.now c.new.result c.new.ensures new carries;
  usable = c.requires.usable;
}

pub returns-in_err-full-clause-err : goal.returns-in_err-full-clause-err
returns-in_err-full-clause-err g c =
    let notes = notes_same g.S.TurnService.begins g.S.Service.answers g.S.TurnService.clocked g.S.TurnService.listed g.S.Recording.stands c.turns.turned.numbers.items c.args.clients.now c.turns.clients c.args.service.now.service c.turns.service.service c.set_room.new.service.service
    c.turns.turned.round c.set_room.ensures.same c.turns.invariant.notes in
    let turns : BreaksTurns g.S.TurnService.begins g.S.Service.answers g.S.TurnService.clocked g.S.TurnService.listed c.args.clients.now c.turns.clients c.args.service.now.service c.set_room.new.service.service = (notes.0, notes.1) in
    on_err _ turns

pub returns-in_err-full-clause-keeps : goal.returns-in_err-full-clause-keeps
returns-in_err-full-clause-keeps g c = keeps_then c.turns.invariant.keeps c.turns.invariant.stays c.set_room.ensures.keeps

pub returns-in_err-number-clause-err : goal.returns-in_err-number-clause-err
returns-in_err-number-clause-err g c =
    let notes = notes_same g.S.TurnService.begins g.S.Service.answers g.S.TurnService.clocked g.S.TurnService.listed g.S.Recording.stands c.turns.turned.numbers.items c.args.clients.now c.turns.clients c.args.service.now.service c.turns.service.service c.set_room.new.service.service
    c.turns.turned.round c.set_room.ensures.same c.turns.invariant.notes in
    let y = c.in_err-number.ensures.err in
    let turns : BreaksTurns g.S.TurnService.begins g.S.Service.answers g.S.TurnService.clocked g.S.TurnService.listed c.args.clients.now c.give_turn.new.clients c.args.service.now.service c.give_turn.new.service.service =
    (notes.0 ++ y.0, alone_then g.S.TurnService.begins g.S.Service.answers g.S.TurnService.clocked g.S.TurnService.listed notes.1 y.1) in
    on_err _ turns

pub returns-in_err-number-clause-keeps : goal.returns-in_err-number-clause-keeps
returns-in_err-number-clause-keeps g c = keeps_then c.turns.invariant.keeps c.turns.invariant.stays c.set_room.ensures.keeps

pub returns-in_default-clause-ok : goal.returns-in_default-clause-ok
returns-in_default-clause-ok g c =
    let notes = notes_same g.S.TurnService.begins g.S.Service.answers g.S.TurnService.clocked g.S.TurnService.listed g.S.Recording.stands c.turns.turned.numbers.items c.args.clients.now c.turns.clients c.args.service.now.service c.turns.service.service c.set_room.new.service.service
    c.turns.turned.round c.set_room.ensures.same c.turns.invariant.notes in
    let numbers = c.turns.turned.numbers.items in
    notes_then g.S.TurnService.begins g.S.Service.answers g.S.TurnService.clocked g.S.TurnService.listed g.S.Recording.stands numbers [] numbers c.args.clients.now c.turns.clients c.give_turn.new.clients c.args.service.now.service
    c.set_room.new.service.service c.give_turn.new.service.service c.turns.turned.round c.give_turn.new.round (sym (append-nil numbers)) notes (rw c.in_default.is at c.in_ok-number.ensures.ok)

pub returns-in_default-clause-keeps : goal.returns-in_default-clause-keeps
returns-in_default-clause-keeps g c = keeps_then c.turns.invariant.keeps c.turns.invariant.stays c.set_room.ensures.keeps

pub returns-in_default-clause-stays : goal.returns-in_default-clause-stays
returns-in_default-clause-stays g c = λ records settled. c.in_ok-full.ensures.stays records (c.turns.invariant.stays records settled)

pub returns-in_default-clause-room : goal.returns-in_default-clause-room
returns-in_default-clause-room g c = λ records new settled carries.
    room_then c.in_ok-full.ensures.loses c.set_room.new.service.room c.len.result c.turns.turned.round c.give_turn.new.round c.len.ensures.records
    (λ some clean. c.in_ok-full.ensures.room some records (c.in_ok-full.ensures.stays records (c.turns.invariant.stays records settled)) clean) c.in_ok-full.ensures.counted
    c.in_ok-number.ensures.fits c.turns.invariant.notes.3.0 c.turns.invariant.notes.3.1 (c.turns.invariant.room records c.turns.invariant.notes.3.0 settled c.turns.invariant.notes.3.1) new carries

pub returns-in_err-add_number-clause-err : goal.returns-in_err-add_number-clause-err
returns-in_err-add_number-clause-err g c =
    let notes = notes_same g.S.TurnService.begins g.S.Service.answers g.S.TurnService.clocked g.S.TurnService.listed g.S.Recording.stands c.turns.turned.numbers.items c.args.clients.now c.turns.clients c.args.service.now.service c.turns.service.service c.set_room.new.service.service
    c.turns.turned.round c.set_room.ensures.same c.turns.invariant.notes in
    let y = c.in_ok-number.ensures.ok in
    let turns : BreaksTurns g.S.TurnService.begins g.S.Service.answers g.S.TurnService.clocked g.S.TurnService.listed c.args.clients.now c.give_turn.new.clients c.args.service.now.service c.give_turn.new.service.service =
    (notes.0 ++ y.0, alone_then g.S.TurnService.begins g.S.Service.answers g.S.TurnService.clocked g.S.TurnService.listed notes.1 y.1) in
    on_err _ turns

pub returns-in_err-add_number-clause-keeps : goal.returns-in_err-add_number-clause-keeps
returns-in_err-add_number-clause-keeps g c = keeps_then c.turns.invariant.keeps c.turns.invariant.stays c.set_room.ensures.keeps

pub turns-preserved : goal.turns-preserved
turns-preserved g c =
    let notes = notes_same g.S.TurnService.begins g.S.Service.answers g.S.TurnService.clocked g.S.TurnService.listed g.S.Recording.stands c.turns.turned.numbers.items c.args.clients.now c.turns.clients c.args.service.now.service c.turns.service.service c.set_room.new.service.service
    c.turns.turned.round c.set_room.ensures.same c.turns.invariant.notes in
    record {
      notes = notes_then g.S.TurnService.begins g.S.Service.answers g.S.TurnService.clocked g.S.TurnService.listed g.S.Recording.stands c.turns.turned.numbers.items (c.in-Some.number ∷ []) c.add_number.new.numbers.items c.args.clients.now
          c.turns.clients c.give_turn.new.clients c.args.service.now.service c.set_room.new.service.service c.give_turn.new.service.service c.turns.turned.round c.give_turn.new.round c.in_ok-add_number.ensures
          notes (rw c.in-Some.is at c.in_ok-number.ensures.ok);
      begun = c.give_turn.ensures.begun ∙ c.turns.invariant.begun;
      keeps = keeps_then c.turns.invariant.keeps c.turns.invariant.stays c.set_room.ensures.keeps;
      stays = λ records settled. c.in_ok-full.ensures.stays records (c.turns.invariant.stays records settled);
      room = λ records new settled carries.
          room_then c.in_ok-full.ensures.loses c.set_room.new.service.room c.len.result c.turns.turned.round c.give_turn.new.round c.len.ensures.records
          (λ some clean. c.in_ok-full.ensures.room some records (c.in_ok-full.ensures.stays records (c.turns.invariant.stays records settled)) clean) c.in_ok-full.ensures.counted
          c.in_ok-number.ensures.fits c.turns.invariant.notes.3.0 c.turns.invariant.notes.3.1 (c.turns.invariant.room records c.turns.invariant.notes.3.0 settled c.turns.invariant.notes.3.1) new carries;
      usable = c.in_ok-full.ensures.usable;
    }
