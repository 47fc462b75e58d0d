use Rattle.std.proofs.Common.{◌≡◌, ◌≤◌, ◌<◌, ◌+◌, ◌∷◌, [], ap, append-nil, arith, length, map, sym, ◌∙◌}
use Rattle.std.proofs.lemmas.List.{length-map, nil_from_length}
use Rattle.std.proofs.lemmas.Bool.Decides.{nat_tests}
use Rattle.dav_notes_core.specs.Costs.{notes_cost}
use Rattle.dav_notes_core.specs.Noting.{note_of}
use Rattle.dav_effects_core.specs.Records.{bytes_of_pieces}
use Rattle.dav_kept_core.specs.KeptServers.{kept_server}
use Rattle.dav_kept_core.proofs.RoomLemmas.{record_fits, turn_cost}
use Rattle.dav_kept_core.proofs.StandLemmas.{led_turn, on_ok_map, stands_more, stands_still}
use Rattle.dav_kept_core.proofs.recorded.RecordedRecording.record.Goals as goal

pub returns-then-is_empty-clause-adds : goal.returns-then-is_empty-clause-adds
returns-then-is_empty-clause-adds g c =
    let see = kept_server g.R.Rng.stream in
    let none : length c.deref-notes.result.now ≡ 0 = grind (arith, nat_tests, c.is_empty.ensures, c.if-is_empty.true) in
    let no_notes : (see c.args.self.now).notes ≡ [] = ap (map note_of) (sym c.deref-notes.ensures.value ∙ nil_from_length c.deref-notes.result.now none) in
    record {
      more = [];
      adds = λ records h. rw (append-nil records) h;
      stand = λ before number calls records h told.
          rw (append-nil records) (stands_still records (see c.args.self.now) no_notes (led_turn see g.C.Clock.tells records before c.args.self.now number calls h told));
      fits = λ before told number calls begins once. omega arith;
    }

pub write-requires : goal.write-requires
write-requires g c = record { changes = rw c.deref-notes.ensures.value c.args.self.now.last.changes }

pub returns-clause-adds : goal.returns-clause-adds
returns-clause-adds g c =
    let see = kept_server g.R.Rng.stream in
    let bytes = bytes_of_pieces c.in_ok-pieces.pieces in
    let notes = (see c.args.self.now).notes in
    let filled : 0 < length c.deref-notes.result.now = grind (arith, nat_tests, c.is_empty.ensures, c.if-is_empty.false) in
    let some : notes ≡ [] → ⊥ = λ none. omega (arith, filled, ap length none, length-map c.args.self.now.last.notes.items note_of, ap length c.deref-notes.ensures.value) in
    let within : length bytes ≤ notes_cost notes + 16 = rw (sym c.deref-notes.ensures.value) c.in_ok-pieces.ensures.within in
    on_ok_map c.add_record.result (λ adds. record {
      more = bytes ∷ [];
      adds = adds;
      stand = λ before number calls records h told.
          stands_more records (see c.args.self.now) bytes (rw (sym c.deref-notes.ensures.value) c.in_ok-pieces.ensures.record) (led_turn see g.C.Clock.tells records before c.args.self.now number calls h told);
      fits = λ before told number calls begins once.
          record_fits notes bytes (see told).timing.server.noting.given some within (turn_cost see g.C.Clock.tells before told c.args.self.now number calls begins once);
    }) c.add_record.ensures.adds
