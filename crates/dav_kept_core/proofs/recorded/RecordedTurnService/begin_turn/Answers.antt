use Rattle.std.proofs.Common.{◌≤◌, ℕ, ap, map, refl, subst, sym, ◌∙◌}
use Rattle.dav_notes_core.specs.Costs.{budget_of}
use Rattle.dav_notes_core.specs.Noting.{note_of}
use Rattle.dav_handler_core.specs.Server.{Server}
use Rattle.dav_handler_core.specs.ServerViews.{server}
use Rattle.dav_handler_core.specs.Serving.{BeginsTurn, timing}
use Rattle.dav_kept_core.specs.KeptServers.{room_of}
use Rattle.dav_kept_core.proofs.RoomLemmas.{begun_room, room_given}
use Rattle.dav_kept_core.proofs.StandLemmas.{begun_anew}
use Rattle.dav_kept_core.proofs.recorded.RecordedTurnService.begin_turn.Goals as goal

pub returns-clause-begins : goal.returns-clause-begins
returns-clause-begins g c =
    let given = budget_of c.saturating_sub.result in
    record {
      given = given;
      begins = subst (λ (v : Server). BeginsTurn g.C.Clock.tells (record { server = v; clock = c.args.self.now.timed.clock }) c.args.number (timing g.R.Rng.stream c.begin_turn.new.self))
          (begun_anew (server g.R.Rng.stream c.args.self.now.timed.dav) (server g.R.Rng.stream c.set_room.new.self) given c.set_room.ensures) c.begin_turn.ensures.begins;
      notes = ap (map note_of) c.none.ensures;
      turn = refl;
      header = refl;
    }

pub returns-clause-room : goal.returns-clause-room
unfolding returns-clause-begins
returns-clause-room g c =
    let x = returns-clause-begins g c in
    subst (λ n. n ≤ c.args.bytes) (sym (begun_room g.C.Clock.tells _ _ c.args.number x ∙ ap (λ n. room_of (budget_of n)) c.saturating_sub.ensures))
    (room_given c.args.bytes)
