use Rattle.std.proofs.Common.{map, refl, sym, subst}
use Rattle.std.specs.Prelude.{Vec}
use Rattle.std.specs.declared.alloc.Global.{Global}
use Rattle.dav_notes_core.specs.declared.notes.Note.{Note}
use Rattle.dav_notes_core.specs.Noting.{note_of}
use Rattle.dav_handler_core.specs.ServerViews.{server}
use Rattle.dav_handler_core.specs.Serving.{timing}
use Rattle.dav_kept_core.specs.KeptServers.{KeptServer, RepliesKept, TakesNotes, kept_server}
use Rattle.dav_kept_core.proofs.StandLemmas.{takes_notes}
use Rattle.dav_kept_core.proofs.recorded.RecordedService.call.Goals as goal

pub returns-clause-ok : goal.returns-clause-ok
returns-clause-ok g c =
    let answered = server g.R.Rng.stream c.call.new.self.dav in
    let taken = server g.R.Rng.stream c.take_notes.new.self in
    subst (λ (s : KeptServer g.row.C.Denot). RepliesKept (kept_server g.R.Rng.stream c.args.self.now) c.args.request.now c.call.new.response s) (sym c.count_again.ensures) (record {
      answered = timing g.R.Rng.stream c.call.new.self;
      replies = c.in_ok-call.ensures.ok;
      takes = subst (λ (notes : Vec Note Global). TakesNotes answered (map note_of notes.items) taken) (sym c.of.ensures.notes)
          (takes_notes answered taken (map note_of c.take_notes.result.items) c.take_notes.ensures.notes c.take_notes.ensures.changes c.take_notes.ensures.cost c.take_notes.ensures.server);
      clock = refl;
      turn = refl;
      header = refl;
    })
