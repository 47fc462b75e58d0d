use Rattle.std.proofs.Common.{map}
use Rattle.dav_notes_core.specs.Noting.{note_of}
use Rattle.dav_notes_core.proofs.PlayLemmas.{surely, surely_again}
use Rattle.dav_notes_core.proofs.playing.play_again.Goals as goal

pub returns-clause-sure : goal.returns-clause-sure
returns-clause-sure c = λ s' h.
    surely c.args.stores.now s' c.play_all.new.stores (map note_of c.args.notes.now) c.play_all.result c.play_all.ensures.played c.play_all.ensures.stops h

pub returns-clause-again : goal.returns-clause-again
returns-clause-again c = λ from now s t same h.
    surely_again from now s c.args.stores.now t c.play_all.new.stores (map note_of c.args.notes.now) c.play_all.result c.play_all.ensures.played c.play_all.ensures.stops same h
