use Rattle.dav_notes_core.specs.Noting.{note_of}
use Rattle.store_changes.proofs.EndedLockLemmas.{never_refused}
use Rattle.store_changes.proofs.ending.play.Goals as goal

pub unreachable-requires : goal.unreachable-requires
unreachable-requires c = never_refused c.args.stores.now c.make.new.stores (note_of c.args.note.now) c.in-Err._why c.requires.stands c.in-Err.ensures.cause
