use Rattle.std.proofs.Common.{◌≡◌, take, map}
use Rattle.dav_notes_core.specs.Noting.{note_of}
use Rattle.dav_store_core.specs.StandingFor.{NeverBack, last_moment_of}
use Rattle.dav_store_core.proofs.opened.last_moment.Given as goal

-- the notes so far are in order
abbrev pub invariant-looking : goal.invariant-looking
invariant-looking l = record {
  ordered : NeverBack l.fn.before.0 (map note_of (take l.note-index l.notes));
  last : l.last.0 ≡ last_moment_of l.fn.before.0 (map note_of (take l.note-index l.notes));
}
