-- Notes of the code as plain data, without where they lie in memory, and what is noted of a command.
use Rattle.std.specs.Prelude.{◌≡◌, ℕ, List, Option, Some, None, false, if◌then◌else◌}
use Rattle.std.specs.List.{AllByRecursion}
use Rattle.dav_guarded_core.specs.Requests.{Command, Request}
use Rattle.dav_guarded_core.specs.Served.{request_of}
use Rattle.dav_notes_core.specs.declared.notes.Note.{Note}
use Rattle.dav_notes_core.specs.Asking.{Caller, asking}
use Rattle.dav_notes_core.specs.Changes.{grants, is_look}

-- a request, and of a granted lock the bytes that its token was drawn from
pub record Noted : Type 0 where
  pub request : Request
  pub drawn : Option (List ℕ)

abbrev pub note_of : Note → Noted
note_of n = record { request = request_of n.request; drawn = n.drawn }

-- the bytes that are noted of a command, of those that its token is drawn from
abbrev pub drawn_for : Command → List ℕ → Option (List ℕ)
drawn_for command next = if grants command then Some next else None

-- the note of a caller's command
abbrev pub note_for : Caller → Command → List ℕ → Noted
note_for who command next = record { request = asking who command; drawn = drawn_for command next }

-- each is of a command that changes something
abbrev pub AreChanges : List Noted → Type 0
AreChanges notes = AllByRecursion (λ n. is_look n.request.command ≡ false) notes
