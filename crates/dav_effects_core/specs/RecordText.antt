-- What is written of the notes of one request of HTTP, byte by byte (own).
use Rattle.std.specs.Prelude.{ℕ, Bool, List as Sequence, [], ◌∷◌, ◌++◌, length}
use Rattle.std.specs.List.{flat_map}
use Rattle.dav_path_core.specs.Fronts.{Path}
use Rattle.dav_path_core.specs.PathText.{folder_bytes}
use Rattle.dav_files_core.specs.Resources.{Property}
use Rattle.dav_guarded_core.specs.Requests.{Command, Request}
use Rattle.dav_notes_core.specs.Asking.{Caller}
use Rattle.dav_notes_core.specs.Noting.{Noted}
use Rattle.dav_effects_core.specs.ByteForms.{number_text, counted_text, flag_text, optional_text, each_text, following_text}

-- ---- who asks

abbrev pub asker : Request → Caller
asker r = record { principal = r.principal; tokens = r.tokens; now = r.now }

-- the moment, the principal, and the tokens
unfoldable pub caller_text : Caller → Sequence ℕ
caller_text who = number_text who.now ++ (optional_text counted_text who.principal ++ each_text counted_text who.tokens)

-- ---- what is asked for

-- a path behind the one before, by its bytes as a folder
abbrev pub path_text : Sequence ℕ → Path → Sequence ℕ
path_text before path = following_text before (folder_bytes path)

unfoldable pub stored_property_text : Property → Sequence ℕ
stored_property_text p = counted_text p.name ++ (optional_text counted_text p.prefix ++ (optional_text counted_text p.namespace ++ optional_text counted_text p.xml))

-- whether it is set, and the property
abbrev pub patch_text : Bool × Property → Sequence ℕ
patch_text e = flag_text e.0 ++ stored_property_text e.1

-- a command behind a path; of a body only its length
unfoldable pub command_text : Sequence ℕ → Command → Sequence ℕ
command_text before (Command.Put path bytes) = 0 ∷ (path_text before path ++ number_text (length bytes))
command_text before (Command.Write path at bytes) = 1 ∷ (path_text before path ++ (optional_text number_text at ++ number_text (length bytes)))
command_text before (Command.MkCol path) = 2 ∷ path_text before path
command_text before (Command.Remove path) = 3 ∷ path_text before path
command_text before (Command.Move from to) = 4 ∷ (path_text before from ++ path_text (folder_bytes from) to)
command_text before (Command.Copy from to) = 5 ∷ (path_text before from ++ path_text (folder_bytes from) to)
command_text before (Command.PatchProps path patch) = 6 ∷ (path_text before path ++ each_text patch_text patch)
command_text before (Command.Lock path owner timeout shared deep) =
    7 ∷ (counted_text path.prefix ++ (following_text before path.bytes ++ (optional_text counted_text owner ++ (optional_text number_text timeout ++ (flag_text shared ++ flag_text deep)))))
command_text before (Command.Unlock path token) = 8 ∷ (path_text before path ++ counted_text token)
command_text before (Command.Refresh path token timeout) = 9 ∷ (path_text before path ++ (counted_text token ++ optional_text number_text timeout))
command_text before _ = []

-- the bytes of the path that the next one stands behind
abbrev pub path_behind : Sequence ℕ → Command → Sequence ℕ
path_behind before (Command.Put path bytes) = folder_bytes path
path_behind before (Command.Write path at bytes) = folder_bytes path
path_behind before (Command.MkCol path) = folder_bytes path
path_behind before (Command.Remove path) = folder_bytes path
path_behind before (Command.Move from to) = folder_bytes to
path_behind before (Command.Copy from to) = folder_bytes to
path_behind before (Command.PatchProps path patch) = folder_bytes path
path_behind before (Command.Lock path owner timeout shared deep) = path.bytes
path_behind before (Command.Unlock path token) = folder_bytes path
path_behind before (Command.Refresh path token timeout) = folder_bytes path
path_behind before _ = before

abbrev pub body_of : Command → Sequence ℕ
body_of (Command.Put path bytes) = bytes
body_of (Command.Write path at bytes) = bytes
body_of _ = []

-- ---- a record

-- the bytes that a token was drawn from, as they are
abbrev pub drawn_text : Sequence ℕ → Sequence ℕ
drawn_text drawn = drawn

-- a note behind a caller and a path
unfoldable pub note_text : Sequence ℕ → Sequence ℕ → Noted → Sequence ℕ
note_text caller path n = following_text caller (caller_text (asker n.request)) ++ (optional_text drawn_text n.drawn ++ command_text path n.request.command)

-- each behind the one before
unfoldable pub notes_text : Sequence ℕ → Sequence ℕ → Sequence Noted → Sequence ℕ
notes_text caller path [] = []
notes_text caller path (n ∷ ns) = note_text caller path n ++ notes_text (caller_text (asker n.request)) (path_behind path n.request.command) ns

abbrev pub head_text : Sequence Noted → Sequence ℕ
head_text ns = number_text (length ns) ++ notes_text [] [] ns

abbrev pub bodies_text : Sequence Noted → Sequence ℕ
bodies_text ns = flat_map (λ n. body_of n.request.command) ns

-- how long the head is, the head, and the bodies
abbrev pub record_of_notes : Sequence Noted → Sequence ℕ
record_of_notes ns = counted_text (head_text ns) ++ bodies_text ns
