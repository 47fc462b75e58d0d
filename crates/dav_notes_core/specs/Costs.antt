-- How many bytes a note has in a record at most: those of its texts, and so many for all that is beside them (own).
use Rattle.std.specs.Prelude.{ℕ, Bool, List as Sequence, Option, Some, None, ◌+◌, ◌-◌, ◌^◌, length, nat_lt, min, if◌then◌else◌}
use Rattle.std.specs.List.{sum_by}
use Rattle.dav_path_core.specs.Fronts.{Path}
use Rattle.dav_files_core.specs.Resources.{Property}
use Rattle.dav_guarded_core.specs.Requests.{Command}
use Rattle.dav_notes_core.specs.Asking.{Caller, asker_of}
use Rattle.dav_notes_core.specs.Noting.{Noted}

-- of a text, where there is one
abbrev pub text_cost : Option (Sequence ℕ) → ℕ
text_cost None = 0
text_cost (Some text) = length text

-- of a path as a folder's: a slash, and each segment with a slash behind it
abbrev pub path_cost : Path → ℕ
path_cost path = sum_by (λ s. length s + 1) path + 1

abbrev pub property_cost : Property → ℕ
property_cost p = length p.name + (text_cost p.prefix + (text_cost p.namespace + text_cost p.xml))

-- of properties that are set or removed, with 36 bytes beside the texts of each
abbrev pub patch_cost : Sequence (Bool × Property) → ℕ
patch_cost patch = sum_by (λ e. property_cost e.1 + 36) patch

-- of who asks, with eight bytes beside each token
abbrev pub caller_cost : Caller → ℕ
caller_cost who = text_cost who.principal + sum_by (λ t. length t + 8) who.tokens

abbrev pub command_cost : Command → ℕ
command_cost (Command.Put path bytes) = path_cost path + length bytes
command_cost (Command.Write path at bytes) = path_cost path + length bytes
command_cost (Command.MkCol path) = path_cost path
command_cost (Command.Remove path) = path_cost path
command_cost (Command.Move from to) = path_cost from + path_cost to
command_cost (Command.Copy from to) = path_cost from + path_cost to
command_cost (Command.PatchProps path patch) = path_cost path + patch_cost patch
command_cost (Command.Lock path owner timeout shared deep) = length path.prefix + (length path.bytes + text_cost owner)
command_cost (Command.Unlock path token) = path_cost path + length token
command_cost (Command.Refresh path token timeout) = path_cost path + length token
command_cost _ = 0

-- of the note of a caller's command, with 104 bytes beside the texts
abbrev pub cost_for : Caller → Command → ℕ
cost_for who command = (caller_cost who + command_cost command) + 104

abbrev pub note_cost : Noted → ℕ
note_cost n = cost_for (asker_of n.request) n.request.command

abbrev pub notes_cost : Sequence Noted → ℕ
notes_cost notes = sum_by note_cost notes

-- the number, or the greatest of eight bytes where it is greater
abbrev pub in_eight_bytes : ℕ → ℕ
in_eight_bytes n = if nat_lt n (2 ^ 64) then n else 2 ^ 64 - 1

-- what is given of so many bytes: one less of the greatest number
abbrev pub budget_of : ℕ → ℕ
budget_of bytes = min bytes (2 ^ 64 - 2)
