-- How a record is read from the left, and where its first fault is (own).
use Rattle.std.specs.Prelude.{◌==◌, ◌-◌, ℕ, zero, suc, Bool, not, List as Sequence, [], ◌∷◌, length, take, drop, Option, Result, Ok, Err, nat_lt, if◌then◌else◌}
use Rattle.std.specs.Str.{bytes_eq}
use Rattle.dav_path_core.specs.Fronts.{Path}
use Rattle.dav_path_core.specs.PathText.{folder_bytes}
use Rattle.dav_path_core.specs.Segments.{segments}
use Rattle.dav_files_core.specs.Resources.{Property}
use Rattle.dav_guarded_core.specs.Requests.{Command}
use Rattle.dav_notes_core.specs.Asking.{Caller, asking}
use Rattle.dav_notes_core.specs.Noting.{Noted}
use Rattle.dav_effects_core.specs.ByteForms.{Reading, ◌>>=◌, pair_at, value_at, only_at, eight_bytes_at, bytes_at, counted_at, utf8_at, flag_at, optional_at, each_at, following_at}
use Rattle.dav_effects_core.specs.RecordText.{asker, body_of, caller_text, path_behind}

-- ---- who asks

abbrev pub caller_from : ℕ × (Option (Sequence ℕ) × Sequence (Sequence ℕ)) → Caller
caller_from x = record { principal = x.1.0; tokens = x.1.1; now = x.0 }

unfoldable pub whole_caller_at : Reading Caller
whole_caller_at = value_at caller_from (pair_at eight_bytes_at (λ _. pair_at (optional_at utf8_at) (λ _. each_at utf8_at)))

-- of a value that is to be all there is: the value, and what stands behind the field; or the fault is the field
abbrev pub inside_of : {A : Type 0} → ℕ → Sequence ℕ → Result (A × Sequence ℕ) ℕ → Result (A × Sequence ℕ) ℕ
inside_of left rest (Ok a) = if length a.1 == 0 then Ok (a.0, rest) else Err left
inside_of left rest (Err inner) = Err left

-- the caller behind the one before
unfoldable pub caller_at : Sequence ℕ → Reading Caller
caller_at before bytes = following_at before bytes >>= λ text. inside_of (length bytes) text.1 (whole_caller_at text.0)

-- ---- what is asked for

-- the bytes are those of a folder
abbrev pub is_folder_text : Sequence ℕ → Bool
is_folder_text text = bytes_eq (folder_bytes (segments text)) text

unfoldable pub path_at : Sequence ℕ → Reading Path
path_at before = value_at segments (only_at is_folder_text (following_at before))

abbrev pub property_from : Sequence ℕ × (Option (Sequence ℕ) × (Option (Sequence ℕ) × Option (Sequence ℕ))) → Property
property_from x = record { name = x.0; prefix = x.1.0; namespace = x.1.1.0; xml = x.1.1.1 }

unfoldable pub property_at : Reading Property
property_at = value_at property_from (pair_at utf8_at (λ _. pair_at (optional_at utf8_at) (λ _. pair_at (optional_at utf8_at) (λ _. optional_at counted_at))))

unfoldable pub patch_at : Reading (Bool × Property)
patch_at = pair_at flag_at (λ _. property_at)

-- so many bytes are left
abbrev pub body_is_left : Sequence ℕ → ℕ → Bool
body_is_left bodies len = not (nat_lt (length bodies) len)

unfoldable pub put_command_at : Sequence ℕ → Sequence ℕ → Reading Command
put_command_at before bodies = value_at (λ x. Command.Put x.0 (take x.1 bodies)) (only_at (λ x. body_is_left bodies x.1) (pair_at (path_at before) (λ _. eight_bytes_at)))

unfoldable pub write_command_at : Sequence ℕ → Sequence ℕ → Reading Command
write_command_at before bodies = value_at (λ x. Command.Write x.0 x.1.0 (take x.1.1 bodies)) (only_at (λ x. body_is_left bodies x.1.1) (pair_at (path_at before) (λ _. pair_at (optional_at eight_bytes_at) (λ _. eight_bytes_at))))

unfoldable pub two_paths_at : Sequence ℕ → Reading (Path × Path)
two_paths_at before = pair_at (path_at before) (λ from. path_at (folder_bytes from))

unfoldable pub patches_at : Sequence ℕ → Reading Command
patches_at before = value_at (λ x. Command.PatchProps x.0 x.1) (pair_at (path_at before) (λ _. each_at patch_at))

unfoldable pub lock_at : Sequence ℕ → Reading Command
lock_at before = value_at (λ x. Command.Lock (record { prefix = x.0; bytes = x.1.0 }) x.1.1.0 x.1.1.1.0 x.1.1.1.1.0 x.1.1.1.1.1)
    (pair_at utf8_at (λ _. pair_at (following_at before) (λ _. pair_at (optional_at utf8_at) (λ _. pair_at (optional_at eight_bytes_at) (λ _. pair_at flag_at (λ _. flag_at))))))

unfoldable pub unlock_at : Sequence ℕ → Reading Command
unlock_at before = value_at (λ x. Command.Unlock x.0 x.1) (pair_at (path_at before) (λ _. utf8_at))

unfoldable pub refresh_at : Sequence ℕ → Reading Command
refresh_at before = value_at (λ x. Command.Refresh x.0 x.1.0 x.1.1) (pair_at (path_at before) (λ _. pair_at utf8_at (λ _. optional_at eight_bytes_at)))

-- what stands behind the byte that says which command it is
abbrev pub command_fields_at : Sequence ℕ → Sequence ℕ → ℕ → Reading Command
command_fields_at before bodies tag bytes =
    if tag == 0 then put_command_at before bodies bytes
    else if tag == 1 then write_command_at before bodies bytes
    else if tag == 2 then value_at (λ p. Command.MkCol p) (path_at before) bytes
    else if tag == 3 then value_at (λ p. Command.Remove p) (path_at before) bytes
    else if tag == 4 then value_at (λ p. Command.Move p.0 p.1) (two_paths_at before) bytes
    else if tag == 5 then value_at (λ p. Command.Copy p.0 p.1) (two_paths_at before) bytes
    else if tag == 6 then patches_at before bytes
    else if tag == 7 then lock_at before bytes
    else if tag == 8 then unlock_at before bytes
    else if tag == 9 then refresh_at before bytes
    else Err (suc (length bytes))

unfoldable pub command_at : Sequence ℕ → Sequence ℕ → Reading Command
command_at before bodies [] = Err 0
command_at before bodies (tag ∷ rest) = command_fields_at before bodies tag rest

-- ---- a record

-- what the next note stands behind: the caller and the path of the one before, and the bodies that are left
pub record Behind : Type 0 where
  pub caller : Sequence ℕ
  pub path : Sequence ℕ
  pub bodies : Sequence ℕ

abbrev pub behind_of : Sequence ℕ → Sequence ℕ → Sequence ℕ → Behind
behind_of caller path bodies = record { caller = caller; path = path; bodies = bodies }

-- nothing stands before the first
abbrev pub start_behind : Sequence ℕ → Behind
start_behind bodies = behind_of [] [] bodies

abbrev pub behind_note : Behind → Noted → Behind
behind_note s n = record {
  caller = caller_text (asker n.request);
  path = path_behind s.path n.request.command;
  bodies = drop (length (body_of n.request.command)) s.bodies;
}

abbrev pub note_from : Caller × (Option (Sequence ℕ) × Command) → Noted
note_from x = record { request = asking x.0 x.1.1; drawn = x.1.0 }

unfoldable pub note_at : Behind → Reading Noted
note_at s = value_at note_from (pair_at (caller_at s.caller) (λ _. pair_at (optional_at (bytes_at 16)) (λ _. command_at s.path s.bodies)))

-- so many notes, and the bodies that are left
unfoldable pub notes_at : ℕ → Behind → Reading (Sequence Noted × Sequence ℕ)
notes_at zero s bytes = Ok (([], s.bodies), bytes)
notes_at (suc n) s bytes = note_at s bytes >>= λ a. notes_at n (behind_note s a.0) a.1 >>= λ b. Ok ((a.0 ∷ b.0.0, b.0.1), b.1)

-- the notes of a head that has nothing behind them, and the bodies that are left
unfoldable pub head_at : Sequence ℕ → Sequence ℕ → Result (Sequence Noted × Sequence ℕ) ℕ
head_at bodies head = eight_bytes_at head >>= λ n. notes_at n.0 (start_behind bodies) n.1 >>= λ x.
    if length x.1 == 0 then Ok x.0 else Err (length x.1)

-- of a record that is so long, and whose head ends there: its value, where no body is left, or the byte at which the fault is
abbrev pub whole_of_head : {A : Type 0} → ℕ → ℕ → Result (A × Sequence ℕ) ℕ → Result A ℕ
whole_of_head len end (Ok x) = if length x.1 == 0 then Ok x.0 else Err (len - length x.1)
whole_of_head len end (Err left) = Err (end - left)

-- the same, of the head and the bodies
abbrev pub whole_of_parts : {A : Type 0} → (Sequence ℕ → Sequence ℕ → Result (A × Sequence ℕ) ℕ) → ℕ → Result (Sequence ℕ × Sequence ℕ) ℕ → Result A ℕ
whole_of_parts head len (Ok parts) = whole_of_head len (len - length parts.1) (head parts.1 parts.0)
whole_of_parts head len (Err left) = Err (len - left)

-- the notes of a record, or the byte at which its first fault is
unfoldable pub record_at : Sequence ℕ → Result (Sequence Noted) ℕ
record_at bytes = whole_of_parts head_at (length bytes) (counted_at bytes)
