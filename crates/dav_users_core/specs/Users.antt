-- A file of users: on each line a name, a colon and the hash of a password (own).
use Rattle.std.specs.Prelude.{◌==◌, ◌+◌, ◌≡◌, ℕ, Bool, false, not, ◌&&◌, ◌||◌, List, [], ◌∷◌, ◌++◌, length, map, string_bytes, nat_eq, nat_lt, Option, Some, None, is_some, Result, Ok, Err, if◌then◌else◌}
use Rattle.std.specs.Char.{is_ascii_control}
use Rattle.std.specs.List.{before_first, after_first, fold, list_all, list_any, starts_with}
use Rattle.std.specs.Str.{bytes_eq, is_utf8}
use Rattle.line_streams.specs.Lines.{lines}
use Rattle.dav_users_core.specs.declared.error.LineFault.{LineFault}
use Rattle.dav_users_core.specs.declared.error.LineFault.TheVariants.{Text, Name, Twice}
use Rattle.dav_users_core.specs.declared.error.UsersError.{UsersError}
use Rattle.dav_users_core.specs.declared.error.UsersError.TheVariants.{OutOfMemory, Line}
use Rattle.dav_users_core.specs.declared.users.User.{User}
use Rattle.dav_users_core.specs.declared.users.Users.{Users}
use Rattle.dav_users_core.specs.Hashes.{HashText, accepts, hash_of, hash_text_of}

pub record UserLine : Type 0 where
  pub name : List ℕ
  pub hash : HashText

-- ---- one line

abbrev pub is_colon : ℕ → Bool
is_colon b = b == 58

abbrev pub is_no_control : ℕ → Bool
is_no_control b = not (is_ascii_control b)

-- some bytes, none of which is a control character
abbrev pub is_user_name : List ℕ → Bool
is_user_name name = nat_lt 0 (length name) && list_all is_no_control name

-- a name stands in front of a colon
abbrev pub has_user_name : List ℕ → Bool
has_user_name text = list_any is_colon text && is_user_name (before_first is_colon text)

abbrev pub user_with : List ℕ → Result HashText LineFault → Result UserLine LineFault
user_with name (Ok hash) = Ok (record { name = name; hash = hash })
user_with name (Err e) = Err e

abbrev pub user_of_text : List ℕ → Result UserLine LineFault
user_of_text text = if has_user_name text then user_with (before_first is_colon text) (hash_of (after_first is_colon text)) else Err Name

abbrev pub user_of : List ℕ → Result UserLine LineFault
user_of line = if is_utf8 line then user_of_text line else Err Text

-- it is empty, or begins with `#`
abbrev pub has_no_user : List ℕ → Bool
has_no_user line = (length line == 0) || starts_with nat_eq line (35 ∷ [])

-- ---- all lines

-- the hash of the user with the name
abbrev pub hash_named : List UserLine → List ℕ → Option HashText
hash_named [] name = None
hash_named (user ∷ users) name = if bytes_eq user.name name then Some user.hash else hash_named users name

-- one user more
abbrev pub with_user : List UserLine → Result UserLine LineFault → Result (List UserLine) LineFault
with_user users (Err e) = Err e
with_user users (Ok user) = if is_some (hash_named users user.name) then Err Twice else Ok (users ++ user ∷ [])

abbrev pub with_line : List UserLine → List ℕ → Result (List UserLine) LineFault
with_line users line = if has_no_user line then Ok users else with_user users (user_of line)

-- the users of the lines so far, and how many lines these are; or the number of the first line that is wrong, and its fault
abbrev pub UsersReading : Type 0
UsersReading = Result (List UserLine × ℕ) (ℕ × LineFault)

abbrev pub at_number : ℕ → Result (List UserLine) LineFault → UsersReading
at_number number (Ok users) = Ok (users, number)
at_number number (Err e) = Err (number, e)

abbrev pub read_line : UsersReading → List ℕ → UsersReading
read_line (Err e) line = Err e
read_line (Ok so_far) line = at_number (so_far.1 + 1) (with_line so_far.0 line)

abbrev pub users_of : List ℕ → UsersReading
users_of file = fold read_line (Ok ([], 0)) (lines file)

-- ---- what the code has of it

abbrev pub user_in : User → UserLine
user_in user = record { name = string_bytes user.name; hash = hash_text_of user.hash }

abbrev pub users_in : Users → List UserLine
users_in users = map user_in users.users.items

-- what an error says of a reading
abbrev pub IsUsersFault : UsersError → UsersReading → Type 0
IsUsersFault OutOfMemory reading = Unit {0}
IsUsersFault (Line number fault) reading = reading ≡ Err (number, fault)

-- the users are those of the file, or the error says why there are none
abbrev pub ReadsUsers : Result Users UsersError → UsersReading → Type 0
ReadsUsers (Ok users) reading = (count : ℕ) × (reading ≡ Ok (users_in users, count))
ReadsUsers (Err e) reading = IsUsersFault e reading

-- ---- who is let in

-- the password is that of this hash
abbrev pub is_of : Option HashText → List ℕ → Bool
is_of None password = false
is_of (Some hash) password = accepts hash password

-- the password is that of the user with the name
abbrev pub is_password : List UserLine → List ℕ → List ℕ → Bool
is_password users name password = is_of (hash_named users name) password
