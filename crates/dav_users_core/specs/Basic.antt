-- The name and the password that a field `Authorization` gives (RFC 7617 sections 2 and 2.1).
use Rattle.std.specs.Prelude.{◌≡◌, ◌==◌, ℕ, Bool, List, [], ◌∷◌, codes, string_bytes, encode_utf8, Option, None, Some, option_map, Result, Ok, Err, IfOk, if◌then◌else◌}
use Rattle.std.specs.List.{before_first, after_first, flat_map, list_any}
use Rattle.std.specs.Str.{is_utf8, str_eq_ignore_ascii_case}
use Rattle.base64.specs.Engines.{standard}
use Rattle.base64.specs.GeneralPurpose.{decode_of}
use Rattle.base64.specs.declared.decode.DecodeError.{DecodeError}
use Rattle.dav_users_core.specs.declared.basic.Credentials.{Credentials}
use Rattle.dav_users_core.specs.Users.{is_colon}

pub record NameAndPassword : Type 0 where
  pub name : List ℕ
  pub password : List ℕ

abbrev pub is_blank_byte : ℕ → Bool
is_blank_byte b = b == 32

-- the bytes behind the blanks in front
abbrev pub behind_blanks : List ℕ → List ℕ
behind_blanks [] = []
behind_blanks (b ∷ bytes) = if b == 32 then behind_blanks bytes else b ∷ bytes

-- it is `Basic`, in any case
abbrev pub is_basic : List ℕ → Bool
is_basic word = str_eq_ignore_ascii_case word (codes "basic")

-- a text in ISO 8859-1, written in UTF-8: each byte is the character with that number
abbrev pub latin_text : List ℕ → List ℕ
latin_text bytes = flat_map encode_utf8 bytes

-- the text of some bytes: all of them are UTF-8, or else all are ISO 8859-1
abbrev pub decoded_text : List ℕ → List ℕ
decoded_text bytes = if is_utf8 bytes then bytes else latin_text bytes

-- a name, a colon and a password
abbrev pub parted_at_colon : List ℕ → Option NameAndPassword
parted_at_colon text = if list_any is_colon text then Some (record { name = before_first is_colon text; password = after_first is_colon text }) else None

abbrev pub given_in : Result (List ℕ) DecodeError → Option NameAndPassword
given_in (Ok bytes) = parted_at_colon (decoded_text bytes)
given_in (Err e) = None

-- what stands behind the scheme and the blanks, in base64
abbrev pub given_by_text : List ℕ → Option NameAndPassword
given_by_text text = if is_basic (before_first is_blank_byte text) then given_in (decode_of standard (behind_blanks (after_first is_blank_byte text))) else None

abbrev pub given_by : List ℕ → Option NameAndPassword
given_by value = if is_utf8 value then given_by_text value else None

-- ---- what the code has of it

abbrev pub name_and_password_of : Credentials → NameAndPassword
name_and_password_of c = record { name = string_bytes c.name; password = string_bytes c.password }

-- the answer is this name and password, or none; unless there is no memory
abbrev pub GivesCredentials : {E : Type 0} → Result (Option Credentials) E → Option NameAndPassword → Type 0
GivesCredentials result given = IfOk result (λ some. option_map name_and_password_of some ≡ given)
