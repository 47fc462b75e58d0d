-- The hash of a password in words (U. Drepper, "Unix crypt using SHA-256 and SHA-512", version 0.6), and which passwords it is of.
use Rattle.std.specs.Prelude.{◌==◌, ℕ, Bool, ◌&&◌, ◌||◌, List, length, codes, nat_le, nat_lt, Option, None, Some, Result, Ok, Err, if◌then◌else◌}
use Rattle.std.specs.Char.{is_ascii_alphanumeric}
use Rattle.std.specs.List.{before_first, after_first, list_all, list_any}
use Rattle.std.specs.Str.{bytes_eq}
use Rattle.sha2.specs.Sha256.{sha256}
use Rattle.sha2.specs.Sha512.{sha512}
use Rattle.line_streams.specs.Numerals.{numeral}
use Rattle.dav_users_core.specs.declared.error.LineFault.{LineFault}
use Rattle.dav_users_core.specs.declared.error.LineFault.TheVariants.{Scheme as OtherScheme, Bcrypt, Rounds as WrongRounds, Hash as WrongHash}
use Rattle.dav_users_core.specs.declared.hashes.PasswordHash.{PasswordHash}
use Rattle.dav_users_core.specs.declared.hashes.Scheme.{Scheme}
use Rattle.dav_users_core.specs.declared.hashes.Scheme.TheVariants.{Sha256, Sha512}
use Rattle.dav_users_core.specs.Crypt.{crypt}
use Rattle.dav_users_core.specs.CryptText.{text_256, text_512}

-- ---- what the text of a hash says

pub record HashText : Type 0 where
  pub scheme : Scheme
  pub rounds : ℕ
  pub salt : List ℕ
  pub sum : List ℕ

abbrev pub is_dollar : ℕ → Bool
is_dollar b = b == 36

abbrev pub is_equals : ℕ → Bool
is_equals b = b == 61

-- one of the 64 letters of which salts and sums are made
abbrev pub is_letter : ℕ → Bool
is_letter b = is_ascii_alphanumeric b || (b == 46 || b == 47)

-- how many letters a sum has
abbrev pub letters_in : Scheme → ℕ
letters_in Sha256 = 43
letters_in Sha512 = 86

abbrev pub is_salt : List ℕ → Bool
is_salt salt = nat_le (length salt) 16 && list_all is_letter salt

abbrev pub is_sum : Scheme → List ℕ → Bool
is_sum scheme sum = (length sum == letters_in scheme) && list_all is_letter sum

-- a salt, a `$` and a sum
abbrev pub salt_and_sum : Scheme → ℕ → List ℕ → List ℕ → Result HashText LineFault
salt_and_sum scheme rounds salt sum =
    if is_salt salt && is_sum scheme sum then Ok (record { scheme = scheme; rounds = rounds; salt = salt; sum = sum }) else Err WrongHash

-- 1,000 to 20,000 of them
abbrev pub rounds_in : Option ℕ → Option ℕ
rounds_in None = None
rounds_in (Some rounds) = if nat_lt rounds 1000 || nat_lt 20000 rounds then None else Some rounds

abbrev pub with_rounds : Scheme → Option ℕ → List ℕ → Result HashText LineFault
with_rounds scheme None rest = Err WrongRounds
with_rounds scheme (Some rounds) rest = salt_and_sum scheme rounds (before_first is_dollar rest) (after_first is_dollar rest)

-- it begins with `rounds=`
abbrev pub is_rounds : List ℕ → Bool
is_rounds field = list_any is_equals field && bytes_eq (before_first is_equals field) (codes "rounds")

-- `rounds=` and a number stand in front, or 5,000 are meant
abbrev pub behind_scheme : Scheme → List ℕ → List ℕ → Result HashText LineFault
behind_scheme scheme field rest =
    if is_rounds field
    then with_rounds scheme (rounds_in (numeral (after_first is_equals field))) rest
    else salt_and_sum scheme 5000 field rest

abbrev pub scheme_of : List ℕ → Option Scheme
scheme_of word = if bytes_eq word (codes "6") then Some Sha512 else if bytes_eq word (codes "5") then Some Sha256 else None

-- the three words of bcrypt
abbrev pub is_bcrypt : List ℕ → Bool
is_bcrypt word = bytes_eq word (codes "2a") || (bytes_eq word (codes "2b") || bytes_eq word (codes "2y"))

-- what is wrong with a word that is no scheme's
abbrev pub unread_scheme : List ℕ → LineFault
unread_scheme word = if is_bcrypt word then Bcrypt else OtherScheme

abbrev pub by_scheme : List ℕ → Option Scheme → List ℕ → Result HashText LineFault
by_scheme word None rest = Err (unread_scheme word)
by_scheme word (Some scheme) rest = behind_scheme scheme (before_first is_dollar rest) (after_first is_dollar rest)

-- what stands behind the first `$`
abbrev pub behind_dollar : List ℕ → Result HashText LineFault
behind_dollar rest = by_scheme (before_first is_dollar rest) (scheme_of (before_first is_dollar rest)) (after_first is_dollar rest)

abbrev pub hash_of : List ℕ → Result HashText LineFault
hash_of text = if length (before_first is_dollar text) == 0 then behind_dollar (after_first is_dollar text) else Err OtherScheme

-- ---- what the code has of it

abbrev pub hash_text_of : PasswordHash → HashText
hash_text_of h = record { scheme = h.scheme; rounds = h.rounds; salt = h.salt.items; sum = h.sum.items }

abbrev pub hash_texts_of : Result PasswordHash LineFault → Result HashText LineFault
hash_texts_of (Ok h) = Ok (hash_text_of h)
hash_texts_of (Err e) = Err e

-- ---- which passwords it is of

-- the letters of the password's sum
abbrev pub crypt_text : HashText → List ℕ → List ℕ
crypt_text h password = by h.scheme
  where
    by : Scheme → List ℕ
    by Sha256 = text_256 (crypt sha256 h.rounds password h.salt)
    by Sha512 = text_512 (crypt sha512 h.rounds password h.salt)

-- no password of more than 128 bytes
abbrev pub accepts : HashText → List ℕ → Bool
accepts h password = nat_le (length password) 128 && bytes_eq (crypt_text h password) h.sum
