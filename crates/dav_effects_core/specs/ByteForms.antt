-- Fields of bytes: how each is written, and how it is read from the left (own).
use Rattle.std.specs.Prelude.{◌≡◌, ◌<◌, ◌^◌, ◌==◌, ◌-◌, ℕ, zero, suc, Bool, true, false, if◌then◌else◌, List, [], ◌∷◌, ◌++◌, length, take, drop, Option, Some, None, Result, Ok, Err, nat_lt}
use Rattle.std.specs.Int.{w64, to_le_bytes, from_le_bytes}
use Rattle.std.specs.List.{flat_map}
use Rattle.std.specs.Str.{is_utf8}

-- ---- what is written

-- a number in eight bytes, the lowest first
unfoldable pub number_text : ℕ → List ℕ
number_text n = to_le_bytes w64 n

-- how many bytes, and the bytes
abbrev pub counted_text : List ℕ → List ℕ
counted_text bytes = number_text (length bytes) ++ bytes

abbrev pub flag_text : Bool → List ℕ
flag_text false = 0 ∷ []
flag_text true = 1 ∷ []

-- whether there is one, and it
abbrev pub optional_text : {A : Type 0} → (A → List ℕ) → Option A → List ℕ
optional_text text None = 0 ∷ []
optional_text text (Some x) = 1 ∷ text x

-- how many there are, and each
abbrev pub each_text : {A : Type 0} → (A → List ℕ) → List A → List ℕ
each_text text xs = number_text (length xs) ++ flat_map text xs

-- how long the longest front is that both have
abbrev pub common_len : List ℕ → List ℕ → ℕ
common_len [] b = 0
common_len (x ∷ a) [] = 0
common_len (x ∷ a) (y ∷ b) = if x == y then suc (common_len a b) else 0

-- how much of its front the text has in common with the one before, how long it is, and the rest of it
unfoldable pub following_text : List ℕ → List ℕ → List ℕ
following_text before text = number_text (common_len before text) ++ (number_text (length text) ++ drop (common_len before text) text)

-- ---- what has a text

-- its eight bytes are enough
abbrev pub FitsInEight : ℕ → Type 0
FitsInEight n = n < 2 ^ 64

-- so few that their number has eight bytes
abbrev pub HasCount : List ℕ → Type 0
HasCount bytes = FitsInEight (length bytes)

pub record IsUtf8Text (text : List ℕ) : Type 0 where
  pub short : HasCount text
  pub utf8 : is_utf8 text ≡ true

-- ---- what is read

-- a value from the front, and what stands behind it; or how many bytes stand from the first field on that is none
abbrev pub Reading : Type 0 → Type 0
Reading A = List ℕ → Result (A × List ℕ) ℕ

infixl 10 ◌>>=◌
abbrev pub ◌>>=◌ : {A B : Type 0} → Result A ℕ → (A → Result B ℕ) → Result B ℕ
(Ok x) >>= f = f x
(Err left) >>= f = Err left

-- one, and then another
abbrev pub pair_at : {A B : Type 0} → Reading A → (A → Reading B) → Reading (A × B)
pair_at p q bytes = p bytes >>= λ a. q a.0 a.1 >>= λ b. Ok ((a.0, b.0), b.1)

-- what the value that is read stands for
abbrev pub value_at : {A B : Type 0} → (A → B) → Reading A → Reading B
value_at f p bytes = p bytes >>= λ a. Ok (f a.0, a.1)

-- only where the value passes the test
abbrev pub only_at : {A : Type 0} → (A → Bool) → Reading A → Reading A
only_at test p bytes = p bytes >>= λ a. if test a.0 then Ok a else Err (length bytes)

unfoldable pub eight_bytes_at : Reading ℕ
eight_bytes_at bytes = if nat_lt (length bytes) 8 then Err (length bytes) else Ok (from_le_bytes w64 (take 8 bytes), drop 8 bytes)

-- so many bytes
unfoldable pub bytes_at : ℕ → Reading (List ℕ)
bytes_at n bytes = if nat_lt (length bytes) n then Err (length bytes) else Ok (take n bytes, drop n bytes)

unfoldable pub counted_at : Reading (List ℕ)
counted_at bytes = eight_bytes_at bytes >>= λ n. bytes_at n.0 n.1

unfoldable pub utf8_at : Reading (List ℕ)
utf8_at = only_at is_utf8 counted_at

abbrev pub flag_at : Reading Bool
flag_at [] = Err 0
flag_at (zero ∷ rest) = Ok (false, rest)
flag_at (suc zero ∷ rest) = Ok (true, rest)
flag_at (suc (suc b) ∷ rest) = Err (suc (length rest))

-- a value where there is one
abbrev pub option_at : {A : Type 0} → Reading A → Bool → Reading (Option A)
option_at p false bytes = Ok (None, bytes)
option_at p true bytes = value_at Some p bytes

unfoldable pub optional_at : {A : Type 0} → Reading A → Reading (Option A)
optional_at p bytes = flag_at bytes >>= λ there. option_at p there.0 there.1

-- so many
unfoldable pub times_at : {A : Type 0} → Reading A → ℕ → Reading (List A)
times_at p zero bytes = Ok ([], bytes)
times_at p (suc n) bytes = p bytes >>= λ a. times_at p n a.1 >>= λ b. Ok (a.0 ∷ b.0, b.1)

unfoldable pub each_at : {A : Type 0} → Reading A → Reading (List A)
each_at p bytes = eight_bytes_at bytes >>= λ n. times_at p n.0 n.1

-- a text behind the one before: what it is said to have in common with that is all that it has
unfoldable pub following_at : List ℕ → Reading (List ℕ)
following_at before bytes = eight_bytes_at bytes >>= λ n. eight_bytes_at n.1 >>= λ len. bytes_at (len.0 - n.0) len.1 >>= λ more.
    if nat_lt (length before) n.0 then Err (length bytes)
    else if nat_lt len.0 n.0 then Err (length bytes)
    else if common_len before (take n.0 before ++ more.0) == n.0 then Ok (take n.0 before ++ more.0, more.1) else Err (length bytes)
