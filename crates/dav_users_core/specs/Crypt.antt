-- SHA-crypt, the hash of a password, over a digest function (U. Drepper, "Unix crypt using SHA-256 and SHA-512", version 0.6).
use Rattle.std.specs.Prelude.{◌==◌, ◌+◌, ◌/◌, ◌%◌, ℕ, zero, suc, List, [], ◌++◌, length, take, get_or, if◌then◌else◌}

-- so many times the bytes
abbrev pub times : ℕ → List ℕ → List ℕ
times zero bytes = []
times (suc count) bytes = times count bytes ++ bytes

-- the first so many of the bytes, which are repeated as often as is needed
abbrev pub repeat_up_to : ℕ → List ℕ → List ℕ
repeat_up_to count bytes = take count (times count bytes)

-- for the lowest binary digit of the number: the one for a 1, the other for a 0, and nothing for a number that is 0
abbrev pub by_digit : ℕ → List ℕ → List ℕ → List ℕ
by_digit number one other = if number == 0 then [] else if number % 2 == 1 then one else other

-- for each of so many binary digits of the number, the lowest first
abbrev pub by_digits : ℕ → ℕ → List ℕ → List ℕ → List ℕ
by_digits zero number one other = []
by_digits (suc places) number one other = by_digit number one other ++ by_digits places (number / 2) one other

module _ (digest : List ℕ → List ℕ) where
  -- steps 4 to 8
  abbrev pub mixed_sum : List ℕ → List ℕ → List ℕ
  mixed_sum password salt = digest (password ++ (salt ++ password))

  -- steps 1 to 12; a number has no more binary digits than it counts
  abbrev pub first_sum : List ℕ → List ℕ → List ℕ
  first_sum password salt =
      digest (password ++ (salt ++ (repeat_up_to (length password) (mixed_sum password salt) ++ by_digits (length password) (length password) (mixed_sum password salt) password)))

  -- steps 13 to 16
  abbrev pub password_bytes : List ℕ → List ℕ
  password_bytes password = repeat_up_to (length password) (digest (times (length password) password))

  -- steps 17 to 20
  abbrev pub salt_bytes : List ℕ → List ℕ → List ℕ
  salt_bytes first salt = repeat_up_to (length salt) (digest (times (16 + get_or first 0 0) salt))

  -- step 21, once: the round with this number
  abbrev pub round : List ℕ → List ℕ → ℕ → List ℕ → List ℕ
  round p s number sum =
      digest ((if number % 2 == 1 then p else sum) ++ ((if number % 3 == 0 then [] else s) ++ ((if number % 7 == 0 then [] else p) ++ (if number % 2 == 1 then sum else p))))

  -- step 21: the rounds up to this number
  abbrev pub rounds : List ℕ → List ℕ → List ℕ → ℕ → List ℕ
  rounds p s first zero = first
  rounds p s first (suc count) = round p s count (rounds p s first count)

  -- all of it
  abbrev pub crypt : ℕ → List ℕ → List ℕ → List ℕ
  crypt count password salt = rounds (password_bytes password) (salt_bytes (first_sum password salt) salt) (first_sum password salt) count
