-- How the sums of SHA-crypt are written (U. Drepper, "Unix crypt using SHA-256 and SHA-512", version 0.6, step 22).
use Rattle.std.specs.Prelude.{◌*◌, ◌+◌, ◌/◌, ◌%◌, ℕ, zero, suc, List, [], ◌∷◌, ◌++◌, codes, get_or}
use Rattle.std.specs.List.{flat_map}

-- the letter of a number below 64
abbrev pub letter : ℕ → ℕ
letter n = get_or (codes "./0123456789ABCDEFGHIJKLMNOPQRSTUVWXYZabcdefghijklmnopqrstuvwxyz") n 0

-- so many letters of the number, six bits each, the lowest first
abbrev pub letters_of : ℕ → ℕ → List ℕ
letters_of zero n = []
letters_of (suc count) n = letter (n % 64) ∷ letters_of count (n / 64)

-- the number whose three bytes stand at these places of the sum, the highest first
abbrev pub number_of_three : List ℕ → List ℕ → ℕ
number_of_three sum places = get_or sum (get_or places 0 0) 0 * 65536 + (get_or sum (get_or places 1 0) 0 * 256 + get_or sum (get_or places 2 0) 0)

-- four letters for each three places
abbrev pub groups : List ℕ → List (List ℕ) → List ℕ
groups sum places = flat_map (λ three. letters_of 4 (number_of_three sum three)) places

-- of a sum of 64 bytes
abbrev pub places_512 : List (List ℕ)
places_512 =
    (0 ∷ 21 ∷ 42 ∷ []) ∷ (22 ∷ 43 ∷ 1 ∷ []) ∷ (44 ∷ 2 ∷ 23 ∷ []) ∷ (3 ∷ 24 ∷ 45 ∷ []) ∷ (25 ∷ 46 ∷ 4 ∷ []) ∷ (47 ∷ 5 ∷ 26 ∷ []) ∷ (6 ∷ 27 ∷ 48 ∷ []) ∷
    (28 ∷ 49 ∷ 7 ∷ []) ∷ (50 ∷ 8 ∷ 29 ∷ []) ∷ (9 ∷ 30 ∷ 51 ∷ []) ∷ (31 ∷ 52 ∷ 10 ∷ []) ∷ (53 ∷ 11 ∷ 32 ∷ []) ∷ (12 ∷ 33 ∷ 54 ∷ []) ∷ (34 ∷ 55 ∷ 13 ∷ []) ∷
    (56 ∷ 14 ∷ 35 ∷ []) ∷ (15 ∷ 36 ∷ 57 ∷ []) ∷ (37 ∷ 58 ∷ 16 ∷ []) ∷ (59 ∷ 17 ∷ 38 ∷ []) ∷ (18 ∷ 39 ∷ 60 ∷ []) ∷ (40 ∷ 61 ∷ 19 ∷ []) ∷ (62 ∷ 20 ∷ 41 ∷ []) ∷ []

-- of a sum of 32 bytes
abbrev pub places_256 : List (List ℕ)
places_256 =
    (0 ∷ 10 ∷ 20 ∷ []) ∷ (21 ∷ 1 ∷ 11 ∷ []) ∷ (12 ∷ 22 ∷ 2 ∷ []) ∷ (3 ∷ 13 ∷ 23 ∷ []) ∷ (24 ∷ 4 ∷ 14 ∷ []) ∷
    (15 ∷ 25 ∷ 5 ∷ []) ∷ (6 ∷ 16 ∷ 26 ∷ []) ∷ (27 ∷ 7 ∷ 17 ∷ []) ∷ (18 ∷ 28 ∷ 8 ∷ []) ∷ (9 ∷ 19 ∷ 29 ∷ []) ∷ []

-- the 86 letters of a sum of 64 bytes
abbrev pub text_512 : List ℕ → List ℕ
text_512 sum = groups sum places_512 ++ letters_of 2 (get_or sum 63 0)

-- the 43 letters of a sum of 32 bytes
abbrev pub text_256 : List ℕ → List ℕ
text_256 sum = groups sum places_256 ++ letters_of 3 (get_or sum 31 0 * 256 + get_or sum 30 0)
