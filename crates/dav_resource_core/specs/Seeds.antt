-- The seed that the words behind a program's name give (own).
use Rattle.std.specs.Prelude.{ℕ, List, [], ◌∷◌, Option, None}
use Rattle.line_streams.specs.Numerals.{numeral}

-- one word, and that a numeral
abbrev pub seed : List (List ℕ) → Option ℕ
seed [] = None
seed (word ∷ []) = numeral word
seed (word ∷ other ∷ words) = None
