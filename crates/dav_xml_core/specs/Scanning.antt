-- Parts of a text.
use Rattle.std.specs.Prelude.{ℕ, ◌==◌, Bool, true, false, nat_eq, if◌then◌else◌, List, [], ◌∷◌, drop, length, Option, None, Some}
use Rattle.std.specs.List.{starts_with}
use Rattle.dav_xml_core.specs.Characters.{is_white}
use Rattle.dav_xml_core.specs.Optional.{when}

-- what a production found, and what it left
abbrev pub Found : Type 0 → Type 0
Found A = Option (A × List ℕ)

-- whether the first character passes the test
abbrev pub begins : (ℕ → Bool) → List ℕ → Bool
begins test [] = false
begins test (c ∷ text) = test c

-- what stands after a character
abbrev pub after_char : ℕ → List ℕ → Option (List ℕ)
after_char char [] = None
after_char char (c ∷ text) = when (c == char) text

-- what stands after white space
abbrev pub skip_white : List ℕ → List ℕ
skip_white [] = []
skip_white (c ∷ text) = if is_white c then skip_white text else c ∷ text

-- with a character before what was found
abbrev pub with_char : ℕ → Found (List ℕ) → Found (List ℕ)
with_char c (Some found) = Some (c ∷ found.0, found.1)
with_char c None = None

-- what stands before the first place of a mark, and after it
abbrev pub until : List ℕ → List ℕ → Found (List ℕ)
until mark [] = None
until mark (c ∷ text) =
    if starts_with nat_eq (c ∷ text) mark then Some ([], drop (length mark) (c ∷ text)) else with_char c (until mark text)

abbrev pub is_nil : List ℕ → Bool
is_nil [] = true
is_nil (c ∷ text) = false

-- what stands after a mark
abbrev pub after_mark : List ℕ → List ℕ → Option (List ℕ)
after_mark mark text = when (starts_with nat_eq text mark) (drop (length mark) text)
