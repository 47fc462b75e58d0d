-- Texts between commas, and texts joined by commas (RFC 9110 section 5.6.1).
use Rattle.std.specs.Prelude.{ℕ, Bool, ◌-◌, ◌==◌, ◌||◌, List, codes, map, take, drop, length}
use Rattle.std.specs.List.{slice_split, prefix_len, suffix_len, join_by}

-- a space or a tab
abbrev pub is_blank : ℕ → Bool
is_blank b = b == 32 || b == 9

abbrev pub is_comma : ℕ → Bool
is_comma b = b == 44

-- the text without what passes the test at its ends
abbrev pub trimmed_by : (ℕ → Bool) → List ℕ → List ℕ
trimmed_by test text =
    let tail = drop (prefix_len test text) text in
    take (length tail - suffix_len test tail) tail

-- the text without the blanks at its ends
abbrev pub without_blanks : List ℕ → List ℕ
without_blanks text = trimmed_by is_blank text

-- what stands between the commas, trimmed
abbrev pub comma_pieces : List ℕ → List (List ℕ)
comma_pieces text = map without_blanks (slice_split is_comma text)

-- the texts, with a comma and a space between
abbrev pub joined_by_commas : List (List ℕ) → List ℕ
joined_by_commas texts = join_by (λ text. text) (codes ", ") texts
