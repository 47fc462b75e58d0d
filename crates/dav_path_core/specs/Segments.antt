-- The segments of a path: the non-empty pieces between slashes (RFC 3986 section 3.3).
use Rattle.std.specs.Prelude.{ℕ, Bool, not, ◌==◌, List, length, filter}
use Rattle.std.specs.List.{slice_split}

-- `b'/'`
abbrev pub is_slash : ℕ → Bool
is_slash b = b == 47

-- the pieces between slashes, the empty ones too
abbrev pub slash_pieces : List ℕ → List (List ℕ)
slash_pieces bytes = slice_split is_slash bytes

abbrev pub is_nonempty : List ℕ → Bool
is_nonempty piece = not (length piece == 0)

unfoldable pub segments : List ℕ → List (List ℕ)
segments bytes = filter is_nonempty (slash_pieces bytes)
