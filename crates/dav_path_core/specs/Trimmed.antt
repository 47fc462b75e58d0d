-- A path without a slash at its end, and which paths are equal but for one (RFC 4918 section 5.2).
use Rattle.std.specs.Prelude.{ℕ, ◌-◌, Bool, ◌&&◌, nat_lt, nat_eq, if◌then◌else◌, List, length, take}
use Rattle.std.specs.Ordering.{on}
use Rattle.std.specs.Cmp.{IsEquivalence, IsPartialEquivalence, partial_equiv_from_equiv}
use Rattle.std.specs.Cmp.Lexicographic.{pointwise, on_texts_equal}
use Rattle.dav_path_core.specs.PathReading.{ends_in_slash}
use Rattle.dav_path_core.specs.PathText.{PathText, full}

-- without one slash at the end, where there are more bytes
abbrev pub without_last_slash : List ℕ → List ℕ
without_last_slash bytes = if ends_in_slash bytes && nat_lt 1 (length bytes) then take (length bytes - 1) bytes else bytes

-- the whole paths have the same bytes but for that slash
abbrev pub is_equal : PathText → PathText → Bool
is_equal = on (λ path. without_last_slash (full path)) (pointwise nat_eq)

pub is_equal-equiv : IsEquivalence is_equal
is_equal-equiv = on_texts_equal (λ path. without_last_slash (full path))

pub is_equal-partial_equiv : IsPartialEquivalence is_equal
is_equal-partial_equiv = partial_equiv_from_equiv is_equal-equiv
