-- A path as the list of its segments, and what stands above it (RFC 4918 section 5.1).
use Rattle.std.specs.Prelude.{ℕ, Bool, List, [], ◌∷◌, ◌++◌, map, Option, Some, None, is_some, option_map, if◌then◌else◌}
use Rattle.std.specs.declared.cmp.Ordering.{Ordering}
use Rattle.std.specs.Ordering.{nat_cmp, eq_by_cmp}
use Rattle.std.specs.Cmp.Lexicographic.{slice_cmp}

-- a segment, by its bytes
abbrev pub Segment : Type 0
Segment = List ℕ

abbrev pub Path : Type 0
Path = List Segment

abbrev pub segment_cmp : Segment → Segment → Ordering
segment_cmp = slice_cmp nat_cmp

abbrev pub path_cmp : Path → Path → Ordering
path_cmp = slice_cmp segment_cmp

-- the path without its last segment; the root is its own parent
abbrev pub parent : Path → Path
parent [] = []
parent (s ∷ []) = []
parent (s ∷ t ∷ p) = s ∷ parent (t ∷ p)

-- the shorter fronts of a path, the longest first
abbrev pub shorter_fronts : Path → List Path
shorter_fronts [] = []
shorter_fronts (s ∷ p) = map (λ f. s ∷ f) (shorter_fronts p) ++ ([] ∷ [])

-- the last segment of a path whose parent is `p`
abbrev pub name_below : Path → Path → Option Segment
name_below [] (name ∷ []) = Some name
name_below (s ∷ p) (t ∷ q) = if eq_by_cmp segment_cmp s t then name_below p q else None
name_below _ _ = None

-- what stands in `p` behind `front`, where that is a front of it
abbrev pub behind : Path → Path → Option Path
behind [] p = Some p
behind (s ∷ front) [] = None
behind (s ∷ front) (t ∷ p) = if eq_by_cmp segment_cmp s t then behind front p else None

-- the path that stands to `to` as `p` to `from`, where `p` is `from` or stands below it
abbrev pub rebased : Path → Path → Path → Option Path
rebased from to p = option_map (λ rest. to ++ rest) (behind from p)

-- whether `p` is `front` or stands below it
abbrev pub is_front : Path → Path → Bool
is_front front p = is_some (behind front p)

abbrev pub is_same_path : Path → Path → Bool
is_same_path p q = eq_by_cmp path_cmp p q
