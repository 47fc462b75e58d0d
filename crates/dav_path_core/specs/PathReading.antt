-- Path reading: the pieces of a URL path are decoded (RFC 3986 section 2.1), and then rewritten until no rule applies
-- (RFC 3986 sections 3.3 and 5.2.4).
use Rattle.std.specs.Prelude.{◌≡◌, ℕ, ◌≤◌, Bool, not, ◌&&◌, ◌||◌, ◌==◌, nat_lt, nat_eq, if◌then◌else◌, ◌⊎◌, List, [], ◌∷◌, ◌++◌, length, map, All, Contains, IsTrue, codes}
use Rattle.std.specs.List.{before_first, ends_with, join_with_byte}
use Rattle.std.specs.Str.{bytes_eq}
use Rattle.percent_encoding.specs.Percent.{percent_decode}
use Rattle.dav_path_core.specs.Segments.{slash_pieces, is_nonempty}

-- ---- the two rules

-- empty or `.`
abbrev pub is_idle : List ℕ → Bool
is_idle piece = not (is_nonempty piece) || bytes_eq piece (codes ".")

abbrev pub is_up : List ℕ → Bool
is_up piece = bytes_eq piece (codes "..")

-- none of empty, `.` and `..`
abbrev pub is_ordinary : List ℕ → Bool
is_ordinary piece = not (is_idle piece) && not (is_up piece)

-- what one rule drops: an empty piece or `.`, or an ordinary piece and the `..` right after it
pub data IsDroppable : List (List ℕ) → Type 0 where
  idle : (piece : List ℕ) → IsTrue (is_idle piece) → IsDroppable (piece ∷ [])
  pair : (piece up : List ℕ) → IsTrue (is_ordinary piece) → IsTrue (is_up up) → IsDroppable (piece ∷ up ∷ [])

-- one rule leads from xs to ys, at some place
pub record Drops (xs ys : List (List ℕ)) : Type 0 where
  pub front : List (List ℕ)
  pub gone : List (List ℕ)
  pub back : List (List ℕ)
  pub droppable : IsDroppable gone
  pub before : xs ≡ front ++ (gone ++ back)
  pub after : ys ≡ front ++ back

-- rules lead from xs to ys, in any number and order
pub data Rewrites : List (List ℕ) → List (List ℕ) → Type 0 where
  none : (xs : List (List ℕ)) → Rewrites xs xs
  more : (xs ys zs : List (List ℕ)) → Drops xs ys → Rewrites ys zs → Rewrites xs zs

-- no rule applies any more
abbrev pub IsReduced : List (List ℕ) → Type 0
IsReduced xs = (ys : List (List ℕ)) → ¬ Drops xs ys

-- ---- texts

-- the text before its first `?`
abbrev pub raw : List ℕ → List ℕ
raw text = before_first (λ b. b == 63) text

abbrev pub decoded_pieces : List ℕ → List (List ℕ)
decoded_pieces raw_text = map percent_decode (slash_pieces raw_text)

-- printable ASCII, and before the first `?` no `#` and a `/` at the front
pub record IsTarget (text : List ℕ) : Type 0 where
  pub printable : All (λ b. (32 ≤ b) × (b ≤ 126)) text
  pub no_fragment : ¬ Contains (raw text) 35
  pub rooted : (rest : List ℕ) × (raw text ≡ 47 ∷ rest)

-- holds byte 0 or `/`
abbrev pub IsForeign : List ℕ → Type 0
IsForeign piece = Contains piece 0 ⊎ Contains piece 47

-- a name that a segment of a path can be which is read: ordinary, and without byte 0 and `/`
pub record CanBeSegment (name : List ℕ) : Type 0 where
  pub ordinary : IsTrue (is_ordinary name)
  pub clean : ¬ IsForeign name

abbrev pub ends_in_slash : List ℕ → Bool
ends_in_slash bytes = ends_with nat_eq bytes (codes "/")

-- `/`, the segments joined by `/`, and a `/` behind them if asked for and there are any
abbrev pub path_of : List (List ℕ) → Bool → List ℕ
path_of kept slash =
    47 ∷ (join_with_byte 47 kept ++ (if slash && nat_lt 0 (length kept) then 47 ∷ [] else []))

-- the text is read as a path with these bytes
pub record Read (text path : List ℕ) : Type 0 where
  pub target : IsTarget text
  pub clean : All (λ piece. ¬ IsForeign piece) (decoded_pieces (raw text))
  pub kept : List (List ℕ)
  pub rewrites : Rewrites (decoded_pieces (raw text)) kept
  pub reduced : IsReduced kept
  pub no_up : All (λ piece. ¬ IsTrue (is_up piece)) kept
  pub path_is : path ≡ path_of kept (ends_in_slash (raw text))
