-- `X-Update-Range` (of SabreDAV's partial updates): which bytes of a file a request writes.
use Rattle.std.specs.Prelude.{ℕ, Bool, ◌^◌, ◌<◌, ◌==◌, bytes_eq, if◌then◌else◌, List, [], ◌∷◌, ◌++◌, codes, decimal, Option, None, Some}
use Rattle.std.specs.List.{slice_split}
use Rattle.http_header.specs.FieldValue.{FieldValue}
use Rattle.dav_headers_core.specs.Optional.{◌>>=◌}
use Rattle.dav_headers_core.specs.Values.{one_text}
use Rattle.dav_headers_core.specs.Numbers.{number}
use Rattle.dav_headers_core.specs.Behind.{rest_after}
use Rattle.dav_headers_core.specs.declared.davheaders.update_ranges.XUpdateRange.{XUpdateRange}
use Rattle.dav_headers_core.specs.declared.davheaders.update_ranges.XUpdateRange.TheVariants.{FromTo, AllFrom, Last, Append}

abbrev pub is_hyphen : ℕ → Bool
is_hyphen b = b == 45

-- the range between two texts, of which one may be empty
unfoldable pub range_between : List ℕ → List ℕ → Option XUpdateRange
range_between [] [] = None
range_between [] (b ∷ last) = number 64 (b ∷ last) >>= λ n. Some (Last n)
range_between (b ∷ first) [] = number 64 (b ∷ first) >>= λ n. Some (AllFrom n)
range_between (b ∷ first) (c ∷ last) = number 64 (b ∷ first) >>= λ m. number 64 (c ∷ last) >>= λ n. Some (FromTo m n)

-- the two pieces, where there are exactly two
abbrev pub two : List (List ℕ) → Option (List ℕ × List ℕ)
two [] = None
two (first ∷ []) = None
two (first ∷ last ∷ []) = Some (first, last)
two (first ∷ last ∷ other ∷ more) = None

-- `append`, or `bytes=` and a range around one dash
abbrev pub range_of : List ℕ → Option XUpdateRange
range_of text =
    if bytes_eq text (codes "append") then Some Append
    else (rest_after (codes "bytes=") text >>= λ range. two (slice_split is_hyphen range) >>= λ ends. range_between ends.0 ends.1)

-- the range of the one text
abbrev pub range_header : List FieldValue → Option XUpdateRange
range_header values = one_text values >>= range_of

abbrev pub range_text : XUpdateRange → List ℕ
range_text Append = codes "append"
range_text (FromTo m n) = codes "bytes=" ++ (decimal m ++ 45 ∷ decimal n)
range_text (AllFrom m) = codes "bytes=" ++ (decimal m ++ 45 ∷ [])
range_text (Last n) = codes "bytes=" ++ (45 ∷ decimal n)

-- its numbers are within u64
abbrev pub IsRangeWithin : XUpdateRange → Type 0
IsRangeWithin Append = Unit {0}
IsRangeWithin (FromTo m n) = (m < 2 ^ 64) × (n < 2 ^ 64)
IsRangeWithin (AllFrom m) = m < 2 ^ 64
IsRangeWithin (Last n) = n < 2 ^ 64
