-- Ranges of bytes (RFC 9110 section 14): which bytes of a file a request asks for.
use Rattle.std.specs.Prelude.{ℕ, Bool, ◌+◌, ◌-◌, ◌==◌, nat_lt, nat_le, if◌then◌else◌, List, ◌∷◌, ◌++◌, codes, decimal, Option, None, Some}
use Rattle.std.specs.List.{list_any, slice_split}
use Rattle.http_header.specs.FieldValue.{FieldValue}
use Rattle.dav_headers_core.specs.Optional.{◌>>=◌}
use Rattle.dav_headers_core.specs.UpdateRanges.{is_hyphen, range_between, two}
use Rattle.dav_headers_core.specs.Values.{one_value, text_of}
use Rattle.dav_headers_core.specs.declared.davheaders.update_ranges.XUpdateRange.{XUpdateRange}
use Rattle.dav_headers_core.specs.declared.davheaders.update_ranges.XUpdateRange.TheVariants.{FromTo, AllFrom, Last, Append}
use Rattle.dav_fields_core.specs.declared.ranges.Extent.{Extent}
use Rattle.dav_fields_core.specs.declared.ranges.Extent.TheVariants as extent
use Rattle.dav_fields_core.specs.BehindWords.{behind_word}

-- `+`, which no position of a range begins with
abbrev pub has_sign : List ℕ → Bool
has_sign text = list_any (λ b. b == 43) text

-- the range between the ends around one dash
abbrev pub range_around_dash : List ℕ → Option XUpdateRange
range_around_dash range = two (slice_split is_hyphen range) >>= λ ends. range_between ends.0 ends.1

-- the range that a value spells: `bytes=A-B`, `bytes=A-` or `bytes=-N`, with the unit in any case of
-- letters and numbers below 2 ^ 64 (sections 14.1 and 14.1.2)
abbrev pub range_spelled : List ℕ → Option XUpdateRange
range_spelled text =
    if has_sign text then None
    else (text_of text >>= behind_word (codes "bytes") 61 >>= range_around_dash)

-- that of the one value
abbrev pub range_in : List FieldValue → Option XUpdateRange
range_in values = one_value values >>= range_spelled

-- the bytes from the first place to the last, of those that there are
abbrev pub part_of : ℕ → ℕ → ℕ → Extent
part_of size first last =
    if nat_le size first then extent.Unsatisfiable else extent.Part first (if nat_lt last size then last + 1 else size)

-- the last bytes of so many; the last bytes of none are all of them
abbrev pub last_bytes : ℕ → ℕ → Extent
last_bytes size count = if count == 0 then extent.Unsatisfiable else if size == 0 then extent.Whole else extent.Part (size - count) size

-- Which bytes of so many a range asks for. One whose ends are turned round is no range (section 14.1.2).
abbrev pub extent_by : ℕ → XUpdateRange → Extent
extent_by size Append = extent.Whole
extent_by size (FromTo first last) = if nat_lt last first then extent.Whole else part_of size first last
extent_by size (AllFrom first) = part_of size first size
extent_by size (Last count) = last_bytes size count

-- Which bytes of so many the values of `Range` ask for. What is not one range of bytes asks for all of them (section 14.2).
abbrev pub extent_of : ℕ → List FieldValue → Extent
extent_of size values = elim (range_in values) [ None ↦ extent.Whole | Some range ↦ extent_by size range ]

-- ---- `Content-Range` (section 14.4)

-- of the bytes from the first place up to the end, of so many
abbrev pub part_text : ℕ → ℕ → ℕ → List ℕ
part_text first end size = codes "bytes " ++ (decimal first ++ (45 ∷ (decimal (end - 1) ++ (47 ∷ decimal size))))

-- where none of so many are asked for
abbrev pub unsatisfied_text : ℕ → List ℕ
unsatisfied_text size = codes "bytes */" ++ decimal size
