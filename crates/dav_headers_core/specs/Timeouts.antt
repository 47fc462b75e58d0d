-- `Timeout` (RFC 4918 section 10.7).
use Rattle.std.specs.Prelude.{ℕ, ◌^◌, ◌<◌, bytes_eq, if◌then◌else◌, List, ◌++◌, codes, decimal, map, Option, Some}
use Rattle.http_header.specs.FieldValue.{FieldValue}
use Rattle.dav_headers_core.specs.Optional.{◌>>=◌, every}
use Rattle.dav_headers_core.specs.Values.{one_text}
use Rattle.dav_headers_core.specs.Numbers.{number}
use Rattle.dav_headers_core.specs.Behind.{rest_after}
use Rattle.dav_headers_core.specs.CommaPieces.{comma_pieces, joined_by_commas}
use Rattle.dav_headers_core.specs.declared.davheaders.timeouts.DavTimeout.{DavTimeout}
use Rattle.dav_headers_core.specs.declared.davheaders.timeouts.DavTimeout.TheVariants.{Seconds, Infinite}

-- `Infinite`, or `Second-` and a number
unfoldable pub timeout_of : List ℕ → Option DavTimeout
timeout_of piece =
    if bytes_eq piece (codes "Infinite") then Some Infinite
    else (rest_after (codes "Second-") piece >>= λ digits. number 32 digits >>= λ n. Some (Seconds n))

-- the timeouts of the one text, one a piece
abbrev pub timeout_header : List FieldValue → Option (List DavTimeout)
timeout_header values = one_text values >>= λ text. every timeout_of (comma_pieces text)

abbrev pub timeout_text : DavTimeout → List ℕ
timeout_text Infinite = codes "Infinite"
timeout_text (Seconds n) = codes "Second-" ++ decimal n

abbrev pub timeouts_text : List DavTimeout → List ℕ
timeouts_text timeouts = joined_by_commas (map timeout_text timeouts)

-- its number is within u32
abbrev pub IsTimeoutWithin : DavTimeout → Type 0
IsTimeoutWithin Infinite = Unit {0}
IsTimeoutWithin (Seconds n) = n < 2 ^ 32
