-- How long a lock is to stand: by what a request asks for, and by the greatest timeout that is given (RFC 4918 sections 6.6, 9.10.1 and 10.7).
use Rattle.std.specs.Prelude.{ℕ, Bool, true, false, not, ◌&&◌, ◌==◌, nat_le, nat_lt, max, List, [], ◌∷◌, length, Option, None, Some, option_map, codes, if◌then◌else◌}
use Rattle.std.specs.List.{filter_map}
use Rattle.std.specs.Str.{str_eq_ignore_ascii_case}
use Rattle.http_header.specs.FieldValue.{FieldValue}
use Rattle.http_header.specs.HeaderMap.{Entries, get_all}
use Rattle.dav_headers_core.specs.CommaPieces.{comma_pieces}
use Rattle.dav_headers_core.specs.Numbers.{number}
use Rattle.dav_headers_core.specs.Optional.{◌>>=◌, when}
use Rattle.dav_headers_core.specs.Values.{one_text}
use Rattle.dav_headers_core.specs.declared.davheaders.timeouts.DavTimeout.{DavTimeout}
use Rattle.dav_headers_core.specs.declared.davheaders.timeouts.DavTimeout.TheVariants.{Seconds, Infinite}
use Rattle.dav_fields_core.specs.BehindWords.{behind_word}

-- `Infinite`, or `Second-` and a number below 2 ^ 32, in any case of letters (RFC 5234 section 2.3)
abbrev pub timeout_spelled : List ℕ → Option DavTimeout
timeout_spelled piece =
    if str_eq_ignore_ascii_case piece (codes "Infinite") then Some Infinite
    else (behind_word (codes "Second") 45 piece
    >>= λ digits. option_map Seconds (number 32 digits))

-- those that the pieces of a text spell, where one does; a piece that spells none is passed over
abbrev pub timeouts_spelled : List ℕ → Option (List DavTimeout)
timeouts_spelled text =
    let timeouts = filter_map timeout_spelled (comma_pieces text) in
    when (not (length timeouts == 0)) timeouts

-- what a request asks for, the wanted timeout first; nothing without a `Timeout`; no list where that
-- can't be read, as several can't
abbrev pub timeouts_by : List FieldValue → Option (List DavTimeout)
timeouts_by [] = Some []
timeouts_by values = one_text values >>= timeouts_spelled

abbrev pub timeouts_in : Entries FieldValue → Option (List DavTimeout)
timeouts_in headers = timeouts_by (get_all headers (codes "timeout"))

-- a timeout of at least a second, and of at most the greatest, where there is one
abbrev pub can_be_given : Option ℕ → DavTimeout → Bool
can_be_given None (Seconds n) = nat_lt 0 n
can_be_given (Some most) (Seconds n) = nat_lt 0 n && nat_le n most
can_be_given None Infinite = true
can_be_given (Some most) Infinite = false

-- in seconds; none without an end
abbrev pub seconds_of : DavTimeout → Option ℕ
seconds_of (Seconds n) = Some n
seconds_of Infinite = None

-- the first that can be given, else the greatest
abbrev pub given_of : Option ℕ → List DavTimeout → Option ℕ
given_of most [] = option_map (λ n. max n 1) most
given_of most (wanted ∷ others) = if can_be_given most wanted then seconds_of wanted else given_of most others
