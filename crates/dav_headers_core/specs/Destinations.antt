-- `Destination` (RFC 4918 section 10.3).
use Rattle.std.specs.Prelude.{ℕ, Bool, false, ◌==◌, if◌then◌else◌, List, [], ◌∷◌, Option, Some}
use Rattle.http_header.specs.FieldValue.{FieldValue}
use Rattle.dav_headers_core.specs.Optional.{◌>>=◌}
use Rattle.dav_headers_core.specs.Urls.{url_of}
use Rattle.dav_headers_core.specs.Values.{one_text}

abbrev pub is_rooted : List ℕ → Bool
is_rooted [] = false
is_rooted (b ∷ bytes) = b == 47

-- the text itself where it begins with a slash, and else the path of its URL
abbrev pub destination_of : List ℕ → Option (List ℕ)
destination_of text = if is_rooted text then Some text else (url_of text >>= λ url. Some url.path)

-- the destination of the one text
abbrev pub destination_header : List FieldValue → Option (List ℕ)
destination_header values = one_text values >>= destination_of
