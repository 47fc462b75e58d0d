-- Who sends a request, by its headers: the principal whom the server's settings take from one of them, and the tokens that it submits.
use Rattle.std.specs.Prelude.{◌≡◌, ◌⊎◌, ℕ, List, [], ◌∷◌, Option, None, Some, IsUtf8, codes}
use Rattle.http_header.specs.FieldValue.{FieldValue}
use Rattle.http_header.specs.HeaderMap.{Entries, get_all}
use Rattle.dav_headers_core.specs.IfValues.{Located}
use Rattle.dav_fields_core.specs.Bases.{Site}
use Rattle.dav_fields_core.specs.IfTokens.{tokens_of}
use Rattle.dav_fields_core.specs.RootedTags.{IfSays}

-- a value that names nobody: it is empty, or no text (own)
abbrev pub NamesNobody : FieldValue → Type 0
NamesNobody value = (value.bytes ≡ []) ⊎ (¬ IsUtf8 value.bytes)

-- nobody is named where no header is set; else the header has one value, which names somebody and is
-- the principal (own)
abbrev pub NamesPrincipal : Option (List ℕ) → Entries FieldValue → Option (List ℕ) → Type 0
NamesPrincipal None headers principal = principal ≡ None
NamesPrincipal (Some name) headers principal =
    (value : FieldValue) × (get_all headers name ≡ value ∷ []) × (¬ NamesNobody value)
    × (principal ≡ Some value.bytes)

-- the tokens that a request submits are those of its `If`; without one it submits none (RFC 4918 section 10.4)
abbrev pub Submits : Site → Entries FieldValue → List (List ℕ) → Type 0
Submits site headers tokens =
    ((get_all headers (codes "if") ≡ []) × (tokens ≡ []))
    ⊎ ((lists : List Located) × IfSays site headers lists × (tokens ≡ tokens_of lists))
