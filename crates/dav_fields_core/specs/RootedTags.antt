-- What the `If` of a request says (RFC 4918 section 10.4). Its resource tags may be paths (sections 8.3
-- and 10.4.2), which are read as if the scheme and the host of the request stood before them.
use Rattle.std.specs.Prelude.{◌≡◌, ◌⊎◌, ℕ, ◌&&◌, ◌==◌, Bool, true, not, nat_lt, if◌then◌else◌, List}
use Rattle.std.specs.Prelude.{[], ◌∷◌, ◌++◌, map, option_map, codes}
use Rattle.std.specs.List.{list_all}
use Rattle.http_header.specs.FieldValue.{FieldValue}
use Rattle.http_header.specs.HeaderMap.{Entries, get_all}
use Rattle.dav_headers_core.specs.Destinations.{is_rooted}
use Rattle.dav_headers_core.specs.IfBytes.{Group}
use Rattle.dav_headers_core.specs.IfGrammar.{IfText}
use Rattle.dav_headers_core.specs.IfValues.{Located, ReadsAs, Resolves}
use Rattle.dav_headers_core.specs.Tags.{quote}
use Rattle.dav_fields_core.specs.Bases.{NamesHost, Site, scheme_front}

-- a byte that a host may have: visible ASCII, but no quote and no `>`
abbrev pub is_host_byte : ℕ → Bool
is_host_byte b = nat_lt 32 b && nat_lt b 127 && not (b == quote) && not (b == 62)

-- what stands before the paths in the URLs of a request, as `http://host:81`: the scheme of the server,
-- and the host and port, where these have no other bytes
pub record IsFront (site : Site) (headers : Entries FieldValue) (front : List ℕ) : Type 0 where
  pub host : List ℕ
  pub named : NamesHost site.host headers host
  pub plain : list_all is_host_byte host ≡ true
  pub front_is : front ≡ scheme_front site.scheme ++ host

-- a tag with the front before it, where it begins with a slash
abbrev pub fronted_tag : List ℕ → List ℕ → List ℕ
fronted_tag front text = if is_rooted text then front ++ text else text

abbrev pub fronted_group : List ℕ → Group → Group
fronted_group front group =
    record { tag = option_map (fronted_tag front) group.tag; conditions = group.conditions }

-- there is one value, whose bytes read as these lists once the front stands before such tags
pub record ReadsBehind (front : List ℕ) (values : List FieldValue) (lists : List Located)
    : Type 0 where
  pub value : FieldValue
  pub only : values ≡ value ∷ []
  pub groups : List Group
  pub text : IfText value.bytes groups
  pub resolves : Resolves (map (fronted_group front) groups) lists

-- What the `If` of a request says. Without a front such a tag is no URL.
abbrev pub IfSays : Site → Entries FieldValue → List Located → Type 0
IfSays site headers lists =
    let values = get_all headers (codes "if") in
    ((front : List ℕ) × IsFront site headers front × ReadsBehind front values lists)
    ⊎ (((front : List ℕ) → ¬ IsFront site headers front) × ReadsAs values lists)
