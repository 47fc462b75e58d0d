-- Where the URLs of a request begin (RFC 9112 sections 3.2.2 and 3.3).
use Rattle.std.specs.Prelude.{◌≡◌, ℕ, List, [], ◌∷◌, ◌++◌, Option, None, Some, IsUtf8, codes}
use Rattle.http_header.specs.FieldValue.{FieldValue}
use Rattle.http_header.specs.HeaderMap.{Entries, get_all}
use Rattle.http_uri.specs.declared.uri.Uri.{Uri}
use Rattle.http_uri.specs.Uri.{uri_authority}
use Rattle.url.specs.Parts.{Parts}
use Rattle.dav_headers_core.specs.Urls.{url_of}
use Rattle.dav_fields_core.specs.declared.bases.Scheme.{Scheme}
use Rattle.dav_fields_core.specs.declared.bases.Scheme.TheVariants.{Http, Https}

-- what stands in front of the host in a URL
abbrev pub scheme_front : Scheme → List ℕ
scheme_front Http = codes "http://"
scheme_front Https = codes "https://"

-- the text of a URL by its scheme, and its host and port
abbrev pub base_text : Scheme → List ℕ → List ℕ
base_text scheme host = scheme_front scheme ++ (host ++ codes "/")

-- where a request is sent: the scheme of the server, and the host and port of the target, where it
-- is in absolute form
pub record Site : Type 0 where
  pub scheme : Scheme
  pub host : Option (List ℕ)

abbrev pub site_of : Scheme → Uri → Site
site_of scheme uri = record { scheme = scheme; host = uri_authority uri }

-- the text of the one `Host`
pub record IsHostField (headers : Entries FieldValue) (host : List ℕ) : Type 0 where
  pub value : FieldValue
  pub one : get_all headers (codes "host") ≡ value ∷ []
  pub is_text : IsUtf8 value.bytes
  pub host_is : host ≡ value.bytes

-- the host and port of a request: those of its target, which then count alone, and else those of its
-- `Host`
abbrev pub NamesHost : Option (List ℕ) → Entries FieldValue → List ℕ → Type 0
NamesHost (Some authority) headers host = host ≡ authority
NamesHost None headers host = IsHostField headers host

-- where the URLs of a request begin: with the scheme of the server, and the host and port
abbrev pub IsBase : Site → Entries FieldValue → Parts → Type 0
IsBase site headers base =
    (host : List ℕ) × NamesHost site.host headers host
    × (url_of (base_text site.scheme host) ≡ Some base)
