-- Which resource a list of an `If` speaks of (RFC 4918 sections 10.4.2 and 10.4.4).
use Rattle.std.specs.Prelude.{◌≡◌, ℕ, List, [], ◌∷◌, Option, None, Some, option_map}
use Rattle.std.specs.Option.{option_or}
use Rattle.url.specs.Host.{host_text}
use Rattle.url.specs.Parts.{Parts, nonempty_host}
use Rattle.dav_path_core.specs.Fronts.{Path}
use Rattle.dav_path_core.specs.PathText.{PathText}
use Rattle.dav_path_core.specs.Segments.{segments}
use Rattle.dav_headers_core.specs.IfValues.{Located}
use Rattle.dav_fields_core.specs.Targets.{IsPathOf}

-- A resource tag is for all lists up to the next one. Each list with the tag that counts for it, where this one counts for the first.
abbrev pub spread_from : Option Parts → List Located → List Located
spread_from tag [] = []
spread_from tag (l ∷ lists) =
    let own = option_or l.tag tag in record l { tag = own } ∷ spread_from own lists

abbrev pub spread_tags : List Located → List Located
spread_tags lists = spread_from None lists

-- where a server's URLs begin: a URL with its scheme, host and port, and the prefix of its paths
pub record Base : Type 0 where
  pub url : Parts
  pub prefix : List ℕ

-- that of a request for a path
abbrev pub base_of : Parts → PathText → Base
base_of url here = record { url = url; prefix = here.prefix }

-- the scheme, the host and the port are the same; a port that a scheme has anyway is not told
pub record IsSameServer (a b : Parts) : Type 0 where
  pub scheme : a.scheme ≡ b.scheme
  pub host : option_map host_text (nonempty_host a) ≡ option_map host_text (nonempty_host b)
  pub port : a.port ≡ b.port

-- the URL is that of a path on the server
pub record IsNamed (base : Base) (url : Parts) (p : Path) : Type 0 where
  pub same : IsSameServer url base.url
  pub path : PathText
  pub path_of : IsPathOf base.prefix url.path path
  pub at : p ≡ segments path.bytes

-- the path that the URL names on the server; nothing where it names none
abbrev pub NamesByUrl : Base → Parts → Option Path → Type 0
NamesByUrl base url (Some p) = IsNamed base url p
NamesByUrl base url None = (p : Path) → ¬ IsNamed base url p

-- the path that a list with this tag speaks of: the request's own without a tag
abbrev pub SpeaksOf : Base → Path → Option Parts → Option Path → Type 0
SpeaksOf base here None at = at ≡ Some here
SpeaksOf base here (Some url) at = NamesByUrl base url at

-- what a contract sees of a path that a list speaks of
abbrev pub spoken_path : Option PathText → Option Path
spoken_path at = option_map (λ (path : PathText). segments path.bytes) at
