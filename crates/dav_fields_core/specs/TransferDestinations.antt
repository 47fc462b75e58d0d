-- Where a COPY or a MOVE leads, and whether it may replace what stands there (RFC 4918 sections 9.8.4, 9.8.5, 10.3 and 10.6).
use Rattle.std.specs.Prelude.{◌≡◌, Bool, true, false, if◌then◌else◌, ℕ, List, [], ◌∷◌, Option, None, Some, IsUtf8, codes}
use Rattle.std.specs.Str.{str_eq_ignore_ascii_case}
use Rattle.http_header.specs.FieldValue.{FieldValue}
use Rattle.http_header.specs.HeaderMap.{Entries, get_all}
use Rattle.url.specs.Parts.{Parts}
use Rattle.dav_path_core.specs.declared.davpath.ParseError.{ParseError}
use Rattle.dav_path_core.specs.declared.davpath.ParseError.TheVariants as parse
use Rattle.dav_path_core.specs.PathText.{PathText}
use Rattle.dav_headers_core.specs.Destinations.{is_rooted}
use Rattle.dav_headers_core.specs.Optional.{◌>>=◌}
use Rattle.dav_headers_core.specs.Urls.{url_of}
use Rattle.dav_headers_core.specs.Values.{one_value}
use Rattle.dav_faults_core.specs.declared.faults.Fault.{Fault}
use Rattle.dav_faults_core.specs.declared.faults.Fault.TheVariants as fault
use Rattle.dav_fields_core.specs.Bases.{IsBase, Site}
use Rattle.dav_faults_core.specs.Faults.{fault_of_path}
use Rattle.dav_fields_core.specs.TaggedLists.{IsSameServer}
use Rattle.dav_fields_core.specs.Targets.{IsPathOf, RefusesPath}

-- ---- where it leads

-- the text of the one `Destination`
pub record NamesText (headers : Entries FieldValue) (text : List ℕ) : Type 0 where
  pub value : FieldValue
  pub one : get_all headers (codes "destination") ≡ value ∷ []
  pub is_text : IsUtf8 value.bytes
  pub text_is : text ≡ value.bytes

-- The path that a text has: the text itself where it begins with a slash; else that of the URL that it spells, where this is one of the server; and none
-- where it is another server's.
pub data LeadsTo (site : Site) (headers : Entries FieldValue) (text : List ℕ) : Option (List ℕ) → Type 0 where
  itself : is_rooted text ≡ true → LeadsTo site headers text (Some text)
  by_url : (url base : Parts) → is_rooted text ≡ false → url_of text ≡ Some url → IsBase site headers base → IsSameServer url base
      → LeadsTo site headers text (Some url.path)
  elsewhere : (url base : Parts) → is_rooted text ≡ false → url_of text ≡ Some url → IsBase site headers base → ¬ IsSameServer url base
      → LeadsTo site headers text None

-- the path that the request leads to, behind the prefix of the server
pub record IsDestination (site : Site) (prefix : List ℕ) (headers : Entries FieldValue) (path : PathText) : Type 0 where
  pub text : List ℕ
  pub names : NamesText headers text
  pub at : List ℕ
  pub leads : LeadsTo site headers text (Some at)
  pub path_of : IsPathOf prefix at path

-- the fault of a request whose path is refused: as of a target, but 502 where it isn't behind the prefix
abbrev pub fault_of : ParseError → Fault
fault_of parse.PrefixMismatch = fault.BadGateway
fault_of e = fault_of_path e

-- Why it leads nowhere: there is no text, or no URL; the request has no host; it is another server's; or its path is refused. Or there is no memory to
-- read it.
pub data LeadsNowhere (site : Site) (prefix : List ℕ) (headers : Entries FieldValue) : Fault → Type 0 where
  memory : LeadsNowhere site prefix headers fault.InsufficientStorage
  no_text : ((text : List ℕ) → ¬ NamesText headers text) → LeadsNowhere site prefix headers fault.BadRequest
  no_url : (text : List ℕ) → NamesText headers text → is_rooted text ≡ false → url_of text ≡ None → LeadsNowhere site prefix headers fault.BadRequest
  no_host : (text : List ℕ) → NamesText headers text → is_rooted text ≡ false → ((base : Parts) → ¬ IsBase site headers base)
      → LeadsNowhere site prefix headers fault.BadRequest
  another : (text : List ℕ) → NamesText headers text → LeadsTo site headers text None → LeadsNowhere site prefix headers fault.BadGateway
  no_path : (text at : List ℕ) (e : ParseError) → NamesText headers text → LeadsTo site headers text (Some at) → RefusesPath prefix at e
      → LeadsNowhere site prefix headers (fault_of e)

-- ---- whether it may replace what stands there

-- `T` or `F`, in either case of letters (RFC 5234 section 2.3)
abbrev pub overwrite_spelled : List ℕ → Option Bool
overwrite_spelled text =
    if str_eq_ignore_ascii_case text (codes "T") then Some true
    else (if str_eq_ignore_ascii_case text (codes "F") then Some false else None)

-- it may where nothing is said; none where the values can't be read, as several can't
abbrev pub overwrites_by : List FieldValue → Option Bool
overwrites_by [] = Some true
overwrites_by values = one_value values >>= overwrite_spelled

abbrev pub overwrites : Entries FieldValue → Option Bool
overwrites headers = overwrites_by (get_all headers (codes "overwrite"))
