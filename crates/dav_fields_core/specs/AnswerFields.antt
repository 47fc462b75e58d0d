-- The header fields that answers have, each by its value (RFC 9110 sections 6.6.1, 8.3, 8.8, 10.2, 14.3 and 14.4, RFC 4918 sections 10.1 and 10.5).
use Rattle.std.specs.Prelude.{◌≡◌, ℕ, ◌/◌, List, [], ◌∷◌, ◌++◌, map, codes}
use Rattle.dav_fields_core.specs.Dates.{IsHttpDate}
use Rattle.dav_fields_core.specs.Fields.{Field, in_brackets}

-- a second as HTTP writes it: when the answer was made
abbrev pub date_field : List ℕ → Field
date_field date = (codes "date", date)

-- and when what is told was changed last
abbrev pub modified_field : List ℕ → Field
modified_field date = (codes "last-modified", date)

-- it is added, of a moment in nanoseconds
pub record AddsModified (moment : ℕ) (old new : List Field) : Type 0 where
  pub date : List ℕ
  pub dated : IsHttpDate (moment / 1_000_000_000) date
  pub added : new ≡ old ++ modified_field date ∷ []

abbrev pub tag_field : List ℕ → Field
tag_field tag = (codes "etag", tag)

-- one for each tag: a file has one, a folder none
abbrev pub tag_fields : List (List ℕ) → List Field
tag_fields tags = map tag_field tags

abbrev pub type_field : List ℕ → Field
type_field type = (codes "content-type", type)

-- which part of a file the body is, or how long the file is that has no such part
abbrev pub part_field : List ℕ → Field
part_field part = (codes "content-range", part)

-- ranges of bytes are served
abbrev pub ranges_field : Field
ranges_field = (codes "accept-ranges", codes "bytes")

abbrev pub token_field : List ℕ → Field
token_field token = (codes "lock-token", in_brackets token)

-- the methods that are taken
abbrev pub allow_field : List ℕ → Field
allow_field methods = (codes "allow", methods)

-- the path of the URL at which something was made (RFC 9110 section 15.3.2)
abbrev pub location_field : List ℕ → Field
location_field url = (codes "location", url)

-- what an OPTIONS tells: classes 1 and 2, all methods that are served, and that a client may write by WebDAV
abbrev pub options_fields : List Field
options_fields =
    (codes "dav", codes "1, 2")
    ∷ allow_field (codes "OPTIONS, GET, HEAD, PUT, DELETE, COPY, MOVE, MKCOL, PROPFIND, PROPPATCH, LOCK, UNLOCK")
    ∷ (codes "ms-author-via", codes "DAV") ∷ []

-- the fields that stand first in every answer, by its date
abbrev pub first_fields : List ℕ → List Field
first_fields date = date_field date ∷ []
