-- What a request sends of its sender, by its fields `Authorization` (RFC 9110 section 11.6.2).
use Rattle.std.specs.Prelude.{◌≡◌, List, [], ◌∷◌, codes, Option, None, Some}
use Rattle.http_header.specs.FieldValue.{FieldValue}
use Rattle.http_header.specs.HeaderMap.{Entries, get_all}
use Rattle.http.specs.declared.request.Parts.{Parts}
use Rattle.dav_users_core.specs.Basic.{NameAndPassword, given_by}

-- the one value; several say nothing
abbrev pub only : List FieldValue → Option FieldValue
only [] = None
only (value ∷ []) = Some value
only (value ∷ other ∷ values) = None

abbrev pub given_in_field : Option FieldValue → Option NameAndPassword
given_in_field None = None
given_in_field (Some value) = given_by value.bytes

-- the name and the password that the one field gives
abbrev pub name_and_password_sent : Entries FieldValue → Option NameAndPassword
name_and_password_sent headers = given_in_field (only (get_all headers (codes "authorization")))

-- it asks what is served, and has no `Authorization` (RFC 9110 section 9.3.7)
pub record AsksOptions (head : Parts) : Type 0 where
  pub method : head.method ≡ codes "OPTIONS"
  pub unsigned : get_all head.headers (codes "authorization") ≡ []
