-- The request that the inner service is asked, in which a field names the principal (own).
use Rattle.std.specs.Prelude.{◌≡◌, ℕ, List, []}
use Rattle.http_header.specs.FieldValue.{plain_value}
use Rattle.http_header.specs.HeaderMap.{get_all, insert, remove}
use Rattle.http_uri.specs.Uri.{HasParts, uri_authority, uri_data, uri_scheme}
use Rattle.http.specs.declared.request.Request.{Request}
use Rattle.http.specs.Request.{body_of, head_of}

-- they are alike but for their fields
pub record IsAlikeButFields (old new : Request (List ℕ)) : Type 0 where
  pub method : (head_of new).method ≡ (head_of old).method
  pub uri : HasParts (head_of new).uri (uri_scheme (head_of old).uri) (uri_authority (head_of old).uri) (uri_data (head_of old).uri)
  pub version : (head_of new).version ≡ (head_of old).version
  pub body : body_of new ≡ body_of old

-- One field with the header's name stands in place of all that had it, and its value is the user's name. All else is the same.
pub record AsUser (header name : List ℕ) (old new : Request (List ℕ)) : Type 0 where
  pub fields : (head_of new).headers ≡ insert (head_of old).headers header (plain_value name)
  pub rest : IsAlikeButFields old new

-- No field has the header's name. All else is the same.
pub record AsNobody (header : List ℕ) (old new : Request (List ℕ)) : Type 0 where
  pub unnamed : get_all (head_of new).headers header ≡ []
  pub fields : (head_of new).headers ≡ remove (head_of old).headers header
  pub rest : IsAlikeButFields old new
