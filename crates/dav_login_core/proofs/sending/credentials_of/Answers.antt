use Rattle.std.proofs.Common.{ℕ, List, Option, ◌∙◌, subst, ap}
use Rattle.http_header.specs.FieldValue.{FieldValue}
use Rattle.http_header.specs.HeaderMap.{get_all}
use Rattle.dav_users_core.specs.Basic.{GivesCredentials, given_by}
use Rattle.dav_login_core.specs.Sending.{given_in_field, only}
use Rattle.dav_login_core.proofs.sending.credentials_of.Goals as goal

pub returns-in-Some : goal.returns-in-Some
returns-in-Some c =
    subst (λ (field : Option FieldValue). GivesCredentials c.read.result (given_in_field field))
    (c.in-Some.ensures ∙ ap (λ n. only (get_all c.args.headers.now n)) c.from_static.ensures)
    (subst (λ (bytes : List ℕ). GivesCredentials c.read.result (given_by bytes)) c.as_bytes.ensures.value c.read.ensures)
