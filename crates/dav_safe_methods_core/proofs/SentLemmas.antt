-- What is sent behind other fields.
use Rattle.std.proofs.Common.{◌≡◌, ℕ, List, ◌++◌, Result, Ok, Err, ap, ◌∙◌}
use Rattle.std.specs.Prelude.{IfOk, OnOk}
use Rattle.std.proofs.lemmas.List.{append_assoc}
use Rattle.dav_faults_core.specs.declared.faults.Fault.{Fault}
use Rattle.http_server.specs.Response.{fields_of}
use Rattle.http_server.specs.declared.response.Response.{Response}
use Rattle.http_header.specs.FieldValue.{IsFieldValue}
use Rattle.dav_path_core.specs.PathText.{PathText}
use Rattle.dav_path_core.specs.Url.{url}
use Rattle.dav_documents_core.specs.RefusalBodies.{front, url_path}
use Rattle.dav_documents_core.proofs.VisibleTextLemmas.{joined, url_visible}
use Rattle.dav_fields_core.proofs.DateTextLemmas.{shown_held}
use Rattle.dav_fields_core.specs.Fields.{Field, SendsMore, Sent, sent_behind, nothing_sent, sent_of}

-- by its fields and its body
pub sent_is : (response : Response) (fields : List Field) (body : List ℕ) → fields_of response ≡ fields → response.body.items ≡ body
    → sent_of response ≡ record { fields = fields; body = body }
sent_is response fields body named told = ap (λ f. record { fields = f; body = response.body.items }) named ∙ ap (λ b. record { fields = fields; body = b }) told

-- fields that are added first are the first of what is sent
pub sent_after : (old mid : List Field) (first : List Field) (sent all : Sent) → mid ≡ old ++ first → all ≡ sent_behind mid sent → all ≡ sent_behind old (sent_behind first sent)
sent_after old mid first sent all added is =
    is ∙ ap (λ fields. sent_behind fields sent) added ∙ ap (λ fields. record { fields = fields; body = sent.body }) (append_assoc old first sent.fields)

-- What is sent where something is done; else nothing is.
pub sent_done : (old new : Response) (result : Result ℕ Fault) (Says : ℕ → Sent → Type 0) → IfOk result (λ status. SendsMore old new (Says status))
    → (sent : Sent) × OnOk result (sent_of new ≡ sent_behind (fields_of old) sent) × IfOk result (λ status. Says status sent)
sent_done old new (Ok status) Says h = (h.0, h.1, h.2)
sent_done old new (Err e) Says h = (nothing_sent, tt, tt)

-- a field can hold a URL that stands behind the prefix
pub place_held : (prefix : List ℕ) (path : PathText) → IsFieldValue (url_path prefix path)
place_held prefix path = shown_held (url_path prefix path) (joined (url (front prefix)) (url path.bytes) (url_visible (front prefix)) (url_visible path.bytes))
