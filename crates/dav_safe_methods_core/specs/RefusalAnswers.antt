-- How an answer tells of a refusal: by its document, by the methods that are taken, or by its status
-- alone (RFC 4918 section 16, RFC 9110 section 15.5.6).
use Rattle.std.specs.Prelude.{◌≡◌, ◌⊎◌, ℕ, Bool, true, false, List, [], ◌∷◌, codes, None, Some}
use Rattle.http_server.specs.Response.{IsResponse}
use Rattle.http_server.specs.declared.response.Response.{Response}
use Rattle.dav_xml_core.specs.Writing.{document_bytes}
use Rattle.dav_faults_core.specs.Faults.{fault_status}
use Rattle.dav_faults_core.specs.declared.faults.Fault.{Fault}
use Rattle.dav_faults_core.specs.declared.faults.Fault.TheVariants as fault
use Rattle.dav_fields_core.specs.AnswerFields.{allow_field}
use Rattle.dav_fields_core.specs.Fields.{Field, Sent, sent_behind, nothing_sent, sent_of}
use Rattle.dav_documents_core.specs.RefusalBodies.{refusal_nodes}
use Rattle.dav_safe_methods_core.specs.SentDocuments.{document_sent}

-- ---- what is sent

-- the methods that a folder takes, or a file: each that is served but those that make something new
-- in its place (RFC 9110 section 10.2.1)
abbrev pub methods_of : Bool → List ℕ
methods_of true =
    codes "OPTIONS, GET, HEAD, DELETE, COPY, MOVE, PROPFIND, PROPPATCH, LOCK, UNLOCK"
methods_of false =
    codes "OPTIONS, GET, HEAD, PUT, DELETE, COPY, MOVE, PROPFIND, PROPPATCH, LOCK, UNLOCK"

-- a 405 tells the methods that what stands there takes
abbrev pub methods_told : Fault → List Field
methods_told (fault.MethodNotAllowed folder) = allow_field (methods_of folder) ∷ []
methods_told e = []

-- the document that says why, where there is one
abbrev pub refusal_sent : List ℕ → Fault → Sent
refusal_sent prefix e = elim (refusal_nodes prefix e) [
  | Some nodes ↦ document_sent (document_bytes nodes)
  | None ↦ record { fields = methods_told e; body = [] }
]

-- ---- each refusal

-- It is told by more than its status: a 207 has a body (RFC 4918 section 13), and a 405 tells of
-- methods (RFC 9110 section 15.5.6).
abbrev pub NeedsMore : Fault → Type 0
NeedsMore e = (fault_status e ≡ 207) ⊎ (fault_status e ≡ 405)

-- What is sent says why, behind these fields; or, where there is no memory for that and its status
-- is enough, nothing is sent.
abbrev pub TellsWhy : List Field → List ℕ → Fault → Sent → Type 0
TellsWhy first prefix e sent =
    (sent ≡ sent_behind first (refusal_sent prefix e))
    ⊎ ((¬ NeedsMore e) × (sent ≡ nothing_sent))

-- By its status and why; or by 507 alone, where its status isn't enough and there is no memory for
-- more.
abbrev pub IsToldOf : List Field → List ℕ → Fault → Response → Type 0
IsToldOf first prefix e response =
    ((response.status ≡ fault_status e) × TellsWhy first prefix e (sent_of response))
    ⊎ (NeedsMore e × IsResponse 507 [] [] response)

-- the status where nothing is told beside it: 507 where that isn't enough
abbrev pub status_alone : Fault → ℕ
status_alone (fault.MemberLocked path) = 507
status_alone (fault.ConflictingMember at path) = 507
status_alone (fault.MethodNotAllowed folder) = 507
status_alone e = fault_status e
