-- A document that is sent, and that it is XML (RFC 4918 section 8.2).
use Rattle.std.specs.Prelude.{ℕ, List, [], ◌∷◌}
use Rattle.dav_fields_core.specs.AnswerFields.{type_field}
use Rattle.dav_fields_core.specs.Fields.{Sent}
use Rattle.dav_documents_core.specs.RefusalBodies.{xml_type}

abbrev pub document_sent : List ℕ → Sent
document_sent document = record { fields = type_field xml_type ∷ []; body = document }
