use Rattle.std.proofs.Common.{[], ◌∷◌, ◌++◌, codes, ap, ◌∙◌}
use Rattle.http_server.specs.Response.{fields_of}
use Rattle.dav_documents_core.specs.RefusalBodies.{xml_type}
use Rattle.dav_fields_core.specs.AnswerFields.{type_field}
use Rattle.dav_fields_core.proofs.FieldLemmas.{constant_added}
use Rattle.dav_safe_methods_core.proofs.SentLemmas.{sent_is}
use Rattle.dav_safe_methods_core.proofs.refusals.say_document.Goals as goal

pub returns-clause-sent : goal.returns-clause-sent
returns-clause-sent c =
    let old = fields_of c.args.response.now in
    sent_is (record { status = c.add_header.new.self.status; headers = c.add_header.new.self.headers; body = c.push.new.self }) (old ++ type_field xml_type ∷ []) c.args.document.items
    (constant_added old (fields_of c.add_header.new.self) c.from_static.result c.from_static-2.result (codes "content-type") xml_type c.in_ok-add_header.ensures.headers c.from_static.ensures
    c.from_static-2.ensures)
    (c.in_ok-push.ensures ∙ ap (λ front. front ++ c.in_ok-from_vec.field-0) (ap (λ b. b.items) c.add_header.ensures.body ∙ c.requires) ∙ c.in_ok-from_vec.ensures.ok)
