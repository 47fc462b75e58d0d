use Rattle.std.proofs.Common.{[], ◌∷◌}
use Rattle.http_server.specs.Response.{fields_of}
use Rattle.dav_fields_core.specs.AnswerFields.{token_field}
use Rattle.dav_fields_core.specs.Fields.{sent_of}
use Rattle.dav_safe_methods_core.specs.SentDocuments.{document_sent}
use Rattle.dav_safe_methods_core.proofs.SentLemmas.{sent_after}
use Rattle.dav_methods_core.proofs.methods.lock.tell.Goals as goal

pub returns-clause-sent : goal.returns-clause-sent
returns-clause-sent c =
    sent_after (fields_of c.args.response.now) (fields_of c.add_lock_token.new.response) (token_field c.args.token.now ∷ []) (document_sent c.args.document.items)
    (sent_of c.say_document.new.response) c.in_ok-add_lock_token.ensures.fields c.in_ok-say_document.ensures.sent
