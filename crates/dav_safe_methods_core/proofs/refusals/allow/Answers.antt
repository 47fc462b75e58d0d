use Rattle.std.proofs.Common.{[], ◌∷◌, ◌++◌, List, ℕ, ap, ◌∙◌}
use Rattle.http_server.specs.Response.{fields_of}
use Rattle.dav_fields_core.specs.AnswerFields.{allow_field}
use Rattle.dav_safe_methods_core.proofs.refusals.allow.Goals as goal

pub returns-clause-fields : goal.returns-clause-fields
returns-clause-fields c =
    let old = fields_of c.args.response.now in
    c.in_ok-add_header.ensures.headers ∙ ap (λ name. old ++ (name, c.methods_of.result.bytes) ∷ []) c.from_static.ensures
    ∙ ap (λ (methods : List ℕ). old ++ allow_field methods ∷ []) c.methods_of.ensures
