use Rattle.std.proofs.Common.{◌∙◌}
use Rattle.std.specs.Prelude.{codes}
use Rattle.http_server.specs.Response.{fields_of}
use Rattle.dav_fields_core.specs.Fields.{in_brackets}
use Rattle.dav_fields_core.proofs.FieldLemmas.{field_added}
use Rattle.dav_fields_core.proofs.fields.add_lock_token.Goals as goal

pub returns-clause-fields : goal.returns-clause-fields
returns-clause-fields c =
    field_added c.add_field.result (fields_of c.args.response.now) (fields_of c.add_field.new.response) c.from_static-name.result c.as_bytes.result.now (codes "lock-token")
    (in_brackets c.args.token.now) c.add_field.ensures.fields c.from_static-name.ensures (c.as_bytes.ensures.value ∙ c.in_ok-text.ensures.ok)
