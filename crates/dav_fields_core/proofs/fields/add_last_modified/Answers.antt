use Rattle.std.specs.Prelude.{codes}
use Rattle.std.proofs.Common.{refl}
use Rattle.http_server.specs.Response.{fields_of}
use Rattle.dav_fields_core.proofs.FieldLemmas.{field_added}
use Rattle.dav_fields_core.proofs.ReadMarks.{on_ok}
use Rattle.dav_fields_core.proofs.fields.add_last_modified.Goals as goal

pub returns-clause-fields : goal.returns-clause-fields
returns-clause-fields c =
    on_ok c.add_field.result _ _ (λ added. record { date = c.date_bytes.result; dated = c.date_bytes.ensures.date; added = added })
    (field_added c.add_field.result (fields_of c.args.response.now) (fields_of c.add_field.new.response) c.from_static-name.result c.date_bytes.result (codes "last-modified")
    c.date_bytes.result c.add_field.ensures.fields c.from_static-name.ensures refl)
