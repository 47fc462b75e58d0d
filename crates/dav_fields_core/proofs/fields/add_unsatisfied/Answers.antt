use Rattle.std.proofs.Common.{◌≡◌, ◌∙◌, subst, sym}
use Rattle.std.specs.Prelude.{codes}
use Rattle.http_header.specs.FieldValue.{IsFieldValue}
use Rattle.http_server.specs.Response.{fields_of}
use Rattle.dav_fields_core.specs.Ranges.{unsatisfied_text}
use Rattle.dav_fields_core.proofs.FieldLemmas.{field_added, unsatisfied_held}
use Rattle.dav_fields_core.proofs.fields.add_unsatisfied.Goals as goal

pub returns-clause-fields : goal.returns-clause-fields
returns-clause-fields c =
    field_added c.add_field.result (fields_of c.args.response.now) (fields_of c.add_field.new.response) c.from_static-name.result c.as_bytes.result.now (codes "content-range")
    (unsatisfied_text c.args.size) c.add_field.ensures.fields c.from_static-name.ensures (c.as_bytes.ensures.value ∙ c.in_ok-text.ensures.ok)

pub add_field-requires : goal.add_field-requires
add_field-requires c =
    let is : c.as_bytes.result.now ≡ unsatisfied_text c.args.size = c.as_bytes.ensures.value ∙ c.in_ok-text.ensures.ok in
    subst IsFieldValue (sym is) (unsatisfied_held c.args.size c.ranges.size.fits)
