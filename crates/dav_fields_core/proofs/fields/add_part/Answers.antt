use Rattle.std.proofs.Common.{◌≡◌, ◌∙◌, ◌-◌, ◌∷◌, ◌++◌, List, ℕ, String, string_bytes, ap, arith, subst, sym}
use Rattle.std.specs.Prelude.{codes, decimal}
use Rattle.http_header.specs.FieldValue.{IsFieldValue}
use Rattle.http_server.specs.Response.{fields_of}
use Rattle.dav_fields_core.specs.Ranges.{part_text}
use Rattle.dav_fields_core.proofs.FieldLemmas.{field_added, part_held}
use Rattle.dav_fields_core.proofs.fields.add_part.Goals as goal

-- the text, by its last place
abbrev text : ℕ → ℕ → ℕ → List ℕ
text first size last = codes "bytes " ++ (decimal first ++ (45 ∷ (decimal last ++ (47 ∷ decimal size))))

text_is : (first end size last : ℕ) (bytes told : List ℕ) → bytes ≡ told → told ≡ text first size last → last ≡ end - 1 → bytes ≡ part_text first end size
text_is first end size last bytes told is spelled place = is ∙ spelled ∙ ap (text first size) place

pub returns-clause-fields : goal.returns-clause-fields
returns-clause-fields c =
    field_added c.add_field.result (fields_of c.args.response.now) (fields_of c.add_field.new.response) c.from_static-name.result c.as_bytes.result.now (codes "content-range")
    (part_text c.args.first c.args.end c.args.size) c.add_field.ensures.fields c.from_static-name.ensures
    (text_is c.args.first c.args.end c.args.size c.saturating_sub-last.result c.as_bytes.result.now _ c.as_bytes.ensures.value c.in_ok-text.ensures.ok c.saturating_sub-last.ensures)

pub add_field-requires : goal.add_field-requires
add_field-requires c =
    let is : c.as_bytes.result.now ≡ part_text c.args.first c.args.end c.args.size =
    text_is c.args.first c.args.end c.args.size c.saturating_sub-last.result c.as_bytes.result.now _ c.as_bytes.ensures.value c.in_ok-text.ensures.ok c.saturating_sub-last.ensures in
    subst IsFieldValue (sym is) (part_held c.args.first (c.args.end - 1) c.args.size c.ranges.first.fits (omega (arith, c.ranges.end.fits)) c.ranges.size.fits)
