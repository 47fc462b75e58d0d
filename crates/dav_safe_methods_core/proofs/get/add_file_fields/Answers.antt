use Rattle.std.proofs.Common.{◌≡◌, ◌/◌, None, [], ◌∷◌, ◌++◌, ap, sym, ◌∙◌, subst}
use Rattle.http_header.specs.FieldValue.{IsFieldValue}
use Rattle.http_server.specs.Response.{fields_of}
use Rattle.dav_path_core.specs.Segments.{segments}
use Rattle.dav_files_core.specs.Meta.{meta_of}
use Rattle.dav_fields_core.specs.AnswerFields.{modified_field, ranges_field, tag_fields, type_field}
use Rattle.dav_fields_core.specs.ContentTypes.{content_type}
use Rattle.dav_fields_core.specs.Dates.{IsHttpDate}
use Rattle.dav_fields_core.specs.Getting.{tags_by}
use Rattle.dav_fields_core.proofs.FieldLemmas.{both_added}
use Rattle.dav_fields_core.proofs.ReadMarks.{on_ok}
use Rattle.dav_fields_core.proofs.TypeLemmas.{type_held}
use Rattle.dav_safe_methods_core.specs.PropertyAnswers.{last_or}
use Rattle.dav_safe_methods_core.proofs.GetMethodLemmas.{file_known, name_is_last}
use Rattle.dav_safe_methods_core.proofs.get.add_file_fields.Goals as goal

pub returns-clause-fields : goal.returns-clause-fields
returns-clause-fields c =
    let p = segments c.args.path.now.bytes in
    let old = fields_of c.args.response.now in
    let one = fields_of c.add_tag.new.response in
    let two = fields_of c.add_last_modified.new.response in
    let three = fields_of c.add_content_type.new.response in
    let four = fields_of c.add_accept_ranges.new.response in
    let says = c.in_ok-add_last_modified.ensures.fields in
    let date = says.date in
    let type = type_field (content_type (last_or [] p)) in
    let third : three ≡ two ++ type ∷ [] =
    c.in_ok-add_content_type.ensures.fields ∙ ap (λ text. two ++ type_field text ∷ []) (c.content_type.ensures ∙ ap content_type (c.file_name_bytes.ensures ∙ name_is_last None p)) in
    on_ok c.add_accept_ranges.result _ _ (λ fourth. record {
      date = date;
      dated = subst (λ moment. IsHttpDate (moment / 1_000_000_000) date) c.modified_of.ensures says.dated;
      are = both_added old one four (tag_fields (tags_by c.args.standing.now)) (modified_field date ∷ type ∷ ranges_field ∷ []) c.in_ok-add_tag.ensures.fields
          (both_added one two four (modified_field date ∷ []) (type ∷ ranges_field ∷ []) says.added (both_added two three four (type ∷ []) (ranges_field ∷ []) third fourth))
          ∙ ap (λ more. old ++ more) (file_known p (meta_of c.args.meta.now) (tags_by c.args.standing.now) date c.requires.file);
    }) c.add_accept_ranges.ensures.fields

pub add_content_type-requires : goal.add_content_type-requires
add_content_type-requires c = subst IsFieldValue (sym c.content_type.ensures) (type_held c.file_name_bytes.result.now)
