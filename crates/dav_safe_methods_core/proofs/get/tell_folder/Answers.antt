use Rattle.std.proofs.Common.{◌∙◌, ◌/◌, [], ◌∷◌, ◌++◌, refl, sym, ap, subst, map}
use Rattle.http_server.specs.Response.{fields_of}
use Rattle.dav_files_core.specs.Meta.{meta_of}
use Rattle.dav_fields_core.specs.AnswerFields.{modified_field, type_field}
use Rattle.dav_fields_core.specs.Dates.{IsHttpDate}
use Rattle.dav_fields_core.proofs.FieldLemmas.{both_added}
use Rattle.dav_safe_methods_core.proofs.GetMethodLemmas.{page_known}
use Rattle.dav_path_core.specs.Segments.{segments}
use Rattle.dav_files_core.specs.Listing.{listed_entry, read_dir}
use Rattle.dav_safe_methods_core.specs.FolderPages.{page, page_type}
use Rattle.dav_safe_methods_core.proofs.get.tell_folder.Goals as goal

pub returns-clause-page : goal.returns-clause-page
returns-clause-page g c =
    let kept = c.add_content_type.ensures.body ∙ c.add_last_modified.ensures.body in
    let empty = ap (λ b. b.items) kept ∙ c.requires.empty in (
      map listed_entry c.in_ok-entries.entries.items,
      ap (λ p. read_dir c.args.session.now.stores.stores.map (segments p.bytes)) (sym c.in_ok-copy_of.ensures) ∙ c.in_ok-entries.ensures.ok,
      c.in_ok-push.ensures ∙ ap (λ old. old ++ c.in_ok-from_vec.field-0) empty ∙ c.in_ok-from_vec.ensures.ok ∙ c.in_ok-page.ensures
          ∙ ap (λ xs. page c.args.path.now (map listed_entry xs)) c.deref.ensures.value,
    )

pub returns-clause-ok : goal.returns-clause-ok
returns-clause-ok g c =
    let p = segments c.args.path.now.bytes in
    let old = fields_of c.args.response.now in
    let one = fields_of c.add_last_modified.new.response in
    let two = fields_of c.add_content_type.new.response in
    let says = c.in_ok-add_last_modified.ensures.fields in
    let date = says.date in (
      refl,
      record {
        date = date;
        dated = subst (λ moment. IsHttpDate (moment / 1_000_000_000) date) c.modified_of.ensures says.dated;
        are = both_added old one two (modified_field date ∷ []) (type_field page_type ∷ []) says.added c.in_ok-add_content_type.ensures.fields
            ∙ ap (λ more. old ++ more) (page_known p (meta_of c.args.meta.now) [] date c.requires.folder);
      },
    )
