use Rattle.std.proofs.Common.{◌/◌, refl, ap, ◌∙◌, subst}
use Rattle.std.specs.Prelude.{string_bytes}
use Rattle.dav_path_core.specs.Segments.{segments}
use Rattle.dav_files_core.specs.Meta.{meta_of}
use Rattle.dav_fields_core.specs.ContentTypes.{content_type}
use Rattle.dav_fields_core.specs.FileTags.{file_tag}
use Rattle.dav_safe_methods_core.specs.PropertyAnswers.{place_url}
use Rattle.dav_fields_core.specs.Dates.{IsHttpDate, IsInternetDate}
use Rattle.dav_safe_methods_core.proofs.describing.described.Goals as goal

pub returns-clause-ok : goal.returns-clause-ok
returns-clause-ok c =
    let known = meta_of c.args.found.meta in
    record {
      url_is = c.in_ok-place_url.ensures ∙ ap (place_url c.args.prefix.now (segments c.args.place.now.bytes)) c.is_folder-folder.ensures;
      folder_is = c.is_folder-folder.ensures;
      size_is = c.len.ensures;
      type_is = c.content_type.ensures ∙ ap content_type c.last_segment.ensures;
      tag_is = c.in_ok-tag_of.ensures.ok ∙ ap (λ n. file_tag n c.len-2.result) c.modified_of.ensures ∙ ap (file_tag known.modified) c.len-2.ensures;
      created_is = subst (λ n. IsInternetDate (n / 1_000_000_000) (string_bytes c.in_ok-internet_date.field-0)) c.created_of.ensures c.in_ok-internet_date.ensures;
      modified_is = subst (λ n. IsHttpDate (n / 1_000_000_000) (string_bytes c.in_ok-http_date.field-0)) c.modified_of-2.ensures c.in_ok-http_date.ensures;
      props_are = refl;
      locks_are = refl;
    }
