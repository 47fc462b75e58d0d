use Rattle.std.proofs.Common.{◌≡◌, true}
use Rattle.std.specs.List.{list_all}
use Rattle.dav_headers_core.specs.Values.{is_text_byte}
use Rattle.dav_headers_core.proofs.texts.LanguageLemmas.{languages_are_texts}
use Rattle.dav_headers_core.proofs.davheaders.languages.ContentLanguage.from_str.Goals as goal

pub invariant_of-result : goal.invariant_of-result
invariant_of-result c =
    let visible : list_all is_text_byte c.args.value.now ≡ true = cc in
    languages_are_texts c.args.value.now _ visible c.in_ok-languages_of_text.ensures
