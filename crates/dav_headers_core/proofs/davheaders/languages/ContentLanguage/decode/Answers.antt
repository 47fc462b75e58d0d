use Rattle.std.proofs.Common.{◌≡◌, false}
use Rattle.std.specs.Prelude.{is_some}
use Rattle.dav_headers_core.specs.Values.{texts_of}
use Rattle.dav_headers_core.proofs.texts.LanguageLemmas.{no_texts, all_values_are_texts}
use Rattle.dav_headers_core.proofs.davheaders.languages.ContentLanguage.decode.Goals as goal

pub returns-then-not-have_texts-clause-value : goal.returns-then-not-have_texts-clause-value
returns-then-not-have_texts-clause-value c =
    let none : is_some (texts_of c.args.values.now) ≡ false = cc in no_texts c.args.values.now none

pub invariant_of-result : goal.invariant_of-result
invariant_of-result c = all_values_are_texts c.args.values.now _ c.in_ok-languages_of_all_values.ensures
