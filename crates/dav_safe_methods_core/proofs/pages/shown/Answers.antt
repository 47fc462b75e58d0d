use Rattle.std.proofs.Common.{◌≡◌, ◌∙◌, sym, ap, subst, Bool, true, false, List, ℕ}
use Rattle.std.specs.Prelude.{IfOk, flat_map, if◌then◌else◌}
use Rattle.std.specs.Str.{is_utf8}
use Rattle.std.proofs.lemmas.Bool.{false_from_ne_true}
use Rattle.std.proofs.lemmas.Str.{IsUtf8-from_is_utf8, is_utf8-from_IsUtf8}
use Rattle.dav_path_core.specs.Url.{url}
use Rattle.dav_safe_methods_core.specs.FolderPages.{html_character, page_text}
use Rattle.dav_safe_methods_core.proofs.pages.shown.Goals as goal

-- by what the bytes are
by_test : (bytes : List ℕ) (test : Bool) → is_utf8 bytes ≡ test → (if test then flat_map html_character bytes else url bytes) ≡ page_text bytes
by_test bytes test is = sym (ap (λ b. if b then flat_map html_character bytes else url bytes) is)

pub returns-in-Ok : goal.returns-in-Ok
returns-in-Ok c =
    subst (λ text. IfOk c.escaped_text.result (λ x. x.items ≡ text)) (by_test c.args.bytes.now true (is_utf8-from_IsUtf8 c.args.bytes.now c.in-Ok.ensures.cases.1)) c.escaped_text.ensures

pub returns-in_ok-url_text-in-Err : goal.returns-in_ok-url_text-in-Err
returns-in_ok-url_text-in-Err c =
    ap (λ v. v.items) c.into_bytes.ensures.value ∙ c.in_ok-url_text-in-Err.ensures
    ∙ by_test c.args.bytes.now false (false_from_ne_true _ (λ is. c.in-Err.ensures.cases.0 (IsUtf8-from_is_utf8 c.args.bytes.now is)))
