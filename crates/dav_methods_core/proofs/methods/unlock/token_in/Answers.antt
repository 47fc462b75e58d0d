use Rattle.std.proofs.Common.{◌≡◌, ◌≢◌, ℕ, List, ◌∷◌, sym, ◌∙◌, subst, lit<}
use Rattle.std.specs.Prelude.{IsUtf8}
use Rattle.std.proofs.lemmas.Str.Pattern.{strip_prefix_char, strip_suffix_char}
use Rattle.dav_methods_core.proofs.TokenTexts.{closed_by, unopened}
use Rattle.dav_methods_core.proofs.methods.unlock.token_in.Goals as goal

pub returns-in_default-strip_prefix : goal.returns-in_default-strip_prefix
returns-in_default-strip_prefix c =
    let front = strip_prefix_char 60 c.in-Ok.text.now _ c.strip_prefix.ensures.cases (lit< tt) in
    let none : (rest : List ℕ) → c.in-Ok.text.now ≢ 60 ∷ rest = rw c.in_default-strip_prefix.is at front in
    unopened c.args.value.now.bytes (λ rest h. none rest (c.in-Ok.ensures.cases.0 ∙ c.as_bytes.ensures.value ∙ h))

pub returns : goal.returns
returns c =
    let front = strip_prefix_char 60 c.in-Ok.text.now _ c.strip_prefix.ensures.cases (lit< tt) in
    let opens : c.in-Ok.text.now ≡ 60 ∷ c.in-Some.rest.now = rw c.in-Some.is at front in
    let value = c.in-Ok.ensures.cases in
    closed_by c.args.value.now.bytes c.in-Some.rest.now c.strip_suffix.result (subst IsUtf8 c.as_bytes.ensures.value value.1) (sym c.as_bytes.ensures.value ∙ sym value.0 ∙ opens)
    (strip_suffix_char 62 c.in-Some.rest.now _ c.strip_suffix.ensures.cases (lit< tt))
