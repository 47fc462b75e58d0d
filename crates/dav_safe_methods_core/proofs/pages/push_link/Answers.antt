use Rattle.std.proofs.Common.{◌≡◌, ◌++◌, ◌∙◌, ap, refl, List, [], ◌∷◌, ℕ}
use Rattle.std.specs.Prelude.{codes}
use Rattle.dav_path_core.specs.Url.{url}
use Rattle.dav_safe_methods_core.specs.FolderPages as spec
use Rattle.dav_safe_methods_core.proofs.pages.push_link.Goals as goal

-- the line of its pieces
abbrev line : List ℕ → List ℕ → List ℕ → List ℕ → List ℕ → List ℕ
line folder slash name end text = codes "<li><a href=\"" ++ folder ++ slash ++ name ++ end ++ codes "\">" ++ text ++ end ++ codes "</a></li>\n"

-- piece by piece it is one
as_line : (old folder slash name end text : List ℕ)
    → old ++ codes "<li><a href=\"" ++ folder ++ slash ++ name ++ end ++ codes "\">" ++ text ++ end ++ codes "</a></li>\n" ≡ old ++ line folder slash name end text
as_line [] folder slash name end text = refl
as_line (b ∷ old) folder slash name end text = ap (λ s. b ∷ s) (as_line old folder slash name end text)

pub returns : goal.returns
returns c =
    let old = c.args.page.now.items in
    let folder = c.args.folder.now in
    let slash = c.args.slash.now in
    let whole = c.in_ok-extend_from_slice-9.ensures.items ∙ ap (λ s. s ++ codes "</a></li>\n") (c.in_ok-extend_from_slice-8.ensures.items ∙ ap (λ s. s ++ c.end_of-end.result.now) (c.in_ok-extend_from_slice-7.ensures.items ∙ ap (λ s. s ++ c.deref.result.now) (c.in_ok-extend_from_slice-6.ensures.items ∙ ap (λ s. s ++ codes "\">") (c.in_ok-extend_from_slice-5.ensures.items ∙ ap (λ s. s ++ c.end_of-end.result.now) (c.in_ok-extend_from_slice-4.ensures.items ∙ ap (λ s. s ++ c.as_bytes.result.now) (c.in_ok-extend_from_slice-3.ensures.items ∙ ap (λ s. s ++ slash) (c.in_ok-extend_from_slice-2.ensures.items ∙ ap (λ s. s ++ folder) (c.in_ok-extend_from_slice.ensures.items)))))))) in
    let name = c.as_bytes.ensures.value ∙ c.in_ok-name.ensures ∙ ap url c.name.ensures in
    let text = c.deref.ensures.value ∙ c.in_ok-text.ensures ∙ ap spec.page_text c.name-2.ensures in
    whole ∙ as_line old folder slash c.as_bytes.result.now c.end_of-end.result.now c.deref.result.now
    ∙ ap (λ n. old ++ line folder slash n c.end_of-end.result.now c.deref.result.now) name
    ∙ ap (λ e. old ++ line folder slash (url c.args.entry.now.name) e c.deref.result.now) c.end_of-end.ensures
    ∙ ap (λ t. old ++ line folder slash (url c.args.entry.now.name) (spec.name_end c.args.entry.now.meta.kind) t) text
