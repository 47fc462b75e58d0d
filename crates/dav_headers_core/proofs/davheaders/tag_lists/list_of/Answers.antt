use Rattle.std.proofs.Common.{◌≡◌, refl, sym, ◌∙◌, true, false, length, Some, None}
use Rattle.std.proofs.lemmas.Bool.{eqb-false}
use Rattle.std.proofs.lemmas.Result.{err_from_is_err_and}
use Rattle.dav_headers_core.proofs.tags.StarLemmas.{header_read}
use Rattle.dav_headers_core.proofs.davheaders.tag_lists.list_of.Goals as goal

pub returns-in_err-tags_of-in-Some-false : goal.returns-in_err-tags_of-in-Some-false
returns-in_err-tags_of-in-Some-false c =
    let p = err_from_is_err_and c.from_residual.result c.from_residual.ensures.1 in
    let values = c.args.values.now in
    let some : length values ≡ 0 → ⊥ = eqb-false (length values) 0 (sym c.is_empty.ensures ∙ c.if-is_empty.false) in
    rw (p.1, p.2, header_read values (Some false) some cc) refl

pub returns-in-Some-true : goal.returns-in-Some-true
returns-in-Some-true c =
    let values = c.args.values.now in
    let some : length values ≡ 0 → ⊥ = eqb-false (length values) 0 (sym c.is_empty.ensures ∙ c.if-is_empty.false) in
    header_read values (Some true) some cc

pub returns-in_ok-tags_of-in-Some-false : goal.returns-in_ok-tags_of-in-Some-false
returns-in_ok-tags_of-in-Some-false c =
    let values = c.args.values.now in
    let some : length values ≡ 0 → ⊥ = eqb-false (length values) 0 (sym c.is_empty.ensures ∙ c.if-is_empty.false) in
    rw (header_read values (Some false) some cc, c.in_ok-tags_of-in-Some-false.ensures) refl

pub returns-in-None : goal.returns-in-None
returns-in-None c =
    let values = c.args.values.now in
    let some : length values ≡ 0 → ⊥ = eqb-false (length values) 0 (sym c.is_empty.ensures ∙ c.if-is_empty.false) in
    header_read values None some cc
