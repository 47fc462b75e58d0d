use Rattle.std.proofs.Common.{◌≡◌, [], ◌∷◌, arith, sym, ap, ◌∙◌, length}
use Rattle.std.proofs.lemmas.Result.{err_from_is_err_and}
use Rattle.dav_headers_core.specs.HeaderGives.{Refuses}
use Rattle.dav_headers_core.specs.Private.IfReading.{decoded_lists}
use Rattle.dav_headers_core.proofs.ifs.ResolvingLemmas.{one_value, refused_for_memory, decodes, reads}
use Rattle.dav_headers_core.proofs.lists.OptionalLemmas.{some_is}
use Rattle.dav_headers_core.proofs.davheaders.if_headers.If.decode.Goals as goal

pub returns-in_err-lists_of-in-len1-clause-only : goal.returns-in_err-lists_of-in-len1-clause-only
returns-in_err-lists_of-in-len1-clause-only c lists h =
    let p = err_from_is_err_and c.from_residual.result c.from_residual.ensures.1 in
    let value = c.value-item.result in
    let one : length c.args.values.now ≡ 1 = omega arith in
    let only : c.args.values.now ≡ value ∷ [] = one_value c.args.values.now value one c.value-item.is in
    let refused : Refuses c.in_err-lists_of-in-len1.field-0.0 (decoded_lists value.bytes) = rw (← c.as_bytes.ensures.value) c.in_err-lists_of-in-len1.ensures in
    rw (p.1, p.2) (refused_for_memory c.in_err-lists_of-in-len1.field-0.0 (decoded_lists value.bytes) lists refused (decodes c.args.values.now value lists only h))

pub returns-in_ok-lists_of-in-len1-clause-ok : goal.returns-in_ok-lists_of-in-len1-clause-ok
returns-in_ok-lists_of-in-len1-clause-ok c =
    let value = c.value-item.result in
    let one : length c.args.values.now ≡ 1 = omega arith in
    let only : c.args.values.now ≡ value ∷ [] = one_value c.args.values.now value one c.value-item.is in
    reads c.args.values.now value _ only (ap decoded_lists (sym c.as_bytes.ensures.value) ∙ c.in_ok-lists_of-in-len1.ensures)

pub returns-in_ok-lists_of-in-len1-clause-only : goal.returns-in_ok-lists_of-in-len1-clause-only
returns-in_ok-lists_of-in-len1-clause-only c lists h =
    let value = c.value-item.result in
    let one : length c.args.values.now ≡ 1 = omega arith in
    let only : c.args.values.now ≡ value ∷ [] = one_value c.args.values.now value one c.value-item.is in
    some_is _ _ (sym c.in_ok-lists_of-in-len1.ensures ∙ ap decoded_lists c.as_bytes.ensures.value ∙ decodes c.args.values.now value lists only h)
