use Rattle.std.proofs.Common.{◌≡◌, ◌++◌, ◌∷◌, [], ◌<◌, suc, arith, sym, ap, ◌∙◌, length, map, Some}
use Rattle.std.proofs.lemmas.Result.{err_from_is_err_and}
use Rattle.std.proofs.lemmas.List.{map_push}
use Rattle.std.proofs.lemmas.Bool.{eqb-true, eqb-false}
use Rattle.dav_headers_core.specs.Private.IfReading.{skip_blanks, group_at, groups_at}
use Rattle.dav_headers_core.specs.HeaderGives.{Refuses}
use Rattle.dav_headers_core.specs.Urls.{url_of}
use Rattle.dav_headers_core.specs.IfValues.{located_list}
use Rattle.dav_headers_core.proofs.ifs.IfLoopLemmas.{lists_end, lists_on, lists_fail}
use Rattle.dav_headers_core.proofs.davheaders.if_headers.lists.lists_at.Goals as goal

pub returns-then-is_empty : goal.returns-then-is_empty
returns-then-is_empty c =
    let n = suc (length c.args.bytes.now) in
    let lt : c.loop.counter < n = omega arith in
    let none : length (skip_blanks c.loop.rest.now) ≡ 0 = rw (← c.trim_blanks-at.ensures) (eqb-true _ 0 (sym c.is_empty.ensures ∙ c.if-is_empty.true)) in
    lists_end (map located_list c.loop.lists.items) n c.loop.counter c.loop.rest.now (groups_at url_of n c.args.bytes.now) lt none c.loop.invariant

pub returns-in_err-list : goal.returns-in_err-list
returns-in_err-list c =
    let p = err_from_is_err_and c.from_residual.result c.from_residual.ensures.1 in
    let n = suc (length c.args.bytes.now) in
    let lt : c.loop.counter < n = omega arith in
    let left : length (skip_blanks c.loop.rest.now) ≡ 0 → ⊥ = λ e. eqb-false (length c.trim_blanks-at.result.now) 0 (sym c.is_empty.ensures ∙ c.if-is_empty.false) (ap length c.trim_blanks-at.ensures ∙ e) in
    let refused : Refuses c.in_err-list.field-0.0 (group_at url_of (skip_blanks c.loop.rest.now)) = rw (← c.trim_blanks-at.ensures) c.in_err-list.ensures in
    rw (p.1, p.2) (lists_fail (map located_list c.loop.lists.items) n c.loop.counter c.loop.rest.now c.in_err-list.field-0.0 (groups_at url_of n c.args.bytes.now) lt left refused c.loop.invariant)

pub loop-preserved : goal.loop-preserved
loop-preserved c =
    let n = suc (length c.args.bytes.now) in
    let lt : c.loop.counter < n = omega arith in
    let one = located_list c.in_ok-list.list in
    let pushed : map located_list c.push.new.self.items ≡ map located_list c.loop.lists.items ++ one ∷ [] = rw c.in_ok-push.ensures.items (map_push located_list c.loop.lists.items c.in_ok-list.list) in
    let left : length (skip_blanks c.loop.rest.now) ≡ 0 → ⊥ = λ e. eqb-false (length c.trim_blanks-at.result.now) 0 (sym c.is_empty.ensures ∙ c.if-is_empty.false) (ap length c.trim_blanks-at.ensures ∙ e) in
    let found : group_at url_of (skip_blanks c.loop.rest.now) ≡ Some (one, c.in_ok-list.after.now) = ap (group_at url_of) (sym c.trim_blanks-at.ensures) ∙ c.in_ok-list.ensures in
    rw pushed (lists_on (map located_list c.loop.lists.items) n c.loop.counter c.loop.rest.now one c.in_ok-list.after.now (groups_at url_of n c.args.bytes.now) lt left found c.loop.invariant)
