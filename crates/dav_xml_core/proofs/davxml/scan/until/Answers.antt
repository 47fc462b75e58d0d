use Rattle.std.proofs.Common.{◌≡◌, sym, ap, ◌∙◌, true, false, nat_eq, drop, List, ℕ, ◌+◌, length}
use Rattle.std.specs.List.{starts_with}
use Rattle.std.proofs.lemmas.List.{take_rest}
use Rattle.dav_xml_core.proofs.ScanLemmas.{found_at, goes_on}
use Rattle.dav_xml_core.proofs.davxml.scan.until.Goals as goal

pub returns-then-starts_with : goal.returns-then-starts_with
returns-then-starts_with c =
    let text = c.args.text.now in
    let mark = c.args.mark.now in
    let hit : starts_with nat_eq (drop c.loop-i.i text) mark ≡ true = ap (λ (t : List ℕ). starts_with nat_eq t mark) (sym (take_rest text c.loop-i.i)) ∙ sym c.starts_with.ensures.value ∙ c.if-starts_with.true in
    rw (take_rest text (c.loop-i.i + length mark)) (found_at mark text c.loop-i.i _ c.loop-i-test.true hit c.loop-i.invariant)

pub loop-i-preserved : goal.loop-i-preserved
loop-i-preserved c =
    let text = c.args.text.now in
    let mark = c.args.mark.now in
    let miss : starts_with nat_eq (drop c.loop-i.i text) mark ≡ false = ap (λ (t : List ℕ). starts_with nat_eq t mark) (sym (take_rest text c.loop-i.i)) ∙ sym c.starts_with.ensures.value ∙ c.if-starts_with.false in
    goes_on mark text c.loop-i.i _ c.loop-i-test.true miss c.loop-i.invariant
