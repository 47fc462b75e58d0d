use Rattle.std.proofs.Common.{refl, sym, lit<}
use Rattle.std.proofs.lemmas.Bool.{both_ways}
use Rattle.std.proofs.lemmas.Str.Pattern.{NoCharPasses-char, split_parts, contains_char}
use Rattle.dav_headers_core.proofs.numbers.DashLemmas.{no_two, just_two, too_many}
use Rattle.dav_fields_core.proofs.ranges.around_dash.Goals as goal

pub returns-in_err-first : goal.returns-in_err-first
returns-in_err-first c =
    let range = c.args.range.now in
    let none =
    no_two range
    (λ i lt. NoCharPasses-char 45 range i c.in_err-first.ensures.cases (lit< tt) lt) in
    rw (c.from_residual.ensures, none) refl

pub returns-then-contains : goal.returns-then-contains
returns-then-contains c =
    let range = c.args.range.now in
    let last = c.in_ok-first.last.now in
    let parts = split_parts 45 range _ c.split_once.ensures.cases (lit< tt) in
    let at = rw c.in_ok-first.was at parts in
    let holds = contains_char 45 last c.contains.result c.contains.ensures.cases (lit< tt) in
    let dash = holds.0 c.if-contains.true in
    sym (too_many range c.in_ok-first.first.now last dash.0 at.0 at.1 dash.1 dash.2)

pub returns-else-contains : goal.returns-else-contains
returns-else-contains c =
    let range = c.args.range.now in
    let last = c.in_ok-first.last.now in
    let parts = split_parts 45 range _ c.split_once.ensures.cases (lit< tt) in
    let at = rw c.in_ok-first.was at parts in
    let holds = contains_char 45 last c.contains.result c.contains.ensures.cases (lit< tt) in
    sym
    (just_two range c.in_ok-first.first.now last at.0 at.1
    (λ i lt e. absurd (both_ways c.contains.result c.if-contains.false (holds.1 i lt e))))
