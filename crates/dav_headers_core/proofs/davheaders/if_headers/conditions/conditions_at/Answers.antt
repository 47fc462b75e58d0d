use Rattle.std.proofs.Common.{◌≡◌, ◌++◌, ◌∷◌, [], sym, ap, ◌∙◌, length, Some, None}
use Rattle.std.proofs.lemmas.Result.{err_from_is_err_and}
use Rattle.std.proofs.lemmas.List.{map_push}
use Rattle.dav_headers_core.specs.Private.IfReading.{after_byte, skip_blanks, condition_at, conditions_at}
use Rattle.dav_headers_core.specs.HeaderGives.{Refuses, RefusesFirst}
use Rattle.dav_headers_core.proofs.lists.GivesLemmas.{refused_anyhow}
use Rattle.dav_headers_core.specs.IfValues.{condition_of, conditions_of}
use Rattle.dav_headers_core.proofs.ifs.IfLoopLemmas.{closes, goes_on, fails}
use Rattle.dav_headers_core.proofs.davheaders.if_headers.conditions.conditions_at.Goals as goal

pub returns-in-Some : goal.returns-in-Some
returns-in-Some c =
    let bytes = c.args.bytes.now in
    let there : after_byte 41 (skip_blanks c.loop.rest.now) ≡ Some c.in-Some.after.now = ap (after_byte 41) (sym c.trim_blanks-at.ensures) ∙ sym c.in-Some.ensures in
    closes (conditions_of c.loop.conditions.items) (length bytes) c.loop.counter c.loop.rest.now c.in-Some.after.now (conditions_at (length bytes) bytes) c.loop-test.true there c.loop.invariant

pub returns-in_err-condition : goal.returns-in_err-condition
returns-in_err-condition c =
    let p = err_from_is_err_and c.from_residual.result c.from_residual.ensures.1 in
    let bytes = c.args.bytes.now in
    let there : after_byte 41 (skip_blanks c.loop.rest.now) ≡ None = ap (after_byte 41) (sym c.trim_blanks-at.ensures) ∙ sym c.in_default.ensures in
    let first : RefusesFirst c.in_err-condition.field-0.0 (condition_at (skip_blanks c.loop.rest.now)) = rw (← c.trim_blanks-at.ensures) c.in_err-condition.ensures in
    let refused : Refuses c.in_err-condition.field-0.0 (condition_at (skip_blanks c.loop.rest.now)) = refused_anyhow c.in_err-condition.field-0.0 (condition_at (skip_blanks c.loop.rest.now)) first in
    rw (p.1, p.2) (fails (conditions_of c.loop.conditions.items) (length bytes) c.loop.counter c.loop.rest.now c.in_err-condition.field-0.0 (conditions_at (length bytes) bytes) c.loop-test.true there refused c.loop.invariant)

pub loop-preserved : goal.loop-preserved
loop-preserved c =
    let bytes = c.args.bytes.now in
    let one = condition_of c.in_ok-condition.condition in
    let pushed : conditions_of c.push.new.self.items ≡ conditions_of c.loop.conditions.items ++ one ∷ [] = rw c.in_ok-push.ensures.items (map_push _ c.loop.conditions.items c.in_ok-condition.condition) in
    let there : after_byte 41 (skip_blanks c.loop.rest.now) ≡ None = ap (after_byte 41) (sym c.trim_blanks-at.ensures) ∙ sym c.in_default.ensures in
    let found : condition_at (skip_blanks c.loop.rest.now) ≡ Some (one, c.in_ok-condition.after.now) = ap condition_at (sym c.trim_blanks-at.ensures) ∙ c.in_ok-condition.ensures in
    rw pushed (goes_on (conditions_of c.loop.conditions.items) (length bytes) c.loop.counter c.loop.rest.now one c.in_ok-condition.after.now (conditions_at (length bytes) bytes) c.loop-test.true there found c.loop.invariant)
