use Rattle.std.proofs.Common.{◌≡◌, ◌++◌, ◌∷◌, [], map, string_bytes}
use Rattle.std.proofs.lemmas.Result.{err_from_is_err_and}
use Rattle.std.proofs.lemmas.List.{map_push}
use Rattle.dav_effects_core.specs.ByteForms.{utf8_at, times_at}
use Rattle.dav_effects_core.proofs.Loops.{goes_on, fails, is_done}
use Rattle.dav_effects_core.proofs.fields.texts_of.Goals as goal

pub returns-in_err-text : goal.returns-in_err-text
returns-in_err-text c =
    let p = err_from_is_err_and c.from_residual.result c.from_residual.ensures.1 in
    rw (p.1, p.2) (fails utf8_at c.in_err-text.field-0.0 (map string_bytes c.reading.texts.items) c.args.count c.reading.counter c.reading.rest.now (times_at utf8_at c.args.count c.args.bytes.now) c.reading-test.true c.in_err-text.ensures c.reading.invariant)

pub reading-preserved : goal.reading-preserved
reading-preserved c =
    let text = c.in_ok-text.text in
    let e : map string_bytes c.push.new.self.items ≡ map string_bytes c.reading.texts.items ++ string_bytes text ∷ [] = rw c.in_ok-push.ensures.items (map_push _ c.reading.texts.items text) in
    rw e (goes_on utf8_at (map string_bytes c.reading.texts.items) c.args.count c.reading.counter c.reading.rest.now (string_bytes text) c.in_ok-text.behind.now (times_at utf8_at c.args.count c.args.bytes.now) c.reading-test.true c.in_ok-text.ensures c.reading.invariant)

pub returns : goal.returns
returns c = is_done utf8_at (map string_bytes c.reading.texts.items) c.args.count c.reading.counter c.reading.rest.now (times_at utf8_at c.args.count c.args.bytes.now) c.reading-test.false c.reading.invariant
