use Rattle.std.proofs.Common.{ap, sym, ◌∙◌, map, string_bytes}
use Rattle.std.proofs.lemmas.List.{map-append}
use Rattle.http_header.specs.FieldValue.{FieldValue}
use Rattle.std.proofs.lemmas.Result.{err_from_is_err_and}
use Rattle.dav_headers_core.specs.Languages.{languages_of_bytes}
use Rattle.dav_headers_core.proofs.texts.LanguageLemmas.{values_more, refused_all}
use Rattle.dav_headers_core.proofs.davheaders.languages.languages_of_all_values.Goals as goal

pub returns-in_err-more : goal.returns-in_err-more
returns-in_err-more c =
    let p = err_from_is_err_and c.from_residual.result c.from_residual.ensures.1 in
    let refused = rw c.value-item.is at c.in_err-more.ensures in
    rw (p.1, p.2) (refused_all c.args.values.now c.loop-value.value-index c.value-item.result c.in_err-more.field-0.0 c.loop-value-test.true refused)

pub loop-value-preserved : goal.loop-value-preserved
loop-value-preserved c =
    let old = c.loop-value.languages.items in
    let more = c.in_ok-more.more.items in
    let read = ap (λ (value : FieldValue). languages_of_bytes value.bytes) (sym c.value-item.is) ∙ c.in_ok-more.ensures in
    values_more c.args.values.now c.loop-value.value-index c.value-item.result (map string_bytes old) (map string_bytes more) (map string_bytes c.append.new.self.items) c.loop-value-test.true c.loop-value.invariant read
    (ap (map string_bytes) c.in_ok-append.ensures.items ∙ map-append string_bytes old more)
