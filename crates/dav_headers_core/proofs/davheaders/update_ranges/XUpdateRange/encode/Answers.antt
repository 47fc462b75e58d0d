use Rattle.std.proofs.Common.{◌≡◌, [], ◌∷◌, Some}
use Rattle.std.proofs.lemmas.Result.{err_from_is_err_and}
use Rattle.dav_headers_core.specs.UpdateRanges.{range_header, range_text}
use Rattle.dav_headers_core.proofs.numbers.RangeLaws.{range_round_trips, range_is_text}
use Rattle.dav_headers_core.proofs.texts.WrittenLemmas.{of_written, is_written, memory_alone}
use Rattle.dav_headers_core.proofs.davheaders.update_ranges.XUpdateRange.encode.Goals as goal

pub returns-in_err-text_of-clause-value : goal.returns-in_err-text_of-clause-value
returns-in_err-text_of-clause-value c =
    let p = err_from_is_err_and c.from_residual.result c.from_residual.ensures.1 in
    let range = c.args.self.now in
    rw (p.1, p.2) (is_written (range_text range) (range_is_text range c.text_of.ensures.within))

pub returns-clause-reads_back : goal.returns-clause-reads_back
returns-clause-reads_back c =
    let range = c.args.self.now in
    let gives = rw c.in_ok-text_of.ensures.text at c.value_of.ensures in
    of_written (λ value. range_header (value ∷ []) ≡ Some range) c.value_of.result (range_text range) gives (range_round_trips range c.text_of.ensures.within)

pub returns-clause-err : goal.returns-clause-err
returns-clause-err c =
    let range = c.args.self.now in
    let gives = rw c.in_ok-text_of.ensures.text at c.value_of.ensures in
    memory_alone c.value_of.result (range_text range) gives (range_is_text range c.text_of.ensures.within)
