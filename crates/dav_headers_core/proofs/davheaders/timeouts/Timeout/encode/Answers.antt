use Rattle.std.proofs.Common.{◌≡◌, ◌≢◌, ap, ◌∙◌, [], ◌∷◌, Some, string_bytes}
use Rattle.dav_headers_core.specs.CommaPieces.{joined_by_commas}
use Rattle.dav_headers_core.specs.Values.{value_of_text}
use Rattle.dav_headers_core.proofs.lists.GivesLemmas.{given_anyhow}
use Rattle.dav_headers_core.specs.Timeouts.{timeout_header, timeouts_text}
use Rattle.dav_headers_core.proofs.texts.PieceLemmas.{joined_by}
use Rattle.dav_headers_core.proofs.numbers.TimeoutLaws.{timeouts_round_trip, timeouts_are_text}
use Rattle.dav_headers_core.proofs.texts.WrittenLemmas.{of_written, memory_alone}
use Rattle.dav_headers_core.proofs.davheaders.timeouts.Timeout.encode.Goals as goal

text_is : (c : goal.After-drop-texts-2) → string_bytes c.in_ok-join.field-0 ≡ timeouts_text c.args.self.now.0.items
text_is c =
    let texts = c.in_ok-texts.texts.items in
    let ok = rw c.deref-2.ensures.value at c.in_ok-join.ensures.ok in
    let shown = rw c.deref.ensures.value at c.in_ok-texts.ensures.texts in
    ok ∙ joined_by string_bytes texts ∙ ap joined_by_commas shown

pub returns-clause-value : goal.returns-clause-value
returns-clause-value c =
    let gives = rw (text_is c) at c.value_of.ensures in
    given_anyhow (λ value. value) c.value_of.result (value_of_text (timeouts_text c.args.self.now.0.items)) gives

pub returns-clause-reads_back : goal.returns-clause-reads_back
returns-clause-reads_back c =
    let timeouts = c.args.self.now.0.items in
    let gives = rw (text_is c) at c.value_of.ensures in
    of_written (λ value. timeouts ≢ [] → timeout_header (value ∷ []) ≡ Some timeouts) c.value_of.result (timeouts_text timeouts) gives (λ some. timeouts_round_trip timeouts some (rw c.deref.ensures.value at c.in_ok-texts.ensures.within))

pub returns-clause-err : goal.returns-clause-err
returns-clause-err c =
    let timeouts = c.args.self.now.0.items in
    let gives = rw (text_is c) at c.value_of.ensures in
    memory_alone c.value_of.result (timeouts_text timeouts) gives (timeouts_are_text timeouts (rw c.deref.ensures.value at c.in_ok-texts.ensures.within))
