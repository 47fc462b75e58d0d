use Rattle.std.proofs.Common.{rules, ◌≡◌, ◌≢◌, ◌+◌, ◌<◌, ◌++◌, ◌∷◌, ℕ, List, length, drop, refl, sym, ◌∙◌, ap, arith, take-append-drop}
use Rattle.std.proofs.lemmas.Bool.{false≢true}
use Rattle.journal_core.specs.Format.{magic, version_word, header_text}
use Rattle.journal_core.proofs.Pieces.{slice_behind}
use Rattle.journal_core.proofs.Headers.{few_no_header, other_no_header, other_version}
use Rattle.journal_core.proofs.header.read_header.Goals as goal

pub returns-in_default-split_first_chunk-clause-refused : goal.returns-in_default-split_first_chunk-clause-refused
returns-in_default-split_first_chunk-clause-refused c = λ _.
    let it = c.in-Some.ensures in
    let few : length c.in-Some.text.now < 8 = search rules in
    ((it.0, c.in-Some.text.now, it.1, it.2), few_no_header c.args.bytes.now (omega (arith, few, ap length it.2)), refl)

pub returns-then-not-is_version-clause-refused : goal.returns-then-not-is_version-clause-refused
returns-then-not-is_version-clause-refused c = λ _.
    let it = c.in-Some.ensures in
    ((it.0, c.in-Some.text.now, it.1, it.2), other_version c.args.bytes.now it.0 c.in-Some.text.now it.2 (λ e. false≢true (sym c.if-not-is_version.true ∙ c.is_version.ensures.1 (c.in-Some-split_first_chunk.ensures.cases.0 ∙ e))))

pub returns-in_default-read_numbers-clause-refused : goal.returns-in_default-read_numbers-clause-refused
returns-in_default-read_numbers-clause-refused c = λ _.
    let it = c.in-Some.ensures in
    let few : length c.in-Some-split_first_chunk.numbers.now < 24 = c.in_default-read_numbers.ensures.none refl in
    let long : length c.in-Some-split_first_chunk.numbers.now + 8 ≡ length c.in-Some.text.now = c.in-Some-split_first_chunk.ensures.cases.2 in
    ((it.0, c.in-Some.text.now, it.1, it.2), few_no_header c.args.bytes.now (omega (arith, few, long, ap length it.2)), refl)

pub returns-then-not-are_same-clause-refused : goal.returns-then-not-are_same-clause-refused
returns-then-not-are_same-clause-refused c = λ _.
    let it = c.in-Some.ensures in
    let version : c.in-Some-split_first_chunk.version.now ≡ version_word = c.is_version.ensures.0 c.if-not-is_version.false in
    let text : c.in-Some.text.now ≡ version_word ++ c.in-Some-split_first_chunk.numbers.now =
    sym (take-append-drop 8 c.in-Some.text.now) ∙ ap (λ (l : List ℕ). l ++ drop 8 c.in-Some.text.now) (sym c.in-Some-split_first_chunk.ensures.cases.0 ∙ version) ∙ ap (λ (l : List ℕ). version_word ++ l) (sym c.in-Some-split_first_chunk.ensures.cases.1) in
    let numbers = c.in-Some-read_numbers.ensures.some in
    let other : header_text c.in-Some-read_numbers.header ≢ drop 1 c.args.bytes.now = λ e. false≢true (sym c.if-not-are_same.true ∙ c.are_same.ensures.1 (c.deref.ensures.value ∙ c.in_ok-text.ensures ∙ e ∙ sym (slice_behind 1 c.args.bytes.now))) in
    ((it.0, c.in-Some.text.now, it.1, it.2), other_no_header c.args.bytes.now it.0 c.in-Some-read_numbers.header c.in-Some-split_first_chunk.numbers.now numbers.1.0 c.requires (it.2 ∙ ap (λ (l : List ℕ). (it.0 ∷ magic) ++ l) text) numbers.1.1 numbers.0 other, refl)

pub returns-clause-reads : goal.returns-clause-reads
returns-clause-reads c =
    let it = c.in-Some.ensures in
    let text : header_text c.in-Some-read_numbers.header ≡ drop 1 c.args.bytes.now = sym (c.deref.ensures.value ∙ c.in_ok-text.ensures) ∙ c.are_same.ensures.0 c.if-not-are_same.false ∙ slice_behind 1 c.args.bytes.now in
    (c.in-Some-read_numbers.ensures.some.0, (it.0, it.1, it.2 ∙ ap (λ (l : List ℕ). it.0 ∷ l) (sym (ap (λ (l : List ℕ). drop 1 l) it.2) ∙ sym text)))
