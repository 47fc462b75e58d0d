use Rattle.std.proofs.Common.{rules, ◌≡◌, ◌++◌, ℕ, List, length, drop, sym, ◌∙◌, ap, append_assoc, take-append-drop}
use Rattle.journal_core.specs.Format.{word_of}
use Rattle.journal_core.proofs.Numbers.{word_and_rest}
use Rattle.journal_core.proofs.Records.{few_no_record, short_no_record}
use Rattle.journal_core.proofs.parsing.split_record.Goals as goal

pub returns-in_err-word : goal.returns-in_err-word
returns-in_err-word c = rw c.from_residual.ensures (λ one rest short. few_no_record c.args.bytes.now (search rules) one rest)

pub returns-then-rest-len : goal.returns-then-rest-len
returns-then-rest-len c =
    short_no_record c.args.bytes.now c.in_ok-word.rest.now c.number_of-len.result (search rules)
    (word_and_rest c.args.bytes.now c.in_ok-word.word.now c.in_ok-word.rest.now c.number_of-len.result c.number_of-len.ensures c.in_ok-word.ensures.cases.0 c.in_ok-word.ensures.cases.1) c.if-rest-len.true

pub returns : goal.returns
returns c =
    let len = c.number_of-len.result in
    let rest = c.in_ok-word.rest.now in
    let whole = word_and_rest c.args.bytes.now c.in_ok-word.word.now rest len c.number_of-len.ensures c.in_ok-word.ensures.cases.0 c.in_ok-word.ensures.cases.1 in
    let front : length c.split_at.result.0.now ≡ len = search rules in
    whole ∙ ap (λ (l : List ℕ). word_of len ++ l) (sym (take-append-drop len rest) ∙ ap (λ (l : List ℕ). l ++ drop len rest) (sym c.split_at.ensures.front) ∙ ap (λ (l : List ℕ). c.split_at.result.0.now ++ l) (sym c.split_at.ensures.back))
    ∙ ap (λ (n : ℕ). word_of n ++ (c.split_at.result.0.now ++ c.split_at.result.1.now)) (sym front) ∙ sym (append_assoc (word_of (length c.split_at.result.0.now)) c.split_at.result.0.now c.split_at.result.1.now)
