use Rattle.std.proofs.Common.{rules, ◌++◌, ℕ, List, ◌∙◌, ap}
use Rattle.journal_core.specs.Format.{word_of}
use Rattle.journal_core.proofs.Numbers.{word_and_rest}
use Rattle.journal_core.proofs.header.read_numbers.Goals as goal

pub returns-clause-some : goal.returns-clause-some
returns-clause-some c =
    let third = word_and_rest c.in_ok-key.bytes.now c.in_ok-began.began.now c.in_ok-began._rest.now c.number_of-3.result c.number_of-3.ensures c.in_ok-began.ensures.cases.0 c.in_ok-began.ensures.cases.1 in
    let second = word_and_rest c.in_ok-generation.bytes.now c.in_ok-key.key.now c.in_ok-key.bytes.now c.number_of-2.result c.number_of-2.ensures c.in_ok-key.ensures.cases.0 c.in_ok-key.ensures.cases.1 in
    let first = word_and_rest c.args.bytes.now c.in_ok-generation.generation.now c.in_ok-generation.bytes.now c.number_of.result c.number_of.ensures c.in_ok-generation.ensures.cases.0 c.in_ok-generation.ensures.cases.1 in (
      record { generation = search rules; key = search rules; began = search rules },
      (c.in_ok-began._rest.now, first ∙ ap (λ (l : List ℕ). word_of c.number_of.result ++ l) (second ∙ ap (λ (l : List ℕ). word_of c.number_of-2.result ++ l) third)),
    )
