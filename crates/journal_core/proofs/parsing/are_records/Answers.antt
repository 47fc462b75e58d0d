use Rattle.std.proofs.Common.{rules, ◌++◌, [], ◌∷◌, ℕ, List, length, sym, ◌∙◌, ap, arith, length-append}
use Rattle.journal_core.specs.Format.{record_text, records_text}
use Rattle.journal_core.proofs.Records.{not_records, records_more, record_size}
use Rattle.journal_core.proofs.parsing.are_records.Goals as goal

pub returns-in_default-clause-other : goal.returns-in_default-clause-other
returns-in_default-clause-other c = λ _ records short is.
    not_records c.reading.invariant.0 records c.reading.rest.now short (sym c.reading.invariant.1 ∙ is) (search rules) c.in_default.ensures

pub reading-smaller : goal.reading-smaller
reading-smaller c = omega (arith, ap length c.in-Some.ensures, length-append (record_text c.in-Some._record.now) c.in-Some.behind.now, record_size c.in-Some._record.now)

pub reading-preserved : goal.reading-preserved
reading-preserved c =
    let done = c.reading.invariant.0 in
    let one = c.in-Some._record.now in
    let behind = c.in-Some.behind.now in
    (done ++ one ∷ [], c.reading.invariant.1 ∙ ap (λ (l : List ℕ). records_text done ++ l) c.in-Some.ensures ∙ sym (records_more done one behind))
