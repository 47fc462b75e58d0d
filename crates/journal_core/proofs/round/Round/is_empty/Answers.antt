use Rattle.std.proofs.Common.{◌≡◌, ◌-◌, ◌^◌, List, ℕ, length, min, ap, ◌∙◌, arith}
use Rattle.std.proofs.lemmas.Bool.Decides.{nat_tests}
use Rattle.journal_core.specs.Format.{records_text}
use Rattle.journal_core.proofs.Records.{none_left}
use Rattle.journal_core.proofs.round.Round.is_empty.Goals as goal

pub returns : goal.returns
returns c = λ records carries.
    let len : c.len.result ≡ min (length (records_text records)) (2 ^ 64 - 1) = c.len.ensures.records records carries in (
      λ is. let none : c.len.result ≡ 0 = grind (arith, nat_tests) in none_left records (omega (arith, none, len)),
      λ is. let none : c.len.result ≡ 0 = len ∙ ap (λ (l : List (List ℕ)). min (length (records_text l)) (2 ^ 64 - 1)) is in grind (arith, nat_tests),
    )
