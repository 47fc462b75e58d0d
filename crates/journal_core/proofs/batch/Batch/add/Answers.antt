-- One round more, or none.
use Rattle.std.proofs.Common.{rules, ◌≡◌, ◌++◌, List, ℕ, [], length, sym, ◌∙◌, ap, subst, arith}
use Rattle.std.proofs.lemmas.List.{append-nil}
use Rattle.journal_core.specs.Batches.{Gathers}
use Rattle.journal_core.proofs.Records.{none_left}
use Rattle.journal_core.proofs.Several.{gathers_more}
use Rattle.journal_core.proofs.batch.Batch.add.Goals as goal

pub returns-then-is_empty-clause-adds : goal.returns-then-is_empty-clause-adds
returns-then-is_empty-clause-adds c = λ done new gathers is.
    let empty : length c.args.records.now ≡ 0 = search rules in
    let none : new ≡ [] = none_left new (sym (ap length is) ∙ empty) in
    subst (λ (l : List (List ℕ)). Gathers c.args.self.now l) (sym (ap (λ (l : List (List ℕ)). done ++ l) none ∙ append-nil done)) gathers

pub returns-clause-adds : goal.returns-clause-adds
returns-clause-adds c = λ done new gathers is.
    gathers_more c.in-Some.place c.args.records.now c.args.self.now c.join.new.self done new is (search rules) (omega (arith, c.in-Some.ensures.some.1)) c.in-Some.ensures.some.0 c.in_default-join.ensures.joins c.join.ensures.place gathers
