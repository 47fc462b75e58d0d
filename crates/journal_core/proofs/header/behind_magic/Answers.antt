use Rattle.std.proofs.Common.{rules, ◌≡◌, ◌++◌, ◌∷◌, ℕ, List, drop, sym, ◌∙◌, ap}
use Rattle.std.proofs.lemmas.List.{take-append-drop}
use Rattle.journal_core.specs.Format.{magic}
use Rattle.journal_core.proofs.header.behind_magic.Goals as goal

pub returns : goal.returns
returns c =
    let whole : c.args.bytes.now ≡ c.in_ok-first.first.now ∷ c.in_ok-first.after.now = search rules in
    let name : c.in_ok-name.name.now ≡ magic = search rules in
    let after : c.in_ok-first.after.now ≡ magic ++ c.in_ok-name.rest.now =
    sym (take-append-drop 7 c.in_ok-first.after.now) ∙ ap (λ (l : List ℕ). l ++ drop 7 c.in_ok-first.after.now) (sym c.in_ok-name.ensures.cases.0 ∙ name)
    ∙ ap (λ (l : List ℕ). magic ++ l) (sym c.in_ok-name.ensures.cases.1) in
    (c.in_ok-first.first.now, c.if-first-eq0.false, whole ∙ ap (λ (l : List ℕ). c.in_ok-first.first.now ∷ l) after)
