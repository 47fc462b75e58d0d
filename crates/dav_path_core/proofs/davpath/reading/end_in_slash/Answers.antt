use Rattle.std.proofs.Common.{arith, ◌++◌, ◌∷◌, [], ap, ◌∙◌, inl, inr}
use Rattle.std.proofs.lemmas.Bool.Decides.{nat_tests}
use Rattle.dav_path_core.proofs.paths.KeptLemmas.{path_with_slash, path_with_none}
use Rattle.dav_path_core.proofs.paths.SlashedLemmas.{slashed-empty, slashed-some}
use Rattle.dav_path_core.proofs.davpath.reading.end_in_slash.Goals as goal
use Rattle.dav_path_core.proofs.davpath.reading.end_in_slash.Goals.{then-slash-via-then-slash, then-slash-via-else-slash+then-is_empty}

pub returns-in_ok-push : goal.returns-in_ok-push
returns-in_ok-push c = λ kept e.
    c.in_ok-push.ensures.items ∙ ap (λ l. l ++ 47 ∷ []) e ∙ path_with_slash kept c.args.slash
    (elim c.then-slash.branch [
      | then-slash-via-then-slash v ↦ inl v.if-slash.true
      | then-slash-via-else-slash+then-is_empty v ↦ inr (slashed-empty kept c.args.path.now.items e (grind (arith, nat_tests)))
    ])

pub returns-else-is_empty : goal.returns-else-is_empty
returns-else-is_empty c = λ kept e.
    e ∙ path_with_none kept c.args.slash c.if-slash.false (slashed-some kept c.args.path.now.items e (grind (arith, nat_tests)))
