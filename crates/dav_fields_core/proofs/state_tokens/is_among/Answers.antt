use Rattle.std.proofs.Common.{◌≡◌, ◌||◌, Bool, List, [], ◌∷◌, refl, sym, ap, ◌∙◌, map, string_bytes, rules, tests}
use Rattle.std.specs.Prelude.{bytes_eq}
use Rattle.std.specs.List.{list_any}
use Rattle.std.proofs.lemmas.Iterator.{YieldsList-from_slice}
use Rattle.std.proofs.lemmas.Iterator.Search.{any_from_yields_List}
use Rattle.dav_fields_core.proofs.state_tokens.is_among.Goals as goal

any_map : {A B : Type 0} (test : B → Bool) (f : A → B) (xs : List A) → list_any test (map f xs) ≡ list_any (λ x. test (f x)) xs
any_map test f [] = refl
any_map test f (x ∷ xs) = ap (λ b. test (f x) || b) (any_map test f xs)

pub returns : goal.returns
returns c =
    any_from_yields_List (λ t. bytes_eq (string_bytes t) c.args.token.now) c.any.new.self _ _ c.any.ensures.ran (YieldsList-from_slice c.args.tokens.now cc) (λ x b q k. search (rules, tests))
    ∙ sym (any_map (λ t. bytes_eq t c.args.token.now) string_bytes c.args.tokens.now)
