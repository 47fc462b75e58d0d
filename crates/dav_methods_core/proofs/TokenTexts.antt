-- The token between the angle brackets of a value.
use Rattle.std.proofs.Common.{◌≡◌, ◌≢◌, ℕ, List, [], ◌∷◌, ◌++◌, Option, Some, None, Bor, MatchOption, sym, ◌∙◌, ap}
use Rattle.std.specs.Prelude.{IsUtf8}
use Rattle.dav_methods_core.specs.UnlockMethod.{IsBracketed}

tail_of : (x y : ℕ) (xs ys : List ℕ) → x ∷ xs ≡ y ∷ ys → xs ≡ ys
tail_of x y xs ys h = cc

-- what doesn't begin with one has none
pub unopened : (text : List ℕ) → ((rest : List ℕ) → text ≢ 60 ∷ rest) → (token : List ℕ) → ¬ IsBracketed text token
unopened text h token b = h (token ++ (62 ∷ [])) b.1

-- what begins with one has the token where it ends with the other
pub closed_by : (text rest : List ℕ) (r : Option (Bor (List ℕ))) → IsUtf8 text → text ≡ 60 ∷ rest
    → MatchOption r ((front : List ℕ) → rest ≢ front ++ (62 ∷ [])) (λ x. rest ≡ x.now ++ (62 ∷ []))
    → MatchOption r ((token : List ℕ) → ¬ IsBracketed text token) (λ token. IsBracketed text token.now)
closed_by text rest (Some x) utf8 opens h = (utf8, opens ∙ ap (λ r. 60 ∷ r) h)
closed_by text rest None utf8 opens h = λ token b. h token (tail_of 60 60 rest (token ++ (62 ∷ [])) (sym opens ∙ b.1))
