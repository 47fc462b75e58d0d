-- Two lists, place by place, as the code goes over them.
use Rattle.std.proofs.Common.{◌≡◌, refl, ap, Bool, ◌&&◌, List, [], ◌∷◌, length, map}
use Rattle.std.specs.List.{list_all, zip}
use Rattle.std.proofs.lemmas.Bool.{eq-eqb}
use Rattle.std.proofs.lemmas.List.{length-map}
use Rattle.dav_headers_core.specs.Pairwise.{pairwise}

zip_shown : {X A : Type 0} (test : A → A → Bool) (shown : X → A) (xs ys : List X) → list_all (λ p. test p.0 p.1) (zip (map shown xs) (map shown ys)) ≡ list_all (λ p. test (shown p.0) (shown p.1)) (zip xs ys)
zip_shown test shown [] [] = refl
zip_shown test shown [] (y ∷ ys) = refl
zip_shown test shown (x ∷ xs) [] = refl
zip_shown test shown (x ∷ xs) (y ∷ ys) = ap (λ (t : Bool). test (shown x) (shown y) && t) (zip_shown test shown xs ys)

-- of as many elements, what `shown` shows of them is compared
pub pairwise_shown : {X A : Type 0} (test : A → A → Bool) (shown : X → A) (xs ys : List X) (result : Bool) → length xs ≡ length ys → result ≡ list_all (λ p. test (shown p.0) (shown p.1)) (zip xs ys) → result ≡ pairwise test (map shown xs) (map shown ys)
pairwise_shown test shown xs ys result same e =
    rw (length-map xs shown, length-map ys shown, eq-eqb (length xs) (length ys) same, zip_shown test shown xs ys) e
