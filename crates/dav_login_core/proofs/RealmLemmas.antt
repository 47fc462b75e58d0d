-- What asks for a password can stand in a field.
use Rattle.std.proofs.Common.{◌≡◌, ℕ, Bool, true, false, ◌&&◌, List, [], ◌∷◌, ◌++◌, codes, refl, ap, ◌∙◌}
use Rattle.std.proofs.lemmas.Bool.{false≢true}
use Rattle.std.proofs.lemmas.List.Folds.{list_all-append}
use Rattle.std.specs.List.{list_all}
use Rattle.http_header.specs.FieldValue.{IsFieldValue}
use Rattle.http_header.specs.Token.{is_value_byte}
use Rattle.http_header.proofs.TokenLemmas.{AllPass-from_test}
use Rattle.dav_login_core.specs.Challenges.{challenge, is_realm, is_realm_byte}

both : (a b : Bool) → a ≡ true → b ≡ true → (a && b) ≡ true
both a b is_a is_b = ap (λ (t : Bool). t && b) is_a ∙ is_b

first_of : (a b : Bool) → (a && b) ≡ true → a ≡ true
first_of true b h = refl
first_of false b h = h

second_of : (a b : Bool) → (a && b) ≡ true → b ≡ true
second_of true b h = h
second_of false b h = absurd (false≢true h)

realm_fits : (realm : List ℕ) → is_realm realm ≡ true → list_all is_value_byte realm ≡ true
realm_fits [] h = refl
realm_fits (b ∷ realm) h =
    both (is_value_byte b) (list_all is_value_byte realm)
    (first_of (is_value_byte b) _ (first_of (is_realm_byte b) (is_realm realm) h))
    (realm_fits realm (second_of (is_realm_byte b) (is_realm realm) h))

pub challenge_fits : (realm : List ℕ) → is_realm realm ≡ true → IsFieldValue (challenge realm)
challenge_fits realm h =
    let rest = realm ++ codes "\", charset=\"UTF-8\"" in
    AllPass-from_test is_value_byte (challenge realm)
    (list_all-append is_value_byte (codes "Basic realm=\"") rest
    ∙ both (list_all is_value_byte (codes "Basic realm=\"")) (list_all is_value_byte rest) refl
    (list_all-append is_value_byte realm (codes "\", charset=\"UTF-8\"")
    ∙ both (list_all is_value_byte realm) (list_all is_value_byte (codes "\", charset=\"UTF-8\"")) (realm_fits realm h) refl))
