-- Tests on texts.
use Rattle.std.proofs.Common.{◌≡◌, refl, ℕ, Bool, true, false, List, [], ◌∷◌, ◌++◌}
use Rattle.std.specs.List.{All, list_all}
use Rattle.std.proofs.lemmas.Bool.{false_from_ne_true, and_from, and_parts}
use Rattle.std.proofs.lemmas.List.Sums.{AllPass-from_list_all, list_all-from_AllPass}
use Rattle.std.proofs.lemmas.List.Elements.{All-head, All-tail}
use Rattle.http_header.specs.FieldValue.{IsVisibleAscii}
use Rattle.dav_headers_core.specs.Values.{is_text_byte}

pub visible_test : (bytes : List ℕ) → IsVisibleAscii bytes → list_all is_text_byte bytes ≡ true
visible_test bytes h = list_all-from_AllPass is_text_byte bytes h

pub visible_fails : (bytes : List ℕ) → (IsVisibleAscii bytes → ⊥) → list_all is_text_byte bytes ≡ false
visible_fails bytes h = false_from_ne_true _ (λ e. h (AllPass-from_list_all is_text_byte bytes e))

pub text-append : (test : ℕ → Bool) (xs ys : List ℕ) → list_all test xs ≡ true → list_all test ys ≡ true → list_all test (xs ++ ys) ≡ true
text-append test [] ys h k = k
text-append test (x ∷ xs) ys h k =
    let parts = and_parts (test x) (list_all test xs) h in
    and_from (test x) (list_all test (xs ++ ys)) parts.0 (text-append test xs ys parts.1 k)

pub each_of : {X : Type 0} (test : X → Bool) (P : X → Type 0) → ((x : X) → P x → test x ≡ true) → (xs : List X) → All P xs → list_all test xs ≡ true
each_of test P holds [] all = refl
each_of test P holds (x ∷ xs) all = and_from (test x) (list_all test xs) (holds x (All-head P x xs all)) (each_of test P holds xs (All-tail P x xs all))
