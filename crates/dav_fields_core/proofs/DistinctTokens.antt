-- That the state tokens of an `If` are gathered each once.
use Rattle.std.proofs.Common.{◌≡◌, ℕ, Bool, true, false, ◌||◌, cond, List, [], ◌∷◌, ◌++◌, fold, refl, sym, ap, ◌∙◌}
use Rattle.std.specs.Prelude.{bytes_eq}
use Rattle.std.specs.List.{AllByRecursion, IsDistinct, flat_map}
use Rattle.std.proofs.lemmas.Bool.{or_parts}
use Rattle.std.proofs.lemmas.List.Folds.{list_any-append}
use Rattle.std.proofs.lemmas.Slice.Eq.{bytes_eq-Decides}
use Rattle.dav_headers_core.specs.IfValues.{Located}
use Rattle.dav_fields_core.specs.IfTokens.{is_among, tokens_in, tokens_of, with_once}

all_push : {A : Type 0} (P : A → Type 0) (xs : List A) (x : A) → AllByRecursion P xs → P x → AllByRecursion P (xs ++ x ∷ [])
all_push P [] x h p = (p, tt)
all_push P (y ∷ xs) x h p = (h.0, all_push P xs x h.1 p)

distinct_push : (texts : List (List ℕ)) (text : List ℕ) → IsDistinct bytes_eq texts → is_among texts text ≡ false → IsDistinct bytes_eq (texts ++ text ∷ [])
unfolding IsDistinct
distinct_push [] text h e = (tt, tt)
distinct_push (t ∷ texts) text h e =
    let parts = or_parts (bytes_eq t text) (is_among texts text) e in
    (all_push (λ u. bytes_eq t u ≡ false) texts text h.0 parts.0, distinct_push texts text h.1 parts.1)

distinct_once : (texts : List (List ℕ)) (text : List ℕ) → IsDistinct bytes_eq texts → IsDistinct bytes_eq (with_once texts text)
distinct_once texts text h = by (is_among texts text) refl
  where
    by : (b : Bool) → is_among texts text ≡ b → IsDistinct bytes_eq (cond b texts (texts ++ text ∷ []))
    by true e = h
    by false e = distinct_push texts text h e

distinct : (texts more : List (List ℕ)) → IsDistinct bytes_eq texts → IsDistinct bytes_eq (fold with_once texts more)
distinct texts [] h = h
distinct texts (text ∷ more) h = distinct (with_once texts text) more (distinct_once texts text h)

or_false : (b : Bool) → b ≡ (b || false)
or_false true = refl
or_false false = refl

or_assoc : (a b c : Bool) → ((a || b) || c) ≡ (a || (b || c))
or_assoc true b c = refl
or_assoc false b c = refl

among_once : (texts : List (List ℕ)) (text token : List ℕ) → is_among (with_once texts text) token ≡ (is_among texts token || bytes_eq text token)
among_once texts text token = by (is_among texts text) refl
  where
    same : (b : Bool) → bytes_eq text token ≡ b → is_among texts text ≡ true → is_among texts token ≡ (is_among texts token || b)
    same true e found =
        let here : is_among texts token ≡ true = ap (is_among texts) (sym ((bytes_eq-Decides text token).0 e)) ∙ found in
        here ∙ sym (ap (λ b. b || true) here)
    same false e found = or_false (is_among texts token)

    by : (b : Bool) → is_among texts text ≡ b → is_among (cond b texts (texts ++ text ∷ [])) token ≡ (is_among texts token || bytes_eq text token)
    by true e = same (bytes_eq text token) refl e
    by false e =
        list_any-append (λ t. bytes_eq t token) texts (text ∷ []) ∙ ap (λ b. is_among texts token || b) (sym (or_false (bytes_eq text token)))

members : (texts more : List (List ℕ)) (token : List ℕ) → is_among (fold with_once texts more) token ≡ (is_among texts token || is_among more token)
members texts [] token = or_false (is_among texts token)
members texts (text ∷ more) token =
    members (with_once texts text) more token ∙ ap (λ b. b || is_among more token) (among_once texts text token)
    ∙ or_assoc (is_among texts token) (bytes_eq text token) (is_among more token)

pub once : (lists : List Located) → IsDistinct bytes_eq (tokens_of lists) × ((token : List ℕ) → is_among (tokens_of lists) token
    ≡ is_among (flat_map (λ l. tokens_in l.conditions) lists) token)
unfolding IsDistinct
once lists =
    let all = flat_map (λ (l : Located). tokens_in l.conditions) lists in
    (distinct [] all tt, λ token. members [] all token)
