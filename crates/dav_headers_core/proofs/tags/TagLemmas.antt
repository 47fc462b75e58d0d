-- Entity tags: a text passes the test exactly where it is a spelling.
use Rattle.std.specs.Prelude.{◌↔◌}
use Rattle.std.proofs.Common.{◌≡◌, ◌≢◌, refl, sym, ap, ◌∙◌, ℕ, zero, suc, ◌+◌, ◌<◌, arith, Bool, true, false, not, ◌&&◌, cond, eqb, List, [], ◌∷◌, ◌++◌, length, get_or, add-one, inl, inr}
use Rattle.std.specs.List.{AllByRecursion, list_any}
use Rattle.std.proofs.lemmas.Bool.{eqb-true, eqb-false, eq-eqb, ne_eqb, and_parts, or_left, or_right, or_cases, or_parts, both_ways, false_from_ne_true}
use Rattle.std.proofs.lemmas.List.{same_from_push}
use Rattle.dav_headers_core.specs.Tags.{quote, mark, spelled_tag, IsTag, ends_in_quote, is_quoted, is_tag, is_weak}

-- bytes but quotes, and then a quote
pub record EndsInQuote (bytes : List ℕ) : Type 0 where
  pub inner : List ℕ
  pub no_quote : AllByRecursion (λ b. b ≢ quote) inner
  pub parts : bytes ≡ inner ++ quote ∷ []

is_nil : (bytes : List ℕ) → eqb (length bytes) 0 ≡ true → bytes ≡ []
is_nil [] e = refl
is_nil (b ∷ bytes) e = absurd (omega (arith, eqb-true (length (b ∷ bytes)) 0 e))

quote_end_sound : (bytes : List ℕ) → ends_in_quote bytes ≡ true → EndsInQuote bytes
quote_end_sound [] e = absurd cc
quote_end_sound (b ∷ bytes) e = go (eqb b quote) refl e (quote_end_sound bytes)
  where
    go : (t : Bool) → eqb b quote ≡ t → cond t (eqb (length bytes) 0) (ends_in_quote bytes) ≡ true → (ends_in_quote bytes ≡ true → EndsInQuote bytes) → EndsInQuote (b ∷ bytes)
    go true t h hyp = let first = eqb-true b quote t in let last = is_nil bytes h in record { inner = []; no_quote = tt; parts = cc }
    go false t h hyp = let r = hyp h in record { inner = b ∷ r.inner; no_quote = (eqb-false b quote t, r.no_quote); parts = ap (λ (x : List ℕ). b ∷ x) r.parts }

quote_end_complete : (inner : List ℕ) → AllByRecursion (λ b. b ≢ quote) inner → ends_in_quote (inner ++ quote ∷ []) ≡ true
quote_end_complete [] h = refl
quote_end_complete (b ∷ inner) h = rw (ne_eqb b quote h.0) (quote_end_complete inner h.1)

quoted_sound : (weak : Bool) (bytes : List ℕ) → is_quoted bytes ≡ true → IsTag (mark weak ++ bytes)
quoted_sound weak [] e = absurd cc
quoted_sound weak (b ∷ bytes) e =
    let both = and_parts (eqb b quote) (ends_in_quote bytes) e in
    let r = quote_end_sound bytes both.1 in
    let same : b ∷ bytes ≡ quote ∷ r.inner ++ quote ∷ [] = ap (λ (x : ℕ). x ∷ bytes) (eqb-true b quote both.0) ∙ ap (λ (x : List ℕ). quote ∷ x) r.parts in
    record { weak = weak; opaque_tag = r.inner; no_quote = r.no_quote; parts = ap (λ (x : List ℕ). mark weak ++ x) same }

pub tag_sound : (text : List ℕ) → is_tag text ≡ true → IsTag text
tag_sound [] e = absurd cc
tag_sound (a ∷ []) e = absurd cc
tag_sound (a ∷ b ∷ rest) e = go (eqb a 87 && eqb b 47) refl e
  where
    go : (t : Bool) → (eqb a 87 && eqb b 47) ≡ t → cond t (is_quoted rest) (is_quoted (a ∷ b ∷ rest)) ≡ true → IsTag (a ∷ b ∷ rest)
    go true t h =
        let both = and_parts (eqb a 87) (eqb b 47) t in
        let p = eqb-true a 87 both.0 in
        let q = eqb-true b 47 both.1 in
        rw (p, q) (quoted_sound true rest h)
    go false t h = quoted_sound false (a ∷ b ∷ rest) h

complete_at : (weak : Bool) (inner : List ℕ) → AllByRecursion (λ b. b ≢ quote) inner → is_tag (mark weak ++ (quote ∷ inner ++ quote ∷ [])) ≡ true
complete_at true inner h = quote_end_complete inner h
complete_at false [] h = refl
complete_at false (b ∷ inner) h = quote_end_complete (b ∷ inner) h

pub tag_complete : (text : List ℕ) → IsTag text → is_tag text ≡ true
tag_complete text h = ap is_tag h.parts ∙ complete_at h.weak h.opaque_tag h.no_quote

pub told : (text : List ℕ) → (is_tag text ≡ true) ↔ IsTag text
told text = (tag_sound text, tag_complete text)

-- ---- quotes in a text

abbrev pub holds_quote : List ℕ → Bool
holds_quote bytes = list_any (λ b. eqb b quote) bytes

any_at : (bytes : List ℕ) (k : ℕ) → k < length bytes → get_or bytes k 0 ≡ quote → holds_quote bytes ≡ true
any_at [] k lt e = absurd (omega arith)
any_at (b ∷ bytes) zero lt e = or_left (eqb b quote) (holds_quote bytes) (eq-eqb b quote e)
any_at (b ∷ bytes) (suc k) lt e = or_right (eqb b quote) (holds_quote bytes) (any_at bytes k (omega arith) e)

any_finds : (bytes : List ℕ) → holds_quote bytes ≡ true → (k : ℕ) × (k < length bytes) × (get_or bytes k 0 ≡ quote)
any_finds [] e = absurd cc
any_finds (b ∷ bytes) e =
    elim (or_cases (eqb b quote) (holds_quote bytes) e) [
      | inl here ↦ (0, omega arith, eqb-true b quote here)
      | inr there ↦ let r = any_finds bytes there in (r.0 + 1, omega (arith, r.1), rw add-one r.2)
    ]

pub quote_found : (bytes : List ℕ) (r : Bool) → (r ≡ true → (k : ℕ) × (k < length bytes) × (get_or bytes k 0 ≡ quote)) → ((k : ℕ) → k < length bytes → get_or bytes k 0 ≡ quote → r ≡ true) → r ≡ holds_quote bytes
quote_found bytes true found none = let at = found refl in sym (any_at bytes at.0 at.1 at.2)
quote_found bytes false found none =
    sym (false_from_ne_true (holds_quote bytes) (λ e. let at = any_finds bytes e in both_ways false refl (none at.0 at.1 at.2)))

no_quotes : (bytes : List ℕ) → holds_quote bytes ≡ false → AllByRecursion (λ b. b ≢ quote) bytes
no_quotes [] e = tt
no_quotes (b ∷ bytes) e = let parts = or_parts (eqb b quote) (holds_quote bytes) e in (eqb-false b quote parts.0, no_quotes bytes parts.1)

quotes_in : (bytes : List ℕ) → AllByRecursion (λ b. b ≢ quote) bytes → holds_quote bytes ≡ false
quotes_in [] h = refl
quotes_in (b ∷ bytes) h = rw (ne_eqb b quote h.0) (quotes_in bytes h.1)

-- ---- a text between quotes, as the code takes it apart

pub spelled_is_tag : (weak : Bool) (text : List ℕ) → holds_quote text ≡ false → is_tag (spelled_tag weak text) ≡ true
spelled_is_tag weak text none = complete_at weak text (no_quotes text none)

pub spelled_is_weak : (weak : Bool) (text : List ℕ) → weak ≡ is_weak (spelled_tag weak text)
spelled_is_weak true text = refl
spelled_is_weak false text = refl

pub unquoted : (bytes : List ℕ) → ((rest : List ℕ) → bytes ≢ quote ∷ rest) → is_quoted bytes ≡ false
unquoted [] none = refl
unquoted (b ∷ bytes) none =
    false_from_ne_true (is_quoted (b ∷ bytes)) (λ e. let parts = and_parts (eqb b quote) (ends_in_quote bytes) e in none bytes (ap (λ (x : ℕ). x ∷ bytes) (eqb-true b quote parts.0)))

pub unclosed : (rest : List ℕ) → ((front : List ℕ) → rest ≢ front ++ quote ∷ []) → is_quoted (quote ∷ rest) ≡ false
unclosed rest none = false_from_ne_true (ends_in_quote rest) (λ e. let r = quote_end_sound rest e in none r.inner r.parts)

pub closed : (rest inner : List ℕ) → rest ≡ inner ++ quote ∷ [] → is_quoted (quote ∷ rest) ≡ not (holds_quote inner)
closed rest inner e = go (holds_quote inner) refl
  where
    go : (t : Bool) → holds_quote inner ≡ t → is_quoted (quote ∷ rest) ≡ not t
    go false none = rw e (quote_end_complete inner (no_quotes inner none))
    go true some =
        false_from_ne_true (ends_in_quote rest) (λ h.
        let r = quote_end_sound rest h in
        let same : r.inner ≡ inner = (same_from_push r.inner inner quote quote (sym r.parts ∙ e)).0 in
        both_ways (holds_quote inner) (rw same at (quotes_in r.inner r.no_quote)) some)
