-- An enclosed text is the one that the reader finds.
use Rattle.std.proofs.Common.{◌≡◌, refl, sym, ap, ◌∙◌, ℕ, Bool, true, false, not, ◌&&◌, cond, eqb, List, [], ◌∷◌, ◌++◌, None, Some}
use Rattle.std.specs.List.{AllByRecursion}
use Rattle.std.proofs.lemmas.Bool.{eqb-true, eq-eqb}
use Rattle.dav_headers_core.specs.Tags.{quote}
use Rattle.dav_headers_core.specs.CommaPieces.{is_blank}
use Rattle.dav_headers_core.specs.IfBytes.{odd_quotes}
use Rattle.dav_headers_core.specs.Private.IfReading.{Found, with_byte, enclosed_at}
use Rattle.dav_headers_core.proofs.lists.OptionalLemmas.{some_is}

-- the parity behind a byte that is a quote or not
abbrev pub flips : Bool → Bool → Bool
flips t q = cond t (not q) q

flips_twice : (t q : Bool) → flips t (flips t q) ≡ q
flips_twice true true = refl
flips_twice true false = refl
flips_twice false q = refl

flips_not : (t q : Bool) → flips t (not q) ≡ not (flips t q)
flips_not true q = refl
flips_not false q = refl

-- the same, from a place behind an odd number of quotes or an even one
pub record EnclosedFrom (quoted : Bool) (closing : ℕ) (text : List ℕ) : Type 0 where
  pub no_blank : AllByRecursion (λ b. is_blank b ≡ false) text
  pub parity : odd_quotes text ≡ quoted
  pub inside : (before after : List ℕ) → text ≡ before ++ closing ∷ after → odd_quotes before ≡ not quoted

abbrev pub Encloses : Bool → ℕ → List ℕ → List ℕ × List ℕ → Type 0
Encloses quoted closing bytes found = (bytes ≡ found.0 ++ closing ∷ found.1) × EnclosedFrom quoted closing found.0

with_byte_some : (b : ℕ) (r : Found (List ℕ)) (y : List ℕ × List ℕ) → with_byte b r ≡ Some y → (x : List ℕ × List ℕ) × (r ≡ Some x) × (y ≡ (b ∷ x.0, x.1))
with_byte_some b (Some x) y e = (x, refl, cc)
with_byte_some b None y e = absurd cc

none_here : (quoted : Bool) (closing : ℕ) (bytes : List ℕ) → quoted ≡ false → (before after : List ℕ) → [] ≡ before ++ closing ∷ after → odd_quotes before ≡ not quoted
none_here quoted closing bytes q [] after e = absurd cc
none_here quoted closing bytes q (x ∷ before) after e = absurd cc

-- no text at all: the closing byte stands first
enclosed_empty : (closing b : ℕ) (bytes : List ℕ) (quoted : Bool) → (not quoted && eqb b closing) ≡ true → Encloses quoted closing (b ∷ bytes) ([], bytes)
enclosed_empty closing b bytes true e = absurd cc
enclosed_empty closing b bytes false e =
    (ap (λ (n : ℕ). n ∷ bytes) (eqb-true b closing e), record { no_blank = tt; parity = refl; inside = none_here false closing bytes refl })

-- where the first byte is inside
inside_more : (closing b : ℕ) (text : List ℕ) (quoted : Bool) → (not quoted && eqb b closing) ≡ false
    → ((before after : List ℕ) → text ≡ before ++ closing ∷ after → odd_quotes before ≡ not (flips (eqb b quote) quoted))
    → (before after : List ℕ) → b ∷ text ≡ before ++ closing ∷ after → odd_quotes before ≡ not quoted
inside_more closing b text true apart h [] after e = refl
inside_more closing b text false apart h [] after e =
    let same : b ≡ closing = cc in absurd (let t : eqb b closing ≡ true = eq-eqb b closing same in cc)
inside_more closing b text quoted apart h (x ∷ before) after e =
    let head : x ≡ b = cc in
    let tail : text ≡ before ++ closing ∷ after = cc in
    rw head (ap (flips (eqb b quote)) (h before after tail) ∙ flips_not (eqb b quote) (flips (eqb b quote) quoted) ∙ ap not (flips_twice (eqb b quote) quoted))

enclosed_more : (closing b : ℕ) (bytes : List ℕ) (quoted : Bool) (found : List ℕ × List ℕ) → (not quoted && eqb b closing) ≡ false → is_blank b ≡ false
    → Encloses (flips (eqb b quote) quoted) closing bytes found → Encloses quoted closing (b ∷ bytes) (b ∷ found.0, found.1)
enclosed_more closing b bytes quoted found apart blank h = (
  ap (λ (t : List ℕ). b ∷ t) h.0,
  record {
    no_blank = (blank, h.1.no_blank);
    parity = ap (flips (eqb b quote)) h.1.parity ∙ flips_twice (eqb b quote) quoted;
    inside = inside_more closing b found.0 quoted apart h.1.inside;
  },
)

pub enclosed_sound : (closing : ℕ) (bytes : List ℕ) (quoted : Bool) (found : List ℕ × List ℕ) → enclosed_at closing quoted bytes ≡ Some found → Encloses quoted closing bytes found
enclosed_sound closing [] quoted found e = absurd cc
enclosed_sound closing (b ∷ bytes) quoted found e = go (not quoted && eqb b closing) refl (is_blank b) refl e (enclosed_sound closing bytes (flips (eqb b quote) quoted))
  where
    go : (t : Bool) → (not quoted && eqb b closing) ≡ t → (u : Bool) → is_blank b ≡ u
        → cond t (Some ([], bytes)) (cond u None (with_byte b (enclosed_at closing (flips (eqb b quote) quoted) bytes))) ≡ Some found
        → ((x : List ℕ × List ℕ) → enclosed_at closing (flips (eqb b quote) quoted) bytes ≡ Some x → Encloses (flips (eqb b quote) quoted) closing bytes x)
        → Encloses quoted closing (b ∷ bytes) found
    go true t u blank h hyp = rw (sym (some_is _ _ h)) (enclosed_empty closing b bytes quoted t)
    go false t true blank h hyp = absurd cc
    go false t false blank h hyp =
        let x = with_byte_some b (enclosed_at closing (flips (eqb b quote) quoted) bytes) found h in
        rw x.2 (enclosed_more closing b bytes quoted x.0 t blank (hyp x.0 x.1))

pub enclosed_complete : (closing : ℕ) (text rest : List ℕ) (quoted : Bool) → EnclosedFrom quoted closing text → enclosed_at closing quoted (text ++ closing ∷ rest) ≡ Some (text, rest)
enclosed_complete closing [] rest quoted h = rw (← h.parity, eq-eqb closing closing refl) refl
enclosed_complete closing (b ∷ text) rest quoted h =
    let apart = not_yet quoted (eqb b closing) refl h.inside in
    rw (
      apart,
      h.no_blank.0,
      enclosed_complete closing text rest (flips (eqb b quote) quoted) record {
        no_blank = h.no_blank.1;
        parity = sym (flips_twice (eqb b quote) (odd_quotes text)) ∙ ap (flips (eqb b quote)) h.parity;
        inside = λ before after e. sym (flips_twice (eqb b quote) (odd_quotes before)) ∙ ap (flips (eqb b quote)) (h.inside (b ∷ before) after (ap (λ (t : List ℕ). b ∷ t) e)) ∙ flips_not (eqb b quote) quoted;
      },
    ) refl
  where
    not_yet : (q t : Bool) → eqb b closing ≡ t → ((before after : List ℕ) → b ∷ text ≡ before ++ closing ∷ after → odd_quotes before ≡ not q) → (not q && t) ≡ false
    not_yet true t e i = refl
    not_yet false false e i = refl
    not_yet false true e i = absurd (let same : b ≡ closing = eqb-true b closing e in let odd : odd_quotes [] ≡ true = i [] text (ap (λ (n : ℕ). n ∷ text) same) in cc)
