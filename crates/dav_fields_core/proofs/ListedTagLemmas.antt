-- The elements of a value, comma by comma.
use Rattle.std.proofs.Common.{◌≡◌, ◌≢◌, ◌⊎◌, inl, inr, ℕ, ◌+◌, ◌<◌, ◌≤◌, Bool, true, false, not, ◌&&◌, cond, eqb, List, [], ◌∷◌, ◌++◌, length, get_or, take, drop, refl, sym, ap, ◌∙◌}
use Rattle.std.proofs.lemmas.Bool.{eq-eqb, ne_eqb}
use Rattle.std.proofs.lemmas.List.{drop_more, drop_all, take_more, take_all, append_assoc, append-nil}
use Rattle.dav_headers_core.specs.CommaPieces.{is_comma}
use Rattle.dav_headers_core.specs.Tags.{quote}
use Rattle.dav_fields_core.specs.ListedTags.{in_first, parted_elements}

-- the pieces, with bytes in front of the first
abbrev pub behind_first : List ℕ → List (List ℕ) → List (List ℕ)
behind_first front [] = front ∷ []
behind_first front (piece ∷ pieces) = (front ++ piece) ∷ pieces

behind-in_first : (front : List ℕ) (b : ℕ) (pieces : List (List ℕ)) → behind_first front (in_first b pieces) ≡ behind_first (front ++ b ∷ []) pieces
behind-in_first front b [] = refl
behind-in_first front b (piece ∷ pieces) = ap (λ x. x ∷ pieces) (sym (append_assoc front (b ∷ []) piece))

-- whether the text behind a byte begins inside of quotes
abbrev pub inside_after : Bool → ℕ → Bool
inside_after inside b = cond (eqb b quote) (not inside) inside

-- a byte that parts nothing
pub goes_on : (bytes : List ℕ) (i b : ℕ) (inside : Bool) → i < length bytes → b ≡ get_or bytes i 0 → (is_comma b && not inside) ≡ false
    → behind_first (take i bytes) (parted_elements inside (drop i bytes)) ≡ behind_first (take (i + 1) bytes) (parted_elements (inside_after inside b) (drop (i + 1) bytes))
goes_on bytes i b inside lt at no_end =
    let rest = parted_elements (inside_after inside b) (drop (i + 1) bytes) in
    ap (λ x. behind_first (take i bytes) (parted_elements inside x)) (drop_more bytes i 0 lt ∙ ap (λ x. x ∷ drop (i + 1) bytes) (sym at))
    ∙ ap (λ t. behind_first (take i bytes) (cond t ([] ∷ parted_elements inside (drop (i + 1) bytes)) (in_first b rest))) no_end
    ∙ behind-in_first (take i bytes) b rest
    ∙ ap (λ x. behind_first x rest) (ap (λ x. take i bytes ++ x ∷ []) at ∙ sym (take_more bytes i 0 lt))

-- a comma outside of quotes
pub ends_at : (bytes : List ℕ) (i : ℕ) (inside : Bool) → i < length bytes → get_or bytes i 0 ≡ 44 → inside ≡ false
    → parted_elements false bytes ≡ behind_first (take i bytes) (parted_elements inside (drop i bytes))
    → parted_elements false bytes ≡ take i bytes ∷ parted_elements false (drop (i + 1) bytes)
ends_at bytes i inside lt at outside so_far =
    let rest = drop (i + 1) bytes in
    so_far ∙ ap (λ x. behind_first (take i bytes) (parted_elements inside x)) (drop_more bytes i 0 lt ∙ ap (λ x. x ∷ rest) at)
    ∙ ap (λ x. behind_first (take i bytes) (parted_elements x (44 ∷ rest))) outside
    ∙ ap (λ x. x ∷ parted_elements false rest) (append-nil (take i bytes))

-- no byte is left
pub all_gone : (bytes : List ℕ) (i : ℕ) (inside : Bool) → length bytes ≤ i → parted_elements false bytes ≡ behind_first (take i bytes) (parted_elements inside (drop i bytes))
    → parted_elements false bytes ≡ bytes ∷ []
all_gone bytes i inside le so_far =
    so_far ∙ ap (λ x. behind_first (take i bytes) (parted_elements inside x)) (drop_all i bytes le) ∙ ap (λ x. x ∷ []) (append-nil (take i bytes) ∙ take_all i bytes le)

-- nothing in front
pub begins : (inside : Bool) (bytes : List ℕ) → parted_elements inside bytes ≡ behind_first [] (parted_elements inside bytes)
begins inside [] = refl
begins inside (b ∷ bytes) = by (is_comma b && not inside) (parted_elements (inside_after inside b) bytes)
  where
    put : (pieces : List (List ℕ)) → in_first b pieces ≡ behind_first [] (in_first b pieces)
    put [] = refl
    put (piece ∷ pieces) = refl

    by : (t : Bool) (pieces : List (List ℕ)) → cond t ([] ∷ parted_elements inside bytes) (in_first b pieces) ≡ behind_first [] (cond t ([] ∷ parted_elements inside bytes) (in_first b pieces))
    by true pieces = refl
    by false pieces = put pieces

-- ---- the tests of one byte

pub no_end : (b : ℕ) (inside : Bool) → ((b ≡ 44) × (inside ≡ true)) ⊎ (b ≢ 44) → (is_comma b && not inside) ≡ false
no_end b inside (inl inner) = rw (inner.0, inner.1) refl
no_end b inside (inr other) = ap (λ t. t && not inside) (ne_eqb b 44 other)

pub at_quote : (b : ℕ) (inside after : Bool) → b ≡ 34 → after ≡ not inside → after ≡ inside_after inside b
at_quote b inside after at is = is ∙ ap (λ t. cond t (not inside) inside) (sym (eq-eqb b 34 at))

pub at_other : (b : ℕ) (inside after : Bool) → b ≢ 34 → after ≡ inside → after ≡ inside_after inside b
at_other b inside after other is = is ∙ ap (λ t. cond t (not inside) inside) (sym (ne_eqb b 34 other))

-- one more byte
pub stays : (bytes : List ℕ) (i : ℕ) (inside after : Bool) → i < length bytes → ((get_or bytes i 0 ≡ 44) × (inside ≡ true)) ⊎ (get_or bytes i 0 ≢ 44)
    → after ≡ inside_after inside (get_or bytes i 0) → parted_elements false bytes ≡ behind_first (take i bytes) (parted_elements inside (drop i bytes))
    → parted_elements false bytes ≡ behind_first (take (i + 1) bytes) (parted_elements after (drop (i + 1) bytes))
stays bytes i inside after lt either is so_far =
    so_far ∙ goes_on bytes i (get_or bytes i 0) inside lt refl (no_end (get_or bytes i 0) inside either)
    ∙ ap (λ x. behind_first (take (i + 1) bytes) (parted_elements x (drop (i + 1) bytes))) (sym is)
