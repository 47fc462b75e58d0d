-- The two pieces around one dash.
use Rattle.std.proofs.Common.{◌≡◌, ◌≢◌, refl, ℕ, ◌<◌, arith, false, not, List, [], ◌∷◌, ◌++◌, length, get_or, None, Some, inl, inr}
use Rattle.std.specs.List.{All, slice_split, position_or_len, before_first, after_first}
use Rattle.std.proofs.lemmas.Bool.{eq-eqb, ne_eqb, cases_lt, both_ways, not-true}
use Rattle.std.proofs.lemmas.List.Elements.{All-from_get_or}
use Rattle.std.proofs.lemmas.List.Splits.{slice_split_none, slice_split_at, slice_split_first, length-slice_split}
use Rattle.std.proofs.lemmas.List.Sums.{prefix_len_passes}
use Rattle.dav_headers_core.specs.UpdateRanges.{is_hyphen, two}

abbrev pub NoDash : List ℕ → Type 0
NoDash bytes = (i : ℕ) → i < length bytes → get_or bytes i 0 ≢ 45

no_dash : (bytes : List ℕ) → NoDash bytes → All (λ b. is_hyphen b ≡ false) bytes
no_dash bytes h = All-from_get_or (λ b. is_hyphen b ≡ false) bytes 0 (λ i lt. ne_eqb (get_or bytes i 0) 45 (h i lt))

pub no_two : (bytes : List ℕ) → NoDash bytes → two (slice_split is_hyphen bytes) ≡ None
no_two bytes h = rw (slice_split_none is_hyphen bytes (no_dash bytes h)) refl

pub just_two : (bytes first last : List ℕ) → bytes ≡ first ++ (45 ∷ last) → NoDash first → NoDash last → two (slice_split is_hyphen bytes) ≡ Some (first, last)
just_two bytes first last e h k =
    rw (e, slice_split_at is_hyphen first 45 last (no_dash first h) refl, slice_split_none is_hyphen last (no_dash last k)) refl

-- a list with a dash is split there
splits : (bytes : List ℕ) (k : ℕ) → k < length bytes → get_or bytes k 0 ≡ 45 → position_or_len is_hyphen bytes < length bytes
splits bytes k lt e =
    elim (cases_lt (position_or_len is_hyphen bytes) (length bytes)) [
      | inl below ↦ below
      | inr above ↦ absurd (both_ways (is_hyphen (get_or bytes k 0)) (not-true (is_hyphen (get_or bytes k 0)) (prefix_len_passes (λ b. not (is_hyphen b)) bytes k 0 (omega arith))) (eq-eqb (get_or bytes k 0) 45 e))
    ]

three : (a b : List ℕ) (parts : List (List ℕ)) → 0 < length parts → two (a ∷ b ∷ parts) ≡ None
three a b [] some = absurd (omega arith)
three a b (part ∷ parts) some = refl

pub too_many : (bytes first last : List ℕ) (k : ℕ) → bytes ≡ first ++ (45 ∷ last) → NoDash first → k < length last → get_or last k 0 ≡ 45 → two (slice_split is_hyphen bytes) ≡ None
too_many bytes first last k e h lt dash =
    rw (e, slice_split_at is_hyphen first 45 last (no_dash first h) refl, slice_split_first is_hyphen last 0 (splits last k lt dash))
    (three first (before_first is_hyphen last) (slice_split is_hyphen (after_first is_hyphen last)) (omega (arith, length-slice_split is_hyphen (after_first is_hyphen last))))
