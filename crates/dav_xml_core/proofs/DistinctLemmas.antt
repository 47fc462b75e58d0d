-- Keys of names that were seen.
use Rattle.std.proofs.Common.{◌≡◌, refl, sym, ap, ◌∙◌, ℕ, Bool, true, false, ◌&&◌, ◌||◌, ◌==◌, eqb, ltb, arith, not, cond, List, [], ◌∷◌, ◌++◌, Bor, Ordering, Less, Equal, Greater}
use Rattle.std.specs.Prelude.{bytes_eq, encode_utf8_all}
use Rattle.std.specs.Ordering.{nat_cmp, ordering_then, is_eq}
use Rattle.std.specs.Cmp.Lexicographic.{slice_cmp}
use Rattle.std.specs.List.{list_any}
use Rattle.std.proofs.lemmas.Bool.Decides.{same_from_decides, nat_tests}
use Rattle.std.proofs.lemmas.Map.Text.{is_eq-slice_cmp}
use Rattle.std.proofs.lemmas.List.Folds.{list_any-append}
use Rattle.std.proofs.lemmas.Slice.Eq.{bytes_eq-Decides}
use Rattle.std.proofs.lemmas.Str.{encodes_same}
use Rattle.dav_xml_core.specs.Scopes.{same_key, distinct_keys}
use Rattle.dav_xml_core.specs.Views.{attribute_key_of}

abbrev Key : Type 0
Key = ℕ × Bor (List ℕ)

abbrev pub key_cmp : Key → Key → Ordering
key_cmp a b = ordering_then (nat_cmp a.0 b.0) (slice_cmp nat_cmp a.1.now b.1.now)

is_eq_then : (o p : Ordering) → is_eq (ordering_then o p) ≡ (is_eq o && is_eq p)
is_eq_then Less p = refl
is_eq_then Equal p = refl
is_eq_then Greater p = refl

both : (a b c d : Bool) → a ≡ c → b ≡ d → (a && b) ≡ (c && d)
both a b c d e f = ap (λ x. x && b) e ∙ ap (λ x. c && x) f

number_is : (a b : ℕ) → is_eq (nat_cmp a b) ≡ (b == a)
number_is a b = go (ltb a b) refl (eqb a b) refl
  where
    go : (less : Bool) → ltb a b ≡ less → (same : Bool) → eqb a b ≡ same → is_eq (cond less Less (cond same Equal Greater)) ≡ (b == a)
    go less e same f = grind (arith, nat_tests)

local_is : (a b : List ℕ) → is_eq (slice_cmp nat_cmp a b) ≡ bytes_eq (encode_utf8_all b) (encode_utf8_all a)
local_is a b =
    let d = bytes_eq-Decides (encode_utf8_all b) (encode_utf8_all a) in
    is_eq-slice_cmp a b
    ∙ same_from_decides {P = a ≡ b} _ _ (bytes_eq-Decides a b) (λ e. encodes_same a b (sym (d.0 e)), λ e. d.1 (ap encode_utf8_all (sym e)))

key_is : (a b : Key) → is_eq (key_cmp a b) ≡ same_key (attribute_key_of b) (attribute_key_of a)
key_is a b = is_eq_then (nat_cmp a.0 b.0) (slice_cmp nat_cmp a.1.now b.1.now) ∙ both _ _ _ _ (number_is a.0 b.0) (local_is a.1.now b.1.now)

as_or : (b x : Bool) → cond b true x ≡ (x || (b || false))
as_or true true = refl
as_or true false = refl
as_or false true = refl
as_or false false = refl

-- the keys with one more
pub one_more : (other key : Key) (seen : List (ℕ × List ℕ))
    → cond (is_eq (key_cmp key other)) true (list_any (same_key (attribute_key_of other)) seen) ≡ list_any (same_key (attribute_key_of other)) (seen ++ attribute_key_of key ∷ [])
one_more other key seen =
    ap (λ b. cond b true (list_any (same_key (attribute_key_of other)) seen)) (key_is key other)
    ∙ as_or (same_key (attribute_key_of other) (attribute_key_of key)) (list_any (same_key (attribute_key_of other)) seen)
    ∙ sym (list_any-append (same_key (attribute_key_of other)) seen (attribute_key_of key ∷ []))

-- a key that was not there yet, and one that was
pub new_key : (seen keys : List (ℕ × List ℕ)) (key : ℕ × List ℕ) (had : Bool) → had ≡ list_any (same_key key) seen → true ≡ not had
    → distinct_keys seen (key ∷ keys) ≡ distinct_keys (seen ++ key ∷ []) keys
new_key seen keys key had e added = ap (λ b. not b && distinct_keys (seen ++ key ∷ []) keys) (sym e) ∙ ap (λ b. b && distinct_keys (seen ++ key ∷ []) keys) (sym added)

pub old_key : (seen keys : List (ℕ × List ℕ)) (key : ℕ × List ℕ) (had : Bool) → had ≡ list_any (same_key key) seen → false ≡ not had
    → distinct_keys seen (key ∷ keys) ≡ false
old_key seen keys key had e added = ap (λ b. not b && distinct_keys (seen ++ key ∷ []) keys) (sym e) ∙ ap (λ b. b && distinct_keys (seen ++ key ∷ []) keys) (sym added)
