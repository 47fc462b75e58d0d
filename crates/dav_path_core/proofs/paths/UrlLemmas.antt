-- The URL spelling is what the set of escapes gives, it is decoded to the bytes again, and its bytes need no escape.
use Rattle.std.proofs.Common.{◌≡◌, ◌≢◌, ℕ, ◌<◌, ◌≤◌, Bool, true, false, not, cond, List, [], ◌∷◌, ◌++◌, All, refl, sym, ap, ◌∙◌, subst, ⊎_elim, arith}
use Rattle.std.specs.Char.{is_ascii}
use Rattle.std.proofs.lemmas.Bool.{agree_below, agree_below_at, cases_lt}
use Rattle.std.proofs.lemmas.Bool.Decides.{nat_tests}
use Rattle.percent_encoding.specs.AsciiSet.{contains, should_percent_encode}
use Rattle.percent_encoding.specs.Percent.{percent_encode, percent_encode_byte, percent_decode}
use Rattle.percent_encoding.proofs.PercentLemmas.{IsByte, IsEscapeByte, All-percent_encode, round_trip}
use Rattle.dav_path_core.specs.declared.davpath.url.TheConstants.{ESCAPED}
use Rattle.dav_path_core.specs.Url.{is_plain, url}

small : agree_below (contains ESCAPED) (λ b. not (is_plain b)) 128 ≡ true
small = refl

ascii_yes : (b : ℕ) → b < 128 → is_ascii b ≡ true
ascii_yes b h = grind (arith, nat_tests)

ascii_no : (b : ℕ) → 128 ≤ b → is_ascii b ≡ false
ascii_no b h = grind (arith, nat_tests)

plain_no : (b : ℕ) → 128 ≤ b → is_plain b ≡ false
plain_no b h = grind (arith, nat_tests)

escapes : (b : ℕ) → should_percent_encode ESCAPED b ≡ not (is_plain b)
unfolding should_percent_encode
escapes b =
    ⊎_elim
    (λ (lt : b < 128). rw (ascii_yes b lt) (agree_below_at (contains ESCAPED) (λ c. not (is_plain c)) 128 b small lt))
    (λ (ge : 128 ≤ b). rw (ascii_no b ge, plain_no b ge) refl)
    (cases_lt b 128)

either : (p : Bool) (x y : List ℕ) → cond (not p) x y ≡ cond p y x
either true x y = refl
either false x y = refl

pub url_is : (bytes : List ℕ) → percent_encode ESCAPED bytes ≡ url bytes
unfolding percent_encode url
url_is [] = refl
url_is (b ∷ bytes) =
    rw (escapes b, either (is_plain b) (percent_encode_byte b) (b ∷ [])) (ap (λ l. cond (is_plain b) (b ∷ []) (percent_encode_byte b) ++ l) (url_is bytes))

-- ---- the way back

pub decoded_url : (bytes : List ℕ) → All IsByte bytes → percent_decode (url bytes) ≡ bytes
decoded_url bytes small = ap percent_decode (sym (url_is bytes)) ∙ round_trip ESCAPED bytes refl small

-- no two lists of bytes have one spelling
pub url_once : (a b : List ℕ) → All IsByte a → All IsByte b → url a ≡ url b → a ≡ b
url_once a b small_a small_b same = sym (decoded_url a small_a) ∙ ap percent_decode same ∙ decoded_url b small_b

-- ---- its bytes

-- a byte that a request target may hold in its path
pub record IsSafe (b : ℕ) : Type 0 where
  pub low : 32 ≤ b
  pub high : b ≤ 126
  pub no_hash : b ≢ 35
  pub no_question : b ≢ 63

safe_plain : (b : ℕ) → is_plain b ≡ true → IsSafe b
safe_plain b h = record { low = grind (arith, nat_tests); high = grind (arith, nat_tests); no_hash = grind (arith, nat_tests); no_question = grind (arith, nat_tests) }

safe_kept : (b : ℕ) → should_percent_encode ESCAPED b ≡ false → IsSafe b
safe_kept b h = safe_plain b (plain_from (is_plain b) (sym (escapes b) ∙ h))
  where
    plain_from : (p : Bool) → not p ≡ false → p ≡ true
    plain_from true e = refl
    plain_from false e = cc

safe_escape : (b : ℕ) → IsEscapeByte b → IsSafe b
safe_escape b h = record { low = omega arith; high = omega arith; no_hash = λ e. omega arith; no_question = λ e. omega arith }

pub safe_url : (bytes : List ℕ) → All IsSafe (url bytes)
safe_url bytes = subst (All IsSafe) (url_is bytes) (All-percent_encode IsSafe ESCAPED bytes safe_kept safe_escape)
