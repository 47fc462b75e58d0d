-- Texts of visible ASCII: they are told in a document as they are.
use Rattle.std.proofs.Common.{◌≡◌, refl, sym, ◌∙◌, ℕ, zero, suc, ◌/◌, ◌%◌, ◌<◌, ◌≤◌, arith, Bool, true, false, cond, List, [], ◌∷◌, ◌++◌}
use Rattle.std.specs.Prelude.{IsAscii, decimal, encode_utf8_all, ◌==◌, slice_index_or, flat_map}
use Rattle.std.specs.Fmt.{digit_glyph, digits, digits_onto}
use Rattle.std.specs.List.{AllByRecursion, list_all}
use Rattle.std.proofs.lemmas.Bool.{and_parts, false≢true}
use Rattle.std.proofs.lemmas.Bool.Decides.{nat_tests}
use Rattle.std.proofs.lemmas.List.Elements.{recursion_from_All}
use Rattle.std.proofs.lemmas.List.Folds.{list_all-append}
use Rattle.std.proofs.lemmas.Str.{encodes-IsAscii}
use Rattle.dav_path_core.specs.Url.{url}
use Rattle.dav_path_core.proofs.paths.UrlLemmas.{IsSafe, safe_url}
use Rattle.dav_xml_core.specs.Characters.{is_char}
use Rattle.dav_xml_core.specs.Scanning.{is_nil}
use Rattle.dav_documents_core.specs.KeptElements.{IsVisible, is_printable}

abbrev pub AreVisible : List ℕ → Type 0
AreVisible text = list_all is_printable text ≡ true

pub visible : (b : ℕ) → 32 ≤ b → b ≤ 126 → is_printable b ≡ true
visible b low high = grind (arith, nat_tests)

pub one_more : (b : ℕ) (text : List ℕ) → 32 ≤ b → b ≤ 126 → AreVisible text → AreVisible (b ∷ text)
one_more b text low high h = rw (visible b low high, h) refl

pub joined : (before behind : List ℕ) → AreVisible before → AreVisible behind → AreVisible (before ++ behind)
joined before behind h k = list_all-append is_printable before behind ∙ rw (h, k) refl

pub some_behind : (before behind : List ℕ) → is_nil behind ≡ false → is_nil (before ++ behind) ≡ false
some_behind [] behind h = h
some_behind (b ∷ before) behind h = refl

pub some_before : (before behind : List ℕ) → is_nil before ≡ false → is_nil (before ++ behind) ≡ false
some_before [] behind h = absurd (false≢true (sym h))
some_before (b ∷ before) behind h = refl

pub all_joined : {A : Type 0} (f : A → List ℕ) (xs : List A) → ((x : A) → AreVisible (f x)) → AreVisible (flat_map f xs)
all_joined f [] h = refl
all_joined f (x ∷ xs) h = joined (f x) (flat_map f xs) (h x) (all_joined f xs h)

-- ---- what a document takes of them

char : (b : ℕ) → is_printable b ≡ true → is_char b ≡ true
char b h = grind (arith, nat_tests)

low_byte : (b : ℕ) → is_printable b ≡ true → b < 128
low_byte b h = grind (arith, nat_tests)

pub all_chars : (text : List ℕ) → AreVisible text → list_all is_char text ≡ true
all_chars [] h = refl
all_chars (b ∷ text) h = let p = and_parts (is_printable b) (list_all is_printable text) h in rw (char b p.0, all_chars text p.1) refl

ascii : (text : List ℕ) → AreVisible text → IsAscii text
ascii [] h i = omega arith
ascii (b ∷ text) h zero = low_byte b (and_parts (is_printable b) (list_all is_printable text) h).0
ascii (b ∷ text) h (suc i) = ascii text (and_parts (is_printable b) (list_all is_printable text) h).1 i

pub same_bytes : (text : List ℕ) → AreVisible text → encode_utf8_all text ≡ text
same_bytes text h = encodes-IsAscii text (ascii text h)

-- ---- URLs

safe : (b : ℕ) → IsSafe b → is_printable b ≡ true
safe b h = visible b h.low h.high

all_safe : (text : List ℕ) → AllByRecursion IsSafe text → AreVisible text
all_safe [] h = refl
all_safe (b ∷ text) h = rw (safe b h.0, all_safe text h.1) refl

pub url_visible : (bytes : List ℕ) → AreVisible (url bytes)
url_visible bytes = all_safe (url bytes) (recursion_from_All IsSafe (url bytes) (safe_url bytes))

-- ---- numbers

glyph : (n : ℕ) → is_printable (digit_glyph false (n % 10)) ≡ true
glyph n = grind (arith, nat_tests)

digits_visible : (k n : ℕ) (behind : List ℕ) → AreVisible behind → AreVisible (digits_onto k 10 false n behind)
digits_visible zero n behind h = h
digits_visible (suc k) n behind h = by (n / 10 == 0) (rw (glyph n, h) refl) (λ all. digits_visible k (n / 10) (digit_glyph false (n % 10) ∷ behind) all)
  where
    by : (b : Bool) → AreVisible (digit_glyph false (n % 10) ∷ behind)
        → (AreVisible (digit_glyph false (n % 10) ∷ behind) → AreVisible (digits_onto k 10 false (n / 10) (digit_glyph false (n % 10) ∷ behind)))
        → AreVisible (cond b (digit_glyph false (n % 10) ∷ behind) (digits_onto k 10 false (n / 10) (digit_glyph false (n % 10) ∷ behind)))
    by true all more = all
    by false all more = more all

digits_some : (k n : ℕ) (behind : List ℕ) → is_nil behind ≡ false → is_nil (digits_onto k 10 false n behind) ≡ false
digits_some zero n behind h = h
digits_some (suc k) n behind h = by (n / 10 == 0) (digits_some k (n / 10) (digit_glyph false (n % 10) ∷ behind) refl)
  where
    by : (b : Bool) → is_nil (digits_onto k 10 false (n / 10) (digit_glyph false (n % 10) ∷ behind)) ≡ false
        → is_nil (cond b (digit_glyph false (n % 10) ∷ behind) (digits_onto k 10 false (n / 10) (digit_glyph false (n % 10) ∷ behind))) ≡ false
    by true more = refl
    by false more = more

one_digit : (k n : ℕ) → is_nil (digits_onto (suc k) 10 false n []) ≡ false
one_digit k n = by (n / 10 == 0)
  where
    by : (b : Bool) → is_nil (cond b (digit_glyph false (n % 10) ∷ []) (digits_onto k 10 false (n / 10) (digit_glyph false (n % 10) ∷ []))) ≡ false
    by true = refl
    by false = digits_some k (n / 10) (digit_glyph false (n % 10) ∷ []) refl

pub decimal_visible : (n : ℕ) → IsVisible (decimal n)
unfolding digits
decimal_visible n = record { some = one_digit 63 n; each = digits_visible 64 n [] refl }

-- ---- tables
