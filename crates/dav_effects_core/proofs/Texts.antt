-- Whether bytes are a text.
use Rattle.std.proofs.Common.{◌≡◌, ℕ, Bool, true, false, List, refl}
use Rattle.std.specs.Str.{IsUtf8, is_utf8}
use Rattle.std.proofs.lemmas.Str.{IsUtf8-from_is_utf8, is_utf8-from_IsUtf8}

pub utf8_no : (bs : List ℕ) → ¬ (IsUtf8 bs) → is_utf8 bs ≡ false
utf8_no bs not_text = of (is_utf8 bs) refl
  where
    of : (b : Bool) → is_utf8 bs ≡ b → b ≡ false
    of false e = refl
    of true e = absurd (not_text (IsUtf8-from_is_utf8 bs e))

pub ruleset utf8_tests = (utf8_no, is_utf8-from_IsUtf8)
