-- UTF-8 as a test.
use Rattle.std.proofs.Common.{◌≡◌, ℕ, true, false, List}
use Rattle.std.specs.Prelude.{IsUtf8}
use Rattle.std.specs.Str.{is_utf8}
use Rattle.std.proofs.lemmas.Bool.{false_from_ne_true}
use Rattle.std.proofs.lemmas.Str.{IsUtf8-from_is_utf8, is_utf8-from_IsUtf8}

pub utf8_test : (bytes : List ℕ) → IsUtf8 bytes → is_utf8 bytes ≡ true
utf8_test bytes h = is_utf8-from_IsUtf8 bytes h

pub utf8_fails : (bytes : List ℕ) → (IsUtf8 bytes → ⊥) → is_utf8 bytes ≡ false
utf8_fails bytes h = false_from_ne_true (is_utf8 bytes) (λ e. h (IsUtf8-from_is_utf8 bytes e))
