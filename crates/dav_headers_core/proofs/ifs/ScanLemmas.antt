-- Scans of a word and of an enclosed text.
use Rattle.std.proofs.Common.{ℕ, suc, ◌≤◌, arith, Bool, true, false, cond, List, [], ◌∷◌, ◌++◌, length, None, Some}
use Rattle.dav_headers_core.specs.IfBytes.{is_word_byte}
use Rattle.dav_headers_core.specs.Private.IfReading.{Found, word_len}

pub word_fits : (bytes : List ℕ) → word_len bytes ≤ length bytes
word_fits [] = omega arith
word_fits (b ∷ bytes) = go (is_word_byte b) (word_fits bytes)
  where
    go : (t : Bool) → word_len bytes ≤ length bytes → cond t (suc (word_len bytes)) 0 ≤ suc (length bytes)
    go true h = omega arith
    go false h = omega arith

-- a text found, with what stands before it
abbrev pub behind_front : List ℕ → Found (List ℕ) → Found (List ℕ)
behind_front front (Some found) = Some (front ++ found.0, found.1)
behind_front front None = None
