-- Numbers in eight bytes.
use Rattle.std.proofs.Common.{◌≡◌, ◌≢◌, ℕ, ◌<◌, ◌^◌, List, ◌++◌, length, take, drop, refl, sym, ◌∙◌, ap, ◌⊎◌, inl, inr, Bool, true, false, Decides}
use Rattle.std.proofs.lemmas.Bool.{false≢true}
use Rattle.std.proofs.lemmas.Slice.Eq.{bytes_eq-Decides}
use Rattle.std.specs.Str.{bytes_eq}
use Rattle.std.proofs.lemmas.List.{take_at, drop_at, take-append-drop}
use Rattle.std.proofs.lemmas.Nat.{from_le_bytes-to_le_bytes_8}
use Rattle.std.specs.Int.{w64, from_le_bytes, to_le_bytes}
use Rattle.journal_core.specs.Format.{shut_word, word_of}

pub word_len : (n : ℕ) → length (word_of n) ≡ 8
unfolding word_of
word_len n = refl

pub word_one : (n m : ℕ) → n < 2 ^ 64 → m < 2 ^ 64 → word_of n ≡ word_of m → n ≡ m
unfolding word_of
word_one n m n_fits m_fits is = sym (from_le_bytes-to_le_bytes_8 n n_fits) ∙ ap (from_le_bytes w64) is ∙ from_le_bytes-to_le_bytes_8 m m_fits

-- two lists that begin with parts of one length
pub parts_same : (a b xs ys : List ℕ) → length a ≡ length b → a ++ xs ≡ b ++ ys → (a ≡ b) × (xs ≡ ys)
parts_same a b xs ys len is = (
  sym (take_at a xs (length a) refl) ∙ ap (λ (l : List ℕ). take (length a) l) is ∙ take_at b ys (length a) (sym len),
  sym (drop_at a xs (length a) refl) ∙ ap (λ (l : List ℕ). drop (length a) l) is ∙ drop_at b ys (length a) (sym len),
)

-- two lists that begin with numbers
pub words_same : (n m : ℕ) (xs ys : List ℕ) → n < 2 ^ 64 → m < 2 ^ 64 → word_of n ++ xs ≡ word_of m ++ ys → (n ≡ m) × (xs ≡ ys)
words_same n m xs ys n_fits m_fits is =
    let both = parts_same (word_of n) (word_of m) xs ys (word_len n ∙ sym (word_len m)) is in
    (word_one n m n_fits m_fits both.0, both.1)

-- what stands in the first eight bytes, and behind them
pub word_and_rest : (bytes word rest : List ℕ) (n : ℕ) → word ≡ word_of n → word ≡ take 8 bytes → rest ≡ drop 8 bytes → bytes ≡ word_of n ++ rest
word_and_rest bytes word rest n is front behind =
    sym (take-append-drop 8 bytes) ∙ ap (λ (l : List ℕ). l ++ drop 8 bytes) (sym front ∙ is) ∙ ap (λ (l : List ℕ). word_of n ++ l) (sym behind)

-- the bytes of a number, which is another by arithmetic
pub word_as : (n m : ℕ) (word : List ℕ) → word ≡ to_le_bytes w64 n → n ≡ m → word ≡ word_of m
unfolding word_of
word_as n m word is same = is ∙ ap (to_le_bytes w64) same

-- whether a word shuts a gate
pub shut_or_not : (word : List ℕ) → (word ≡ shut_word) ⊎ (word ≢ shut_word)
shut_or_not word = decided (bytes_eq word shut_word) (word ≡ shut_word) (bytes_eq-Decides word shut_word)
  where
    decided : (b : Bool) (P : Type 0) → Decides b P → P ⊎ (P → ⊥)
    decided true P d = inl (d.0 refl)
    decided false P d = inr (λ p. absurd (false≢true (d.1 p)))
