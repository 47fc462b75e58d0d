-- What is digested tells the name and the password.
use Rattle.std.proofs.Common.{◌≡◌, ◌<◌, ◌^◌, ℕ, List, ◌++◌, length, take, drop, refl, sym, ap, ◌∙◌}
use Rattle.std.proofs.lemmas.List.{append_assoc, append_cancel_left, drop_at, take_at}
use Rattle.std.proofs.lemmas.Nat.{from_le_bytes-to_le_bytes_8}
use Rattle.std.specs.Int.{w64, from_le_bytes, to_le_bytes}
use Rattle.dav_login_core.specs.Digests.{with_length, message}

-- two lists with fronts of one length
record SameParts (p q p' q' : List ℕ) : Type 0 where
  front : p ≡ p'
  rest : q ≡ q'

same_parts : (p q p' q' : List ℕ) (n : ℕ) → length p ≡ n → length p' ≡ n → p ++ q ≡ p' ++ q' → SameParts p q p' q'
same_parts p q p' q' n long long' e = record {
  front = sym (take_at p q n long) ∙ ap (take n) e ∙ take_at p' q' n long';
  rest = sym (drop_at p q n long) ∙ ap (drop n) e ∙ drop_at p' q' n long';
}

word_len : (n : ℕ) → length (to_le_bytes w64 n) ≡ 8
word_len n = refl

one_number : (m n : ℕ) → m < 2 ^ 64 → n < 2 ^ 64 → to_le_bytes w64 m ≡ to_le_bytes w64 n → m ≡ n
one_number m n fits fits' e = sym (from_le_bytes-to_le_bytes_8 m fits) ∙ ap (from_le_bytes w64) e ∙ from_le_bytes-to_le_bytes_8 n fits'

-- bytes behind their number, and what is behind them
one_counted : (a x b y : List ℕ) → length a < 2 ^ 64 → length b < 2 ^ 64 → with_length a ++ x ≡ with_length b ++ y → SameParts a x b y
one_counted a x b y fits fits' e =
    let whole = sym (append_assoc (to_le_bytes w64 (length a)) a x) ∙ e ∙ append_assoc (to_le_bytes w64 (length b)) b y in
    let at_word = same_parts (to_le_bytes w64 (length a)) (a ++ x) (to_le_bytes w64 (length b)) (b ++ y) 8 (word_len (length a)) (word_len (length b)) whole in
    let long = one_number (length a) (length b) fits fits' at_word.front in
    same_parts a x b y (length b) long refl at_word.rest

pub message_tells : (key name password name' password' : List ℕ) → length name < 2 ^ 64 → length name' < 2 ^ 64
    → message key name password ≡ message key name' password' → (name ≡ name') × (password ≡ password')
message_tells key name password name' password' fits fits' e =
    let parts = one_counted name (with_length password) name' (with_length password') fits fits' (append_cancel_left key _ _ e) in (
      parts.front,
      (same_parts (to_le_bytes w64 (length password)) password (to_le_bytes w64 (length password')) password' 8
          (word_len (length password)) (word_len (length password')) parts.rest).rest,
    )
