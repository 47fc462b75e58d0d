-- What happens to limits of guesses, one thing after another (own).
use Rattle.std.specs.Prelude.{◌≡◌, ◌+◌, ◌&&◌, ℕ, Bool, true, not, List, [], ◌∷◌, is_some, nat_eq, if◌then◌else◌}
use Rattle.dav_login_core.specs.Guessing.{AsksAt, CountsWrong, GuessState, behind_hash, has_guess, may_guess, payer}

-- Somebody asked at a moment; or a guess of a label was let through at the last moment, and hashed; or one was wrong: whether its label has a bucket of its own.
pub data GuessEvent : Type 0 where
  Asked : (told : ℕ) → GuessEvent
  Hashed : (label : ℕ) → GuessEvent
  Wrong : (label : ℕ) (own : Bool) → GuessEvent

-- a guess was let through, and hashed
pub record WasHashed (label : ℕ) (old new : GuessState) : Type 0 where
  pub let_through : may_guess old label ≡ true
  pub costs : new ≡ behind_hash old

-- a guess was wrong that its bucket let through
pub record WasWrong (label : ℕ) (has_own : Bool) (old new : GuessState) : Type 0 where
  pub let_through : has_guess (payer old label) old.latest ≡ true
  pub own : has_own ≡ is_some (old.table label)
  pub counts : CountsWrong label old new

abbrev pub Happens : GuessEvent → GuessState → GuessState → Type 0
Happens (Asked told) old new = AsksAt told old new
Happens (Hashed label) old new = WasHashed label old new
Happens (Wrong label own) old new = WasWrong label own old new

abbrev pub Happen : List GuessEvent → GuessState → GuessState → Type 0
Happen [] old new = new ≡ old
Happen (e ∷ es) old new = (mid : GuessState) × Happens e old mid × Happen es mid new

-- how many wrong guesses pass the test
abbrev pub wrong_by : (ℕ → Bool → Bool) → List GuessEvent → ℕ
wrong_by test [] = 0
wrong_by test (Asked told ∷ es) = wrong_by test es
wrong_by test (Hashed label ∷ es) = wrong_by test es
wrong_by test (Wrong label own ∷ es) = if test label own then 1 + wrong_by test es else wrong_by test es

-- those that a label's own bucket paid
abbrev pub wrong_of : ℕ → List GuessEvent → ℕ
wrong_of label es = wrong_by (λ l own. nat_eq l label && own) es

-- those that the bucket of all others paid
abbrev pub wrong_of_strangers : List GuessEvent → ℕ
wrong_of_strangers es = wrong_by (λ l own. not own) es

-- how many passwords were hashed, of all labels
abbrev pub hash_count : List GuessEvent → ℕ
hash_count [] = 0
hash_count (Asked told ∷ es) = hash_count es
hash_count (Hashed label ∷ es) = 1 + hash_count es
hash_count (Wrong label own ∷ es) = hash_count es
