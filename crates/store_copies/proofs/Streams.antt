-- Rounds as they come in a stream.
use Rattle.std.proofs.Common.{◌≡◌, ℕ, List, [], ◌∷◌, ◌++◌, length, refl, sym, ◌∙◌, ap, subst, append_assoc}
use Rattle.std.proofs.lemmas.List.{append-nil}
use Rattle.std.specs.Prelude.{Option, None, Some}
use Rattle.std.specs.Io.KnownBytes.{Consumes}
use Rattle.store_copies.specs.TakenRounds.{Came}

pub consumes_two : (old mid new : Option (List ℕ)) (a b : List ℕ) → Consumes old mid a → Consumes mid new b → Consumes old new (a ++ b)
consumes_two None mid new a b first second = tt
consumes_two (Some xs) None new a b first second = absurd first
consumes_two (Some xs) (Some ys) None a b first second = absurd second
consumes_two (Some xs) (Some ys) (Some zs) a b first second = first ∙ ap (λ (l : List ℕ). a ++ l) second ∙ sym (append_assoc a b zs)

-- one round behind the word at its gate
pub came_one : (word round : List ℕ) → length word ≡ 8 → Came (round ∷ []) (word ++ round)
came_one word round len = (word, [], len, ap (λ (l : List ℕ). word ++ l) (sym (append-nil round)), refl)

-- one behind others
pub came_two : (rounds more : List (List ℕ)) (a b : List ℕ) → Came rounds a → Came more b → Came (rounds ++ more) (a ++ b)
came_two [] more a b none second = subst (λ (l : List ℕ). Came more (l ++ b)) (sym none) second
came_two (r ∷ rounds) more a b first second = (
  first.0,
  first.1 ++ b,
  first.2,
  ap (λ (l : List ℕ). l ++ b) first.3 ∙ append_assoc first.0 (r ++ first.1) b ∙ ap (λ (l : List ℕ). first.0 ++ l) (append_assoc r first.1 b),
  came_two rounds more first.1 b first.4 second,
)
