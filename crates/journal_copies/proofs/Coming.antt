-- Rounds that were read, one behind another.
use Rattle.std.proofs.Common.{◌≡◌, ℕ, List, [], ◌∷◌, ◌++◌, drop, refl, ap, ◌∙◌}
use Rattle.std.proofs.lemmas.List.{append-nil}
use Rattle.std.proofs.lemmas.Grind.{flat_map-append}
use Rattle.journal_core.specs.Format.{records_text}
use Rattle.journal_copies.specs.ReadRounds.{HoldRecords, records_of_all}

-- the last of them has records of its own
pub have_last : (rounds : List (List ℕ)) (r : List ℕ) (new : List (List (List ℕ))) → HoldRecords (rounds ++ r ∷ []) new
    → (front : List (List (List ℕ))) × (last : List (List ℕ)) × (new ≡ front ++ last ∷ []) × HoldRecords rounds front × (drop 16 r ≡ records_text last)
have_last [] r [] it = absurd it
have_last [] r (n ∷ []) it = ([], n, refl, tt, it.0)
have_last [] r (n ∷ m ∷ new) it = absurd it.1
have_last (q ∷ rounds) r [] it = absurd it
have_last (q ∷ rounds) r (n ∷ new) it =
    let rest = have_last rounds r new it.1 in
    (n ∷ rest.0, rest.1, ap (λ (l : List (List (List ℕ))). n ∷ l) rest.2, (it.0, rest.3), rest.4)

-- and so has any of them
pub have_one : (front back : List (List ℕ)) (r : List ℕ) (new : List (List (List ℕ))) → HoldRecords (front ++ r ∷ back) new → (n : List (List ℕ)) × (drop 16 r ≡ records_text n)
have_one [] back r [] it = absurd it
have_one [] back r (n ∷ new) it = (n, it.0)
have_one (q ∷ front) back r [] it = absurd it
have_one (q ∷ front) back r (n ∷ new) it = have_one front back r new it.1

pub records_last : (front : List (List (List ℕ))) (last : List (List ℕ)) → records_of_all (front ++ last ∷ []) ≡ records_of_all front ++ last
records_last front last = flat_map-append (λ (n : List (List ℕ)). n) front (last ∷ []) ∙ ap (λ (l : List (List ℕ)). records_of_all front ++ l) (append-nil last)

pub have_alone : (r : List ℕ) (new : List (List (List ℕ))) → HoldRecords (r ∷ []) new → (n : List (List ℕ)) × (new ≡ n ∷ []) × (drop 16 r ≡ records_text n)
have_alone r [] it = absurd it
have_alone r (n ∷ []) it = (n, refl, it.0)
have_alone r (n ∷ m ∷ new) it = absurd it.1
