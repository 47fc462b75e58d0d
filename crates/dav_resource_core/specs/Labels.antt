-- Labels of locks, by the tokens that were granted, in the order of granting (own).
use Rattle.std.specs.Prelude.{ℕ, List, Option, unwrap_or, bytes_eq}
use Rattle.std.specs.List.{position_from}

-- the smallest number, from 1, of a lock that was granted with the token
abbrev pub smallest_label : List (List ℕ) → List ℕ → Option ℕ
smallest_label tokens token = position_from (λ granted. bytes_eq granted token) 1 tokens

-- the number that the token's label shows; 0 where no lock was granted with it
abbrev pub label_in : List (List ℕ) → List ℕ → ℕ
label_in tokens token = unwrap_or (smallest_label tokens token) 0
