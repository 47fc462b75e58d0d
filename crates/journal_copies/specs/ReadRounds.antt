-- Rounds that were read, one behind another (own).
use Rattle.std.specs.Prelude.{◌≡◌, ℕ, List, [], ◌∷◌, drop, flat_map, map}
use Rattle.std.specs.Global.{Vec}
use Rattle.journal_core.specs.Format.{records_text}

-- behind their length and their sum these rounds have the bytes of these records, each of its own
abbrev pub HoldRecords : List (List ℕ) → List (List (List ℕ)) → Type 0
HoldRecords [] [] = Unit {0}
HoldRecords [] (n ∷ new) = ⊥
HoldRecords (r ∷ rounds) [] = ⊥
HoldRecords (r ∷ rounds) (n ∷ new) = (drop 16 r ≡ records_text n) × HoldRecords rounds new

-- the records of all of them
abbrev pub records_of_all : List (List (List ℕ)) → List (List ℕ)
records_of_all new = flat_map (λ n. n) new

abbrev pub bytes_of_each : List (Vec ℕ) → List (List ℕ)
bytes_of_each rounds = map (λ r. r.items) rounds
