-- Tables of texts with numbers, as code has them (own).
use Rattle.std.specs.Prelude.{ℕ, List}
use Rattle.std.specs.Borrow.{Bor}

-- an entry by its bytes
abbrev pub table_entry : Bor (List ℕ) × ℕ → List ℕ × ℕ
table_entry entry = (entry.0.now, entry.1)
