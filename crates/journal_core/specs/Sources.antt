-- What a source gives (own).
use Rattle.std.specs.Prelude.{◌≡◌, ◌≤◌, ℕ, List, Option, Some, length, drop}
use Rattle.journal_core.specs.declared.source.Stream.{Stream}

-- the reader will give what stands in the file from this place on
abbrev pub GivesFrom : {R : Type 0} → (R → Option (List ℕ)) → Stream R → List ℕ → ℕ → Type 0
GivesFrom remaining s file at = (remaining s.reader ≡ Some (drop at file)) × (at ≤ length file)
