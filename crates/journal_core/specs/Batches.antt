-- Rounds in memory that are to be appended at once (own).
use Rattle.std.specs.Prelude.{◌≡◌, ◌⊎◌, ℕ, ◌+◌, ◌<◌, List, [], length}
use Rattle.journal_core.specs.declared.journal.Journal.{Journal}
use Rattle.journal_core.specs.declared.batch.Batch.{Batch}
use Rattle.journal_core.specs.SeveralRounds.{AreRoundsBehind}

-- they have these records
abbrev pub Gathers : Batch → List (List ℕ) → Type 0
Gathers r records = ((r.text.items ≡ []) × (records ≡ [])) ⊎ AreRoundsBehind r.key r.gate r.text.items records

-- how many bytes they have, behind the gate of the first
abbrev pub bytes_gathered : Batch → ℕ
bytes_gathered r = length r.text.items

-- the key of the journal, and the gate behind which they are to stand
abbrev pub place_for : Batch → ℕ × ℕ
place_for r = (r.key, r.gate)

-- that is the gate of this journal
abbrev pub FitsBehind : {D B : Type 0} → Batch → Journal D B → Type 0
FitsBehind r j = place_for r ≡ (j.header.key, j.at)

-- where the gate of one more is
abbrev pub IsNextGate : Batch → ℕ → Type 0
IsNextGate r place = ((r.text.items ≡ []) × (place ≡ r.gate)) ⊎ ((0 < length r.text.items) × (place ≡ r.gate + (8 + length r.text.items)))
