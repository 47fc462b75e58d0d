use Rattle.std.proofs.Common.{◌≡◌, ◌++◌, List, ℕ, length}
use Rattle.journal_core.specs.Format.{records_text}
use Rattle.journal_core.proofs.parsing.are_records.Given as goal

-- what was read are records
abbrev pub invariant-reading : goal.invariant-reading
invariant-reading l = (records : List (List ℕ)) × (l.fn.bytes ≡ records_text records ++ l.rest)

abbrev pub decreases-reading : goal.decreases-reading
decreases-reading l = length l.rest
