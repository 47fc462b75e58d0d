use Rattle.std.proofs.Common.{◌≡◌, ◌+◌, ◌-◌, ◌≤◌, List, ℕ, length, take, drop}
use Rattle.journal_core.proofs.reader.read_rest.Given as goal

-- what is there are the bytes of the file from where it began
abbrev pub invariant-reading : goal.invariant-reading
invariant-reading g l =
    (length l.round.items ≤ l.fn.len) × g.S.Source.is_usable l.source × g.S.Source.looks l.note l.fn.source l.source × (g.S.Source.is_honest l.source → g.S.Source.is_honest l.fn.source)
    × ((file : List ℕ) (at : ℕ) → g.S.Source.is_at l.fn.source file at → g.S.Source.is_at l.source file (at + length l.round.items)
    × (g.S.Source.is_honest l.source → l.round.items ≡ take (length l.round.items) (drop at file)))

abbrev pub decreases-reading : goal.decreases-reading
decreases-reading g l = l.fn.len - length l.round.items
