use Rattle.std.proofs.Common.{◌≤◌, ◌<◌, ◌+◌, ℕ, drop}
use Rattle.journal_copies.specs.WholeRounds.{HasNoRound}
use Rattle.journal_copies.proofs.searching.find_round.Given as goal

-- none so far
abbrev pub invariant-searching : goal.invariant-searching
invariant-searching l = (at : ℕ) → l.from ≤ at → at < l.at → HasNoRound l.key (l.base + at) (drop (at + 8) l.bytes)
