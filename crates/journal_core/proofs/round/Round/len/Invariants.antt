use Rattle.std.proofs.Common.{◌≡◌, ◌+◌, ◌-◌, ◌^◌, length, min, take}
use Rattle.journal_core.specs.Private.Stages.{parts_text}
use Rattle.journal_core.proofs.round.Round.len.Given as goal

-- the bytes of the tail, and of the parts so far
abbrev pub invariant-counting : goal.invariant-counting
invariant-counting l = l.len ≡ min (length l.self.tail.items + length (parts_text (take l.part-index l.self.parts.items))) (2 ^ 64 - 1)
