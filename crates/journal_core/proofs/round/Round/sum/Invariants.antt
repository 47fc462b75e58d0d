use Rattle.std.proofs.Common.{◌≡◌, take}
use Rattle.std.specs.Hash.DefaultHasher as sip
use Rattle.journal_core.specs.Format.{begun_sum}
use Rattle.journal_core.specs.Private.Stages.{parts_text}
use Rattle.journal_core.proofs.round.Round.sum.Given as goal

-- the parts so far were fed
abbrev pub invariant-feeding : goal.invariant-feeding
invariant-feeding l = l.hasher ≡ sip.write (begun_sum l.key l.place l.len) (parts_text (take l.part-index l.self.parts.items))
