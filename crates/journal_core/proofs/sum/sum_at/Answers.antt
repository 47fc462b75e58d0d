use Rattle.std.proofs.Common.{rules}
use Rattle.journal_core.specs.Format.{sum_of}
use Rattle.journal_core.proofs.sum.sum_at.Goals as goal

pub returns : goal.returns
unfolding sum_of
returns c = search rules
