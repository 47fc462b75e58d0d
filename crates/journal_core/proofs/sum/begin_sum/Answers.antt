use Rattle.std.proofs.Common.{rules}
use Rattle.journal_core.specs.Format.{begun_sum, word_of}
use Rattle.journal_core.proofs.sum.begin_sum.Goals as goal

pub returns : goal.returns
unfolding begun_sum word_of
returns c = search rules
