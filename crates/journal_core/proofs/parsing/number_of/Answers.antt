use Rattle.std.proofs.Common.{rules, sym}
use Rattle.std.proofs.lemmas.Nat.{le_bytes_8}
use Rattle.journal_core.specs.Format.{word_of}
use Rattle.journal_core.proofs.parsing.number_of.Goals as goal

pub returns : goal.returns
unfolding word_of
returns c = sym (le_bytes_8 c.args.word.now _ (search rules) (search rules) c.from_le_bytes.ensures)
