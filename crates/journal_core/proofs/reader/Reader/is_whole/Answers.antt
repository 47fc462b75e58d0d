use Rattle.std.proofs.Common.{rules, ℕ, List, sym, ◌∙◌, ap}
use Rattle.journal_core.specs.Format.{sum_of, word_of}
use Rattle.journal_core.proofs.Numbers.{word_one}
use Rattle.journal_core.proofs.reader.Reader.is_whole.Goals as goal

pub returns-then-sum_at-sum_read-clause-other : goal.returns-then-sum_at-sum_read-clause-other
returns-then-sum_at-sum_read-clause-other c = λ _ records some is e. c.if-sum_at-sum_read.true (word_one c.sum_at.result c.args.sum_read (search rules) (search rules) (ap word_of (c.sum_at.ensures ∙ ap (λ (l : List ℕ). sum_of c.args.self.now.header.key c.args.self.now.place l) c.deref.ensures.value) ∙ sym e))
