use Rattle.std.proofs.Common.{rules, ◌≡◌, sym, ◌∙◌, ap}
use Rattle.std.proofs.lemmas.Bool.{false≢true}
use Rattle.std.proofs.Common.{eq-eqb}
use Rattle.journal_core.specs.Format.{word_of}
use Rattle.journal_core.proofs.Numbers.{word_one}
use Rattle.journal_copies.proofs.rounds.is_whole.Goals as goal

pub returns-clause-other : goal.returns-clause-other
returns-clause-other c = λ other records some is e.
    let same : c.sum_at.result ≡ c.args.sum_read = word_one c.sum_at.result c.args.sum_read (search rules) (search rules) (ap word_of c.sum_at.ensures ∙ sym e) in
    false≢true (sym other ∙ eq-eqb c.sum_at.result c.args.sum_read same)
