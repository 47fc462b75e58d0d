use Rattle.std.proofs.Common.{arith}
use Rattle.journal_copies.proofs.Wholes.{round_alone}
use Rattle.journal_copies.proofs.reading.is_round.Goals as goal

pub returns : goal.returns
returns c = λ _. round_alone c.args.key c.args.place c.args.bytes.now c.in-Some.text.now c.in-Some.ensures (omega arith)
