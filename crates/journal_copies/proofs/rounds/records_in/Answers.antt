use Rattle.std.proofs.Common.{length, ap, arith, length-append}
use Rattle.journal_core.specs.Format.{record_text}
use Rattle.journal_core.proofs.Records.{record_size}
use Rattle.journal_copies.proofs.rounds.records_in.Goals as goal

pub counting-smaller : goal.counting-smaller
counting-smaller c = omega (arith, ap length c.in-Some.ensures, length-append (record_text c.in-Some._record.now) c.in-Some.behind.now, record_size c.in-Some._record.now)
