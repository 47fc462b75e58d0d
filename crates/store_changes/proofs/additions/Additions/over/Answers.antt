use Rattle.std.proofs.Common.{arith}
use Rattle.store_changes.proofs.KeptImportLemmas.{adds_begin}
use Rattle.store_changes.proofs.additions.Additions.over.Goals as goal

pub returns-clause-begins : goal.returns-clause-begins
returns-clause-begins c = adds_begin (record { opened = c.args.opened; round = c.new.result; records = 0; files = 0; folders = 0 }) c.new.ensures (omega arith)
