use Rattle.std.proofs.Common.{arith}
use Rattle.dav_effects_core.specs.RecordReading.{record_at}
use Rattle.dav_effects_core.proofs.RecordReads.{is_found, is_changes, is_only, is_fault}
use Rattle.dav_effects_core.proofs.reading.read.Goals as goal

pub returns-clause-found : goal.returns-clause-found
returns-clause-found c = is_found c.args.bytes.now c.read_all.result (λ i. omega (arith, c.type_inv.bytes i)) c.read_all.ensures

pub returns-clause-only : goal.returns-clause-only
returns-clause-only c = λ ns is. is_only c.args.bytes.now c.read_all.result ns c.read_all.ensures is

pub returns-clause-fault : goal.returns-clause-fault
returns-clause-fault c = is_fault c.read_all.result (record_at c.args.bytes.now) c.read_all.ensures

pub returns-clause-changes : goal.returns-clause-changes
returns-clause-changes c = is_changes c.args.bytes.now c.read_all.result (λ i. omega (arith, c.type_inv.bytes i)) c.read_all.ensures
