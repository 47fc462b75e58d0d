use Rattle.std.proofs.Common.{◌≡◌, ◌-◌, length}
use Rattle.dav_headers_core.specs.Private.IfReading.{conditions_at}
use Rattle.dav_headers_core.specs.IfValues.{conditions_of}
use Rattle.dav_headers_core.proofs.ifs.IfLoopLemmas.{with_front}
use Rattle.dav_headers_core.proofs.davheaders.if_headers.conditions.conditions_at.Given as goal

abbrev pub invariant-loop : goal.invariant-loop
invariant-loop l = with_front (conditions_of l.conditions.items) (conditions_at (length l.bytes - l.counter) l.rest) ≡ conditions_at (length l.bytes) l.bytes
