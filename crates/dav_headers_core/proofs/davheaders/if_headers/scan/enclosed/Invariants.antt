use Rattle.std.proofs.Common.{◌≡◌, false, take, drop}
use Rattle.dav_headers_core.specs.Private.IfReading.{enclosed_at}
use Rattle.dav_headers_core.proofs.ifs.ScanLemmas.{behind_front}
use Rattle.dav_headers_core.proofs.davheaders.if_headers.scan.enclosed.Given as goal

abbrev pub invariant-loop-i : goal.invariant-loop-i
invariant-loop-i l = behind_front (take l.i l.bytes) (enclosed_at l.closing l.quoted (drop l.i l.bytes)) ≡ enclosed_at l.closing false l.bytes
