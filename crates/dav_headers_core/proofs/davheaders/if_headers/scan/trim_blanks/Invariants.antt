use Rattle.std.proofs.Common.{◌≡◌, drop}
use Rattle.dav_headers_core.specs.Private.IfReading.{skip_blanks}
use Rattle.dav_headers_core.proofs.davheaders.if_headers.scan.trim_blanks.Given as goal

abbrev pub invariant-loop-i : goal.invariant-loop-i
invariant-loop-i l = skip_blanks (drop l.i l.bytes) ≡ skip_blanks l.bytes
