use Rattle.std.proofs.Common.{◌≡◌, ◌+◌, drop}
use Rattle.dav_headers_core.specs.Private.IfReading.{word_len}
use Rattle.dav_headers_core.proofs.davheaders.if_headers.scan.len_of_word.Given as goal

abbrev pub invariant-loop-i : goal.invariant-loop-i
invariant-loop-i l = l.i + word_len (drop l.i l.bytes) ≡ word_len l.bytes
