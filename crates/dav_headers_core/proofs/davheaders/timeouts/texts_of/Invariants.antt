use Rattle.std.proofs.Common.{◌≡◌, take, map, string_bytes}
use Rattle.std.specs.List.{All}
use Rattle.dav_headers_core.specs.Timeouts.{timeout_text, IsTimeoutWithin}
use Rattle.dav_headers_core.proofs.davheaders.timeouts.texts_of.Given as goal

abbrev pub invariant-loop-timeout : goal.invariant-loop-timeout
invariant-loop-timeout l = record {
  texts : map string_bytes l.texts.items ≡ map timeout_text (take l.timeout-index l.timeouts);
  within : All IsTimeoutWithin (take l.timeout-index l.timeouts);
}
