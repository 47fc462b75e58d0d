use Rattle.std.proofs.Common.{◌≡◌, ◌-◌, suc, length, map}
use Rattle.dav_headers_core.specs.Private.IfReading.{groups_at}
use Rattle.dav_headers_core.specs.Urls.{url_of}
use Rattle.dav_headers_core.specs.IfValues.{located_list}
use Rattle.dav_headers_core.proofs.ifs.IfLoopLemmas.{lists_front}
use Rattle.dav_headers_core.proofs.davheaders.if_headers.lists.lists_at.Given as goal

abbrev pub invariant-loop : goal.invariant-loop
invariant-loop l = lists_front (map located_list l.lists.items) (groups_at url_of (suc (length l.bytes) - l.counter) l.rest) ≡ groups_at url_of (suc (length l.bytes)) l.bytes
