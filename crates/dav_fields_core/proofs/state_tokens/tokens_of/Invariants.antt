use Rattle.std.proofs.Common.{◌≡◌, take, map, string_bytes}
use Rattle.dav_headers_core.specs.IfValues.{located_list}
use Rattle.dav_fields_core.specs.IfTokens.{tokens_of}
use Rattle.dav_fields_core.proofs.state_tokens.tokens_of.Given as goal

abbrev pub invariant-loop-list : goal.invariant-loop-list
invariant-loop-list l = map string_bytes l.tokens.items ≡ tokens_of (map located_list (take l.list-index l.lists))
