use Rattle.std.proofs.Common.{◌≡◌, fold, take, map, string_bytes}
use Rattle.dav_headers_core.specs.IfValues.{conditions_of}
use Rattle.dav_fields_core.specs.IfTokens.{tokens_in, with_once}
use Rattle.dav_fields_core.proofs.state_tokens.add_tokens.Given as goal

abbrev pub invariant-loop-condition : goal.invariant-loop-condition
invariant-loop-condition l =
    map string_bytes l.tokens.items ≡ fold with_once (map string_bytes l.fn.tokens.items) (tokens_in (conditions_of (take l.condition-index l.conditions)))
