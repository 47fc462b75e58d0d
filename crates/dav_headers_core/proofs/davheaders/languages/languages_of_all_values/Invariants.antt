use Rattle.std.proofs.Common.{◌≡◌, take, map, Some, string_bytes}
use Rattle.dav_headers_core.specs.Languages.{languages_of_all_values}
use Rattle.dav_headers_core.proofs.davheaders.languages.languages_of_all_values.Given as goal

abbrev pub invariant-loop-value : goal.invariant-loop-value
invariant-loop-value l = languages_of_all_values (take l.value-index l.values) ≡ Some (map string_bytes l.languages.items)
