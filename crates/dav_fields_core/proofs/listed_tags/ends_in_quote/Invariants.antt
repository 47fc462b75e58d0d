use Rattle.std.proofs.Common.{◌≡◌, drop}
use Rattle.dav_headers_core.specs.Tags.{ends_in_quote}
use Rattle.dav_fields_core.proofs.listed_tags.ends_in_quote.Given as goal

abbrev pub invariant-loop-i : goal.invariant-loop-i
invariant-loop-i l = ends_in_quote (drop l.i l.bytes) ≡ ends_in_quote l.bytes
