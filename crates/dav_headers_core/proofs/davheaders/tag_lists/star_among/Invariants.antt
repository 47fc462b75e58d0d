use Rattle.std.proofs.Common.{◌≡◌, drop}
use Rattle.dav_headers_core.specs.Private.TagReading.{star_among}
use Rattle.dav_headers_core.proofs.davheaders.tag_lists.star_among.Given as goal

abbrev pub invariant-loop-value : goal.invariant-loop-value
invariant-loop-value l = star_among (drop l.value-index l.values) ≡ star_among l.values
