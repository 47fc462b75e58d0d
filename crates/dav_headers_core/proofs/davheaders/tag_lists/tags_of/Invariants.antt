use Rattle.std.proofs.Common.{◌≡◌, take}
use Rattle.std.specs.List.{flat_map}
use Rattle.dav_headers_core.specs.Private.TagReading.{tags_of}
use Rattle.dav_headers_core.proofs.davheaders.tag_lists.tags_of.Given as goal

abbrev pub invariant-loop-value : goal.invariant-loop-value
invariant-loop-value l = l.tags.items ≡ flat_map tags_of (take l.value-index l.values)
