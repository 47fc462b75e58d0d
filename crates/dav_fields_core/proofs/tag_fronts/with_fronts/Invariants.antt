use Rattle.std.proofs.Common.{◌≡◌, ◌++◌, drop}
use Rattle.dav_fields_core.specs.Private.TagFronts.{with_fronts}
use Rattle.dav_fields_core.specs.declared.tag_fronts.Place.TheVariants as place
use Rattle.dav_fields_core.proofs.tag_fronts.with_fronts.Given as goal

abbrev pub invariant-loop-b : goal.invariant-loop-b
invariant-loop-b l =
    l.whole.items ++ with_fronts l.front l.at (drop l.b-index l.bytes)
    ≡ with_fronts l.front place.Outside l.bytes
