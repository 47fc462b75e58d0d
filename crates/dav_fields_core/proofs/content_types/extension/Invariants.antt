use Rattle.std.proofs.Common.{◌≡◌, None, drop}
use Rattle.dav_fields_core.specs.ContentTypes as spec
use Rattle.dav_fields_core.proofs.content_types.extension.Given as goal

abbrev pub invariant-loop-place : goal.invariant-loop-place
invariant-loop-place l = spec.extension (drop l.place l.name) ≡ None
