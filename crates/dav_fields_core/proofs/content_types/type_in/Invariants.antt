use Rattle.std.proofs.Common.{◌≡◌, drop, map}
use Rattle.dav_fields_core.specs.ContentTypes.{type_in}
use Rattle.dav_fields_core.proofs.content_types.type_in.Given as goal

abbrev pub invariant-loop-known : goal.invariant-loop-known
invariant-loop-known l =
    type_in (map (λ e. (e.0.now, e.1.now)) (drop l.known-index l.table)) l.extension ≡ type_in (map (λ e. (e.0.now, e.1.now)) l.table) l.extension
