use Rattle.std.proofs.Common.{◌≡◌, ◌++◌, drop, map}
use Rattle.dav_path_core.specs.Segments.{segments}
use Rattle.dav_methods_core.specs.TransferEnds.{copies_of}
use Rattle.dav_methods_core.proofs.methods.copy.transfers_of.Given as goal

-- what is copied so far, and what comes of the places that are left
abbrev pub invariant-loop-place : goal.invariant-loop-place
invariant-loop-place l =
    let of = copies_of (segments l.from.bytes) (segments l.to.bytes) in
    map (λ t. (segments t.from.bytes, segments t.to.bytes)) l.transfers.items ++ of (map (λ p. segments p.bytes) (drop l.place-index l.places))
    ≡ of (map (λ p. segments p.bytes) l.places)
