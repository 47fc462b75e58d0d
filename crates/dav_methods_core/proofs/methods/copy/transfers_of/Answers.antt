use Rattle.std.proofs.Common.{map}
use Rattle.dav_path_core.specs.Fronts.{Path}
use Rattle.dav_path_core.specs.Segments.{segments}
use Rattle.dav_session_core.specs.declared.session.copying.Transfer.{Transfer}
use Rattle.dav_methods_core.specs.TransferEnds.{copies_of}
use Rattle.dav_methods_core.proofs.CopyPlanLemmas.{copied_all, copied_more}
use Rattle.dav_methods_core.proofs.methods.copy.transfers_of.Goals as goal

abbrev ends : Transfer → Path × Path
ends t = (segments t.from.bytes, segments t.to.bytes)

pub loop-place-preserved : goal.loop-place-preserved
loop-place-preserved c =
    let from = segments c.args.from.now.bytes in
    let to = segments c.args.to.now.bytes in
    copied_more from to (λ p. segments p.bytes) c.args.places.now c.loop-place.place-index (map ends c.loop-place.transfers.items)
    (copies_of from to (map (λ p. segments p.bytes) c.args.places.now)) c.loop-place.invariant c.place-item.result (map ends c.add_transfer.new.transfers.items)
    c.loop-place-test.true c.place-item.is c.in_ok-add_transfer.ensures.ok

pub returns-clause-ok : goal.returns-clause-ok
returns-clause-ok c =
    let from = segments c.args.from.now.bytes in
    let to = segments c.args.to.now.bytes in
    copied_all from to (λ p. segments p.bytes) c.args.places.now c.loop-place.place-index (map ends c.loop-place.transfers.items)
    (copies_of from to (map (λ p. segments p.bytes) c.args.places.now)) c.loop-place.invariant c.loop-place-test.false
