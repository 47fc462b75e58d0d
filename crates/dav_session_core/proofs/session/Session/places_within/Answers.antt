use Rattle.std.proofs.Common.{map}
use Rattle.std.specs.Prelude.{IsSome}
use Rattle.dav_path_core.specs.Segments.{segments}
use Rattle.dav_headers_core.specs.declared.davheaders.depths.Depth.TheVariants as depth
use Rattle.dav_files_core.specs.Resources.{at_path}
use Rattle.dav_session_core.specs.DepthPlaces.{AreWithin}
use Rattle.dav_session_core.specs.Placed.{AllStand}
use Rattle.dav_session_core.specs.Sessions as spec
use Rattle.dav_session_core.proofs.PlaceLemmas.{if_found, members_stand}
use Rattle.dav_session_core.proofs.session.Session.places_within.Goals as goal

pub returns-in-One-clause-stand : goal.returns-in-One-clause-stand
returns-in-One-clause-stand g c =
    let m = (spec.state g.R.Rng.stream c.args.self.now).map in
    let p = segments c.args.path.bytes in
    if_found c.with_members.result (λ places. AreWithin depth.One m p (map (λ q. segments q.bytes) places.items)) (λ places. AllStand m (map (λ q. segments q.bytes) places.items))
    (IsSome (at_path m p)) (λ places are here. members_stand m p
    (map (λ q. segments q.bytes) places.items) are here) c.with_members.ensures.ok c.with_members.ensures.found
