use Rattle.std.proofs.Common.{◌≡◌, ◌≢◌, [], length, map}
use Rattle.std.specs.Prelude.{IsSome}
use Rattle.dav_path_core.specs.Fronts.{Path}
use Rattle.dav_path_core.specs.Segments.{segments}
use Rattle.dav_files_core.specs.Resources.{at_path}
use Rattle.dav_session_core.specs.Callers.{live}
use Rattle.dav_session_core.specs.NoteCosts.{removal_cost}
use Rattle.dav_session_core.specs.Removing.{refusing_removal}
use Rattle.dav_session_core.specs.Sessions as spec
use Rattle.dav_session_core.specs.Subtrees.{IsSubtreeWalk}
use Rattle.dav_session_core.proofs.RemovalLemmas.{Removing}
use Rattle.dav_session_core.proofs.session.Session.remove_each.Given as goal

abbrev pub invariant-loop-path : goal.invariant-loop-path
invariant-loop-path g l =
    let who = spec.caller l.fn.self in
    let start = spec.state g.R.Rng.stream l.fn.self in
    let all = map (λ q. segments q.bytes) l.fn.places.items in
    record {
      acts : spec.Acts g.R.Rng.stream l.fn.self l.self;
      room : spec.HasRoomForNotes (length l.places.items) (removal_cost who (map (λ q. segments q.bytes) l.places.items)) l.self;
      removing : (p : Path) → p ≢ [] → IsSome (at_path start.map p) → IsSubtreeWalk start.map p all → refusing_removal (live who.now start) who all ≡ []
          → Removing who p (live who.now start) (map (λ q. segments q.bytes) l.places.items) (spec.state g.R.Rng.stream l.self);
    }

abbrev pub decreases-loop-path : goal.decreases-loop-path
decreases-loop-path g l = length l.places.items
