use Rattle.std.proofs.Common.{map}
use Rattle.dav_path_core.specs.Segments.{segments}
use Rattle.dav_session_core.specs.Sessions as spec
use Rattle.dav_files_core.proofs.paths.SubtreeMaps.{Walking, left_below}
use Rattle.dav_session_core.specs.Private.WalkPlaces.{AreToldPlaces, place_path}
use Rattle.dav_session_core.proofs.SubtreeLemmas.{AreInOrder, ArePlain}
use Rattle.dav_session_core.proofs.session.Session.walk.Given as goal

abbrev pub invariant-loop-place : goal.invariant-loop-place
invariant-loop-place g l =
    let start = spec.state g.R.Rng.stream l.fn.self in
    record {
      looks : spec.Looks g.R.Rng.stream l.fn.self l.self;
      walking : Walking start.map (segments l.fn.path.bytes) (map place_path l.places.items) (map place_path l.waiting.items);
      ordered : AreInOrder (map place_path l.places.items)
          (map place_path l.waiting.items);
      plain : ArePlain start.map (map place_path l.places.items);
      known : AreToldPlaces start.map l.waiting.items;
    }

-- with each place fewer entries are left
abbrev pub decreases-loop-place : goal.decreases-loop-place
decreases-loop-place g l = left_below (spec.state g.R.Rng.stream l.fn.self).map (map place_path l.waiting.items)
