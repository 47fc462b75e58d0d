use Rattle.std.proofs.Common.{◌≡◌, ◌+◌, length}
use Rattle.std.specs.Prelude.{max}
use Rattle.dav_path_core.specs.Segments.{segments}
use Rattle.dav_fields_core.specs.LatestMoments.{latest_above}
use Rattle.dav_session_core.specs.Sessions as spec
use Rattle.dav_session_core.proofs.session.Session.later_above.Given as goal

abbrev pub invariant-loop : goal.invariant-loop
invariant-loop g l =
    let start = spec.state g.R.Rng.stream l.fn.self in
    record {
      looks : spec.Looks g.R.Rng.stream l.fn.self l.self;
      left : length (segments l.here.bytes) + l.counter ≡ length (segments l.path.bytes);
      latest : max l.latest.0 (latest_above start.map (segments l.here.bytes)) ≡ max l.fn.first.0 (latest_above start.map (segments l.path.bytes));
    }
