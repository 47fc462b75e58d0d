use Rattle.std.proofs.Common.{◌≡◌, drop, map}
use Rattle.dav_path_core.specs.Segments.{segments}
use Rattle.dav_session_core.specs.Callers.{live}
use Rattle.dav_session_core.specs.Removing.{refusing_removal}
use Rattle.dav_session_core.specs.Sessions as spec
use Rattle.dav_session_core.proofs.session.Session.check_removal.Given as goal

-- what refuses one of all places refuses one of those that are left
abbrev pub invariant-loop-place : goal.invariant-loop-place
invariant-loop-place g l =
    let who = spec.caller l.fn.self in
    let start = spec.state g.R.Rng.stream l.fn.self in
    record {
      looks : spec.Looks g.R.Rng.stream l.fn.self l.self;
      left : refusing_removal (live who.now start) who (map (λ p. segments p.bytes) (drop l.place-index l.places))
          ≡ refusing_removal (live who.now start) who (map (λ p. segments p.bytes) l.places);
    }
