use Rattle.std.proofs.Common.{◌≡◌, ◌+◌, true, length}
use Rattle.dav_path_core.specs.Fronts.{is_front}
use Rattle.dav_path_core.specs.Segments.{segments}
use Rattle.dav_session_core.specs.Callers.{live}
use Rattle.dav_session_core.specs.Sessions as spec
use Rattle.dav_session_core.proofs.OwnLemmas.{OwnSoFar}
use Rattle.dav_session_core.proofs.session.Session.check_own.Given as goal

abbrev pub invariant-loop : goal.invariant-loop
invariant-loop g l =
    let who = spec.caller l.fn.self in
    let start = spec.state g.R.Rng.stream l.fn.self in
    record {
      looks : spec.Looks g.R.Rng.stream l.fn.self l.self;
      front : is_front (segments l.here.bytes) (segments l.path.bytes) ≡ true;
      left : length (segments l.here.bytes) + l.counter ≡ length (segments l.path.bytes);
      own : OwnSoFar (live who.now start) who (segments l.path.bytes) l.token (segments l.here.bytes);
    }
