use Rattle.std.proofs.Common.{◌≡◌, ◌+◌, true, length, map, string_bytes}
use Rattle.dav_path_core.specs.Fronts.{is_front}
use Rattle.dav_path_core.specs.Segments.{segments}
use Rattle.dav_session_core.specs.Callers.{live}
use Rattle.dav_session_core.specs.Granting.{AreAbove}
use Rattle.dav_session_core.specs.Sessions as spec
use Rattle.dav_session_core.proofs.GrantLemmas.{TokensSoFar}
use Rattle.dav_session_core.proofs.session.Session.tokens_above.Given as goal

abbrev pub invariant-loop : goal.invariant-loop
invariant-loop g l =
    let who = spec.caller l.fn.self in
    let start = spec.state g.R.Rng.stream l.fn.self in
    record {
      looks : spec.Looks g.R.Rng.stream l.fn.self l.self;
      left : length (segments l.here.bytes) + l.counter ≡ length (segments l.path.bytes);
      tokens : TokensSoFar (live who.now start) (segments l.path.bytes) (segments l.here.bytes) (map string_bytes l.tokens.items);
      front : is_front (segments l.here.bytes) (segments l.path.bytes) ≡ true;
      only : AreAbove (live who.now start) (segments l.path.bytes) (map string_bytes l.tokens.items);
    }
