use Rattle.std.proofs.Common.{◌≡◌, Bool, List, drop, map}
use Rattle.dav_path_core.specs.Fronts.{Path}
use Rattle.dav_path_core.specs.Segments.{segments}
use Rattle.dav_session_core.specs.Callers.{live}
use Rattle.dav_session_core.specs.Copying.{IsReady, copies_made, source_and_target}
use Rattle.dav_session_core.specs.Sessions as spec
use Rattle.dav_session_core.proofs.CopyingLemmas.{Copying}
use Rattle.dav_session_core.proofs.session.Session.copy_all.Given as goal

abbrev pub invariant-loop-transfer : goal.invariant-loop-transfer
invariant-loop-transfer g l =
    let who = spec.caller l.fn.self in
    let s = live who.now (spec.state g.R.Rng.stream l.fn.self) in
    record {
      made : copies_made who.now (map (λ t. (segments t.from.bytes, segments t.to.bytes))
          (drop l.transfer-index l.transfers)) (spec.state g.R.Rng.stream l.self).map
          ≡ copies_made who.now (map (λ t. (segments t.from.bytes, segments t.to.bytes))
          l.transfers) s.map;
      acts : spec.Acts g.R.Rng.stream l.fn.self l.self;
      copying : (deep : Bool) (from to : Path) (rests : List Path) (ready : IsReady s who deep from to rests)
          → map (λ t. (segments t.from.bytes, segments t.to.bytes)) l.transfers ≡ map (source_and_target from to) rests
          → Copying who deep from to rests s ready (map (λ t. (segments t.from.bytes, segments t.to.bytes)) (drop l.transfer-index l.transfers)) (spec.state g.R.Rng.stream l.self);
    }
