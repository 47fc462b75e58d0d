use Rattle.std.proofs.Common.{◌≡◌, drop}
use Rattle.dav_headers_core.specs.IfValues.{conditions_of}
use Rattle.dav_session_core.specs.Callers.{live}
use Rattle.dav_session_core.specs.Conditions.{conditions_hold}
use Rattle.dav_session_core.specs.Sessions as spec
use Rattle.dav_fields_core.specs.TaggedLists.{spoken_path}
use Rattle.dav_methods_core.proofs.conditions.conditions_hold.Given as goal

abbrev pub invariant-loop-condition : goal.invariant-loop-condition
invariant-loop-condition g l =
    let start = spec.state g.R.Rng.stream l.fn.session in
    let s = live (spec.caller l.fn.session).now start in
    record {
      looks : spec.Looks g.R.Rng.stream l.fn.session l.session;
      left : conditions_hold s (spoken_path l.at) (conditions_of (drop l.condition-index l.conditions)) ≡ conditions_hold s (spoken_path l.at) (conditions_of l.conditions);
    }
