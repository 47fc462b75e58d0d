use Rattle.std.proofs.Common.{Bool, Option, drop, map}
use Rattle.url.specs.Parts.{Parts}
use Rattle.dav_path_core.specs.Segments.{segments}
use Rattle.dav_headers_core.specs.IfValues.{located_list}
use Rattle.dav_session_core.specs.Callers.{live}
use Rattle.dav_session_core.specs.Conditions.{IfIs, ListsAre}
use Rattle.dav_session_core.specs.Sessions as spec
use Rattle.dav_fields_core.specs.TaggedLists.{SpeaksOf, base_of, spoken_path, spread_from}
use Rattle.dav_methods_core.proofs.conditions.one_holds.Given as goal

abbrev pub invariant-loop-list : goal.invariant-loop-list
invariant-loop-list g l =
    let start = spec.state g.R.Rng.stream l.fn.session in
    let s = live (spec.caller l.fn.session).now start in
    let base = base_of l.base l.here in
    let p = segments l.here.bytes in
    record {
      looks : spec.Looks g.R.Rng.stream l.fn.session l.session;
      last : Option Parts;
      speaks : SpeaksOf base p last (spoken_path l.at);
      left : (holds : Bool) → ListsAre s base p (spread_from last (map located_list (drop l.list-index l.lists))) holds → IfIs s base p (map located_list l.lists) holds;
    }
