use Rattle.std.proofs.Common.{◌≡◌, ◌++◌, ◌∷◌, [], map}
use Rattle.std.proofs.lemmas.Result.{err_from_is_err_and}
use Rattle.std.proofs.lemmas.List.{map_push}
use Rattle.dav_files_core.specs.Properties.{property_of}
use Rattle.dav_effects_core.specs.ByteForms.{times_at}
use Rattle.dav_effects_core.specs.RecordReading.{property_at}
use Rattle.dav_effects_core.proofs.Loops.{goes_on, fails, is_done}
use Rattle.dav_snapshots_core.proofs.properties.so_many_properties.Goals as goal

pub returns-in_err-prop : goal.returns-in_err-prop
returns-in_err-prop c =
    let p = err_from_is_err_and c.from_residual.result c.from_residual.ensures.1 in
    rw (p.1, p.2) (fails property_at c.in_err-prop.field-0.0 (map property_of c.reading.props.items) c.args.count c.reading.counter c.reading.rest.now (times_at property_at c.args.count c.args.bytes.now) c.reading-test.true c.in_err-prop.ensures c.reading.invariant)

pub reading-preserved : goal.reading-preserved
reading-preserved c =
    let prop = c.in_ok-prop.prop in
    let e : map property_of c.push.new.self.items ≡ map property_of c.reading.props.items ++ property_of prop ∷ [] = rw c.in_ok-push.ensures.items (map_push _ c.reading.props.items prop) in
    rw e (goes_on property_at (map property_of c.reading.props.items) c.args.count c.reading.counter c.reading.rest.now (property_of prop) c.in_ok-prop.behind.now (times_at property_at c.args.count c.args.bytes.now) c.reading-test.true c.in_ok-prop.ensures c.reading.invariant)

pub returns : goal.returns
returns c = is_done property_at (map property_of c.reading.props.items) c.args.count c.reading.counter c.reading.rest.now (times_at property_at c.args.count c.args.bytes.now) c.reading-test.false c.reading.invariant
