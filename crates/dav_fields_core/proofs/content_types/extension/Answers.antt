use Rattle.dav_fields_core.proofs.TypeLemmas.{last_dot_at}
use Rattle.dav_fields_core.proofs.content_types.extension.Goals as goal

pub returns-then-name-place-eq46 : goal.returns-then-name-place-eq46
returns-then-name-place-eq46 c =
    last_dot_at c.args.name.now c.loop-place.place c.loop-place-test.true c.loop-place.auto.place c.if-name-place-eq46.true c.loop-place.invariant
