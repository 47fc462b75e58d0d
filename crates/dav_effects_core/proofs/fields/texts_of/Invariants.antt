use Rattle.std.proofs.Common.{◌≡◌, ◌-◌, map, string_bytes}
use Rattle.dav_effects_core.specs.ByteForms.{utf8_at, times_at}
use Rattle.dav_effects_core.proofs.Loops.{with_front}
use Rattle.dav_effects_core.proofs.fields.texts_of.Given as goal

abbrev pub invariant-reading : goal.invariant-reading
invariant-reading l = with_front (map string_bytes l.texts.items) (times_at utf8_at (l.count - l.counter) l.rest) ≡ times_at utf8_at l.count l.bytes
