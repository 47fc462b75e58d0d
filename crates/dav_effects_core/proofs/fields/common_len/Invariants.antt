use Rattle.std.proofs.Common.{length, drop, ◌-◌, ◌+◌, ◌≡◌, ◌≤◌}
use Rattle.dav_effects_core.specs.ByteForms.{common_len}
use Rattle.dav_effects_core.proofs.fields.common_len.Given as goal

abbrev pub invariant-comparing : goal.invariant-comparing
invariant-comparing l = record {
  before : l.count ≤ length l.before;
  text : l.count ≤ length l.text;
  same : common_len l.before l.text ≡ l.count + common_len (drop l.count l.before) (drop l.count l.text);
}

abbrev pub decreases-comparing : goal.decreases-comparing
decreases-comparing l = length l.before - l.count
