use Rattle.std.proofs.Common.{◌≡◌, Some, IsSome, unwrap_or, length}
use Rattle.std.specs.FinMap.{get}
use Rattle.dav_files_core.specs.Private.PropertyChanges.{Key, changes_of}
use Rattle.dav_files_core.specs.Private.PropertyMaps.{properties_of}
use Rattle.dav_files_core.specs.Resources.{Property}
use Rattle.dav_files_core.proofs.memfs.properties.patching.make_changes.Given as goal

abbrev pub invariant-loop-key : goal.invariant-loop-key
invariant-loop-key l = record {
  left : (q : Key) → unwrap_or (get (changes_of l.last.entries) q) (get (properties_of l.kept.entries) q) ≡ unwrap_or (get (changes_of l.fn.last.entries) q) (get (properties_of l.fn.kept.entries) q);
  room : (q : Key) (p : Property) → get (changes_of l.last.entries) q ≡ Some (Some p) → IsSome (get (properties_of l.kept.entries) q);
}

abbrev pub decreases-loop-key : goal.decreases-loop-key
decreases-loop-key l = length l.last.entries
