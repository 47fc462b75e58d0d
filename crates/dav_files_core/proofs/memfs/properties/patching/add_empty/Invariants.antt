use Rattle.std.proofs.Common.{◌≡◌, true, false, take, IsSome}
use Rattle.std.specs.FinMap.{get}
use Rattle.dav_files_core.specs.Private.PropertyChanges.{Key, is_among_keys}
use Rattle.dav_files_core.specs.Private.PropertyMaps.{properties_of}
use Rattle.dav_files_core.proofs.memfs.properties.patching.add_empty.Given as goal

abbrev pub invariant-loop-key : goal.invariant-loop-key
invariant-loop-key l = record {
  others : (q : Key) → is_among_keys l.keys q ≡ false → get (properties_of l.kept.entries) q ≡ get (properties_of l.fn.kept.entries) q;
  room : (q : Key) → is_among_keys (take l.key-index l.keys) q ≡ true → IsSome (get (properties_of l.kept.entries) q);
}
