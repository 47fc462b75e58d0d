use Rattle.std.proofs.Common.{◌≡◌, None, take, cond}
use Rattle.std.specs.FinMap.{get}
use Rattle.dav_files_core.specs.Private.PropertyChanges.{Key, is_among_keys}
use Rattle.dav_files_core.specs.Private.PropertyMaps.{properties_of}
use Rattle.dav_files_core.proofs.memfs.properties.patching.take_all.Given as goal

abbrev pub invariant-loop-key : goal.invariant-loop-key
invariant-loop-key l = (q : Key) → get (properties_of l.kept.entries) q ≡ cond (is_among_keys (take l.key-index l.keys) q) None (get (properties_of l.fn.kept.entries) q)
