use Rattle.std.proofs.Common.{◌≡◌, ◌++◌}
use Rattle.dav_path_core.specs.Segments.{segments}
use Rattle.dav_path_core.specs.Private.Keeping.{behind_slashes}
use Rattle.dav_path_core.proofs.davpath.push_segments.Given as goal

-- what is written, with what is left behind it, is the whole
abbrev pub invariant-loop-segment : goal.invariant-loop-segment
invariant-loop-segment l = l.path.items ++ behind_slashes (segments l.segment-iterator) ≡ l.initial.path.items ++ behind_slashes (segments l.fn.names)
