use Rattle.std.proofs.Common.{◌≡◌}
use Rattle.dav_path_core.specs.Segments.{segments}
use Rattle.dav_path_core.specs.Fronts.{behind}
use Rattle.dav_path_core.proofs.davpath.iter.Segments.behind.Given as goal

-- what is left of both says what stands behind
abbrev pub invariant-loop-segment : goal.invariant-loop-segment
invariant-loop-segment l = behind (segments l.segment-iterator) (segments l.rest) ≡ behind (segments l.fn.front) (segments l.fn.self)
