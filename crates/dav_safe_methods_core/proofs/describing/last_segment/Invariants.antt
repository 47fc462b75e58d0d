use Rattle.std.proofs.Common.{◌≡◌, []}
use Rattle.dav_path_core.specs.Segments.{segments}
use Rattle.dav_safe_methods_core.specs.PropertyAnswers.{last_or}
use Rattle.dav_safe_methods_core.proofs.describing.last_segment.Given as goal

-- what is left, behind what was last, has the same last
abbrev pub invariant-loop-segment : goal.invariant-loop-segment
invariant-loop-segment l = last_or l.name (segments l.segment-iterator) ≡ last_or [] (segments l.fn.path.bytes)
