use Rattle.std.proofs.Common.{◌≡◌, ◌++◌}
use Rattle.std.specs.Prelude.{string_bytes}
use Rattle.dav_path_core.specs.Segments.{segments}
use Rattle.dav_safe_methods_core.specs.PropertyAnswers.{segments_url}
use Rattle.dav_safe_methods_core.proofs.describing.push_segments.Given as goal

-- what is written, with what is left behind it, is the whole
abbrev pub invariant-loop-segment : goal.invariant-loop-segment
invariant-loop-segment l =
    string_bytes l.text ++ segments_url (segments l.segment-iterator) ≡ string_bytes l.initial.text ++ segments_url (segments l.fn.path.bytes)
