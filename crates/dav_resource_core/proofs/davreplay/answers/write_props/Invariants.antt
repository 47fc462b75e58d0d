use Rattle.std.proofs.Common.{map, take}
use Rattle.std.specs.Io.KnownBytes.{Appends}
use Rattle.std.specs.List.{flat_map}
use Rattle.dav_files_core.specs.Properties.{property_of}
use Rattle.dav_resource_core.specs.AnswerTexts.{property_text}
use Rattle.dav_resource_core.proofs.davreplay.answers.write_props.Given as goal

abbrev pub invariant-loop-prop : goal.invariant-loop-prop
invariant-loop-prop g l = Appends (g.O.Write.contents l.initial.output) (g.O.Write.contents l.output) (flat_map property_text (map property_of (take l.prop-index l.props)))
