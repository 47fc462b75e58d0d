use Rattle.std.proofs.Common.{map, take}
use Rattle.std.specs.Io.KnownBytes.{Appends}
use Rattle.std.specs.List.{flat_map}
use Rattle.dav_files_core.specs.Properties.{patch_answer}
use Rattle.dav_resource_core.specs.AnswerTexts.{status_text}
use Rattle.dav_resource_core.proofs.davreplay.answers.write_statuses.Given as goal

abbrev pub invariant-loop-answer : goal.invariant-loop-answer
invariant-loop-answer g l = Appends (g.O.Write.contents l.initial.output) (g.O.Write.contents l.output) (flat_map status_text (map patch_answer (take l.answer-index l.answers)))
