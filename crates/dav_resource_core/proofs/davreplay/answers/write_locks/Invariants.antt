use Rattle.std.proofs.Common.{map, take}
use Rattle.std.specs.Io.KnownBytes.{Appends}
use Rattle.std.specs.List.{flat_map}
use Rattle.dav_resource_core.specs.AnswerTexts.{label_text, spaced_word}
use Rattle.dav_resource_core.specs.Labels.{label_in}
use Rattle.dav_resource_core.proofs.davreplay.answers.write_locks.Given as goal

abbrev pub invariant-loop-lock : goal.invariant-loop-lock
invariant-loop-lock g l =
    Appends (g.O.Write.contents l.initial.output) (g.O.Write.contents l.output)
    (flat_map (λ token. spaced_word (label_text (label_in l.labels token))) (map (λ lock. lock.token) (take l.lock-index l.locks)))
