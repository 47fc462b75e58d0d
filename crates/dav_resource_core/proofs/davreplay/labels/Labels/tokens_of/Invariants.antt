use Rattle.std.proofs.Common.{◌≡◌, take, map, string_bytes}
use Rattle.dav_resource_core.specs.RequestLines.{labelled_token}
use Rattle.dav_resource_core.proofs.davreplay.labels.Labels.tokens_of.Given as goal

abbrev pub invariant-loop-label : goal.invariant-loop-label
invariant-loop-label l = map string_bytes l.tokens.items ≡ map (λ label. labelled_token l.self label.now) (take l.label-index l.labels)
