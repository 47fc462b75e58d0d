use Rattle.std.proofs.Common.{rules}
use Rattle.dav_notes_core.specs.Asking.{sender_of}
use Rattle.dav_effects_core.proofs.Exact.{IsBytes-within}
use Rattle.dav_effects_core.proofs.ValueForms.{caller_whole}
use Rattle.dav_effects_core.proofs.callers.read_sender.Goals as goal

pub returns-clause-before : goal.returns-clause-before
returns-clause-before c = caller_whole c.in_ok-text.text.items (sender_of c.in-Ok.found.0) c.in-Ok.found.1.now (IsBytes-within c.in_ok-text.text.items c.type_inv.before) (search rules) (search rules)
