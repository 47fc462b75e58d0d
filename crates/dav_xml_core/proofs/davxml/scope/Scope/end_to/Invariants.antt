use Rattle.std.proofs.Common.{◌≡◌, take, length}
use Rattle.dav_xml_core.proofs.davxml.scope.Scope.end_to.Given as goal

abbrev pub invariant-loop-self : goal.invariant-loop-self
invariant-loop-self l = take l.around l.self ≡ take l.around l.fn.self

abbrev pub decreases-loop-self : goal.decreases-loop-self
decreases-loop-self l = length l.self
