use Rattle.std.proofs.Common.{◌≡◌, ◌++◌, take}
use Rattle.turn_fronts.specs.LogLines.{escaped_bytes}
use Rattle.turn_fronts.proofs.lines.add_escaped.Given as goal

-- the bytes so far stand behind the line
abbrev pub invariant-escaping : goal.invariant-escaping
invariant-escaping l = l.line.items ≡ l.fn.line.items ++ escaped_bytes l.fn.place (take l.byte-index l.bytes)
