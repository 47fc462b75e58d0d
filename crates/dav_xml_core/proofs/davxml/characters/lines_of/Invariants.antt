use Rattle.std.proofs.Common.{◌≡◌, ◌++◌, false, IsUtf8, chars}
use Rattle.std.specs.Str.Iter.{chars_rest}
use Rattle.dav_xml_core.specs.Characters.{lines_from}
use Rattle.dav_xml_core.proofs.davxml.characters.lines_of.Given as goal

abbrev pub invariant-loop-c : goal.invariant-loop-c
invariant-loop-c l = IsUtf8 (chars_rest l.c-iterator) × (l.lines.items ++ lines_from l.after_return (chars (chars_rest l.c-iterator)) ≡ lines_from false (chars l.fn.text))
