use Rattle.std.proofs.Common.{◌≡◌, IsUtf8, chars}
use Rattle.std.specs.Str.Iter.{char_indices_rest, char_indices_offset}
use Rattle.dav_xml_core.specs.Refusals.{no_char_at}
use Rattle.dav_xml_core.proofs.davxml.characters.no_char_at.Given as goal

abbrev pub invariant-loop-at : goal.invariant-loop-at
invariant-loop-at l = IsUtf8 (char_indices_rest l.at-iterator) × (no_char_at (char_indices_offset l.at-iterator) (chars (char_indices_rest l.at-iterator)) ≡ no_char_at 0 (chars l.fn.text))
