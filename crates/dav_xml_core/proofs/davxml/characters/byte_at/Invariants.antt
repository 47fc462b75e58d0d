use Rattle.std.proofs.Common.{◌≡◌, ◌+◌, false, length, IsUtf8, chars}
use Rattle.std.specs.Str.Iter.{char_indices_rest, char_indices_offset}
use Rattle.dav_xml_core.specs.Refusals.{bytes_before}
use Rattle.dav_xml_core.proofs.davxml.characters.byte_at.Given as goal

abbrev pub invariant-loop-at : goal.invariant-loop-at
invariant-loop-at l = record {
  text : IsUtf8 (char_indices_rest l.at-iterator);
  within : char_indices_offset l.at-iterator + length (char_indices_rest l.at-iterator) ≡ length l.fn.text;
  place : char_indices_offset l.at-iterator + bytes_before l.after_return l.before (chars (char_indices_rest l.at-iterator)) ≡ bytes_before false l.fn.characters (chars l.fn.text);
}
