use Rattle.std.proofs.Common.{◌≡◌, drop}
use Rattle.std.specs.Prelude.{flat_map}
use Rattle.dav_xml_core.specs.Writing.{escaped_character}
use Rattle.dav_xml_core.proofs.davxml.writer.is_plain.Given as goal

abbrev pub invariant-loop-b : goal.invariant-loop-b
invariant-loop-b l = flat_map (escaped_character l.in_value) (drop l.b-index l.text) ≡ drop l.b-index l.text → flat_map (escaped_character l.in_value) l.text ≡ l.text
