use Rattle.std.proofs.Common.{◌≡◌, ◌+◌, drop}
use Rattle.std.specs.List.{prefix_len}
use Rattle.dav_xml_core.specs.Names.{is_name_char}
use Rattle.dav_xml_core.proofs.davxml.names.name_len.Given as goal

abbrev pub invariant-loop-i : goal.invariant-loop-i
invariant-loop-i l = l.i + prefix_len is_name_char (drop l.i l.text) ≡ prefix_len is_name_char l.text
