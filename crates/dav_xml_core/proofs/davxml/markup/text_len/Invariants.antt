use Rattle.std.proofs.Common.{◌≡◌, ◌+◌, drop}
use Rattle.std.specs.List.{prefix_len}
use Rattle.dav_xml_core.specs.Markup.{is_text}
use Rattle.dav_xml_core.proofs.davxml.markup.text_len.Given as goal

abbrev pub invariant-loop-i : goal.invariant-loop-i
invariant-loop-i l = l.i + prefix_len is_text (drop l.i l.text) ≡ prefix_len is_text l.text
