use Rattle.std.proofs.Common.{◌≡◌, ◌-◌, suc, length, map}
use Rattle.dav_xml_core.specs.Markup.{attribute_at, tag_end}
use Rattle.dav_xml_core.specs.Scanning.{skip_white}
use Rattle.dav_xml_core.specs.Sequences.{many, sequence}
use Rattle.dav_xml_core.specs.Views.{raw_attribute_of}
use Rattle.dav_xml_core.proofs.SequenceLemmas.{with_front}
use Rattle.dav_xml_core.proofs.davxml.markup.attributes_at.Given as goal

abbrev pub invariant-loop : goal.invariant-loop
invariant-loop l = with_front (map raw_attribute_of l.attributes.items) (many (λ rest. tag_end (skip_white rest)) attribute_at (suc (length l.text) - l.counter) l.rest) ≡ sequence (λ rest. tag_end (skip_white rest)) attribute_at l.text
