use Rattle.std.proofs.Common.{◌≡◌, ◌-◌, suc, length, map}
use Rattle.std.specs.Prelude.{codes}
use Rattle.dav_xml_core.specs.Markup.{attribute_at}
use Rattle.dav_xml_core.specs.Scanning.{skip_white, after_mark}
use Rattle.dav_xml_core.specs.Sequences.{many, sequence}
use Rattle.dav_xml_core.specs.Views.{raw_attribute_of}
use Rattle.dav_xml_core.proofs.SequenceLemmas.{with_front}
use Rattle.dav_xml_core.proofs.davxml.declarations.fields_at.Given as goal

abbrev pub invariant-loop : goal.invariant-loop
invariant-loop l = with_front (map raw_attribute_of l.fields.items) (many (λ rest. after_mark (codes "?>") (skip_white rest)) attribute_at (suc (length l.text) - l.counter) l.rest) ≡ sequence (λ rest. after_mark (codes "?>") (skip_white rest)) attribute_at l.text
