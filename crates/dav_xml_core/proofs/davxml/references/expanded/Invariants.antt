use Rattle.std.proofs.Common.{◌≡◌, ◌-◌, suc, length}
use Rattle.dav_xml_core.specs.References.{expanded_at}
use Rattle.dav_xml_core.specs.Sequences.{many, sequence, at_end}
use Rattle.dav_xml_core.proofs.SequenceLemmas.{with_front}
use Rattle.dav_xml_core.proofs.davxml.references.expanded.Given as goal

abbrev pub invariant-loop : goal.invariant-loop
invariant-loop l = with_front l.all.items (many at_end expanded_at (suc (length l.text) - l.counter) l.rest) ≡ sequence at_end expanded_at l.text
