use Rattle.std.proofs.Common.{◌≡◌, ◌-◌, suc, length}
use Rattle.dav_xml_core.specs.Refusals.{read_on, nodes_answer}
use Rattle.dav_xml_core.specs.Views.{front_of}
use Rattle.dav_xml_core.proofs.davxml.reader.nodes_of.Given as goal

abbrev pub invariant-loop : goal.invariant-loop
invariant-loop l = read_on (front_of l.builder) (suc (length l.text) - l.counter) l.rest ≡ nodes_answer l.text
