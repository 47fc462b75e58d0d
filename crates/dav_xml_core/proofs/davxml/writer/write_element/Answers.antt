use Rattle.std.proofs.Common.{rules, ◌≡◌, ap, ◌∙◌, map}
use Rattle.dav_xml_core.specs.Reading.{document_of}
use Rattle.dav_xml_core.specs.Views.{node_of}
use Rattle.dav_xml_core.specs.Writing.{written_alone}
use Rattle.dav_xml_core.proofs.NodesLemmas.{alone_again}
use Rattle.dav_xml_core.proofs.davxml.writer.write_element.Goals as goal

pub returns-clause-again : goal.returns-clause-again
unfolding written_alone
returns-clause-again c could =
    let e : c.into_bytes.result.items ≡ written_alone (map node_of c.args.nodes.now) = search rules in
    ap document_of e ∙ alone_again (map node_of c.args.nodes.now) could
