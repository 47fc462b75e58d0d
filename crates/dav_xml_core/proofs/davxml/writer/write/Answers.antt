use Rattle.std.proofs.Common.{rules, ◌≡◌, ap, ◌∙◌, map}
use Rattle.dav_xml_core.specs.Reading.{document_of}
use Rattle.dav_xml_core.specs.Views.{node_of}
use Rattle.dav_xml_core.specs.Writing.{document_bytes}
use Rattle.dav_xml_core.proofs.NodesLemmas.{written_again}
use Rattle.dav_xml_core.proofs.davxml.writer.write.Goals as goal

pub returns-clause-again : goal.returns-clause-again
unfolding document_bytes
returns-clause-again c could =
    let e : c.into_bytes.result.items ≡ document_bytes (map node_of c.args.document.now.nodes.items) = search rules in
    ap document_of e ∙ written_again (map node_of c.args.document.now.nodes.items) could
