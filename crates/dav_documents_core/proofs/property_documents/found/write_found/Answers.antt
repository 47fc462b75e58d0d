use Rattle.std.proofs.Common.{◌++◌, ◌∙◌, sym}
use Rattle.std.specs.List.{flat_map}
use Rattle.std.proofs.lemmas.Result.{on_ok_weaker}
use Rattle.dav_xml_core.specs.Views.{writing_of}
use Rattle.dav_documents_core.specs.LiveProperties.{live_properties}
use Rattle.dav_documents_core.specs.DescriptionViews.{description_of}
use Rattle.dav_documents_core.specs.PropertyDocuments.{dead_name_nodes, own_name_nodes}
use Rattle.dav_documents_core.proofs.PieceLemmas.{of_nodes}
use Rattle.dav_documents_core.proofs.property_documents.found.write_found.Goals as goal

pub returns-in-Names : goal.returns-in-Names
returns-in-Names c =
    let d = description_of c.args.description.now in
    rw c.in-Names.is (on_ok_weaker c.write_names.result
    (λ e. e ∙ sym (of_nodes (writing_of c.args.writer.now) (flat_map (own_name_nodes d) live_properties ++ flat_map dead_name_nodes d.props))) c.write_names.ensures)
