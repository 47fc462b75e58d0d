use Rattle.std.proofs.Common.{◌≡◌, codes}
use Rattle.std.specs.Prelude.{OnOk, string_bytes}
use Rattle.dav_xml_core.specs.Views.{writing_of}
use Rattle.dav_xml_core.specs.Writing.{with_nodes}
use Rattle.dav_documents_core.specs.PropertyDocuments.{text_element}
use Rattle.dav_documents_core.proofs.property_documents.values.write_live.Goals as goal

pub returns-in-CreationDate : goal.returns-in-CreationDate
returns-in-CreationDate c =
    let told : OnOk c.write_text.result (writing_of c.write_text.new.writer
    ≡ with_nodes (writing_of c.args.writer.now) (text_element (codes "creationdate") (string_bytes c.args.description.now.created))) =
    rw (← c.deref.ensures) c.write_text.ensures in
    rw c.in-CreationDate.is told
