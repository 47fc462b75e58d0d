use Rattle.std.proofs.Common.{option_map}
use Rattle.std.specs.Prelude.{string_bytes}
use Rattle.dav_xml_core.specs.Views.{name_of, writing_of}
use Rattle.dav_documents_core.specs.DescriptionViews.{description_of}
use Rattle.dav_documents_core.specs.PropertyDocuments.{value_pieces}
use Rattle.dav_documents_core.proofs.PropertyLemmas.{next_told}
use Rattle.dav_documents_core.proofs.property_documents.values.write_listed.Goals as goal

pub loop-name-preserved : goal.loop-name-preserved
loop-name-preserved c =
    next_told (value_pieces c.args.prefix.now (option_map string_bytes c.args.principal.now) c.args.now.0 (description_of c.args.description.now)) name_of c.args.names.now
    c.loop-name.name-index c.name-item.result (writing_of c.loop-name.writer) (writing_of c.write_value.new.writer) _ c.loop-name-test.true c.name-item.is
    c.in_ok-write_value.ensures c.loop-name.invariant
