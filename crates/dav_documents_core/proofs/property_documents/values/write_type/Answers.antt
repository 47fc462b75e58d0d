use Rattle.dav_documents_core.proofs.property_documents.values.write_type.Goals as goal

pub returns-then-folder : goal.returns-then-folder
returns-then-folder c = rw c.if-folder.true c.write_within.ensures

pub returns : goal.returns
returns c = rw c.if-folder.false c.write_empty.ensures
