use Rattle.dav_fields_core.proofs.FileTagLemmas.{tells}
use Rattle.dav_fields_core.proofs.etags.file_tags_tell.Goals as goal

pub returns : goal.returns
returns c = tells
