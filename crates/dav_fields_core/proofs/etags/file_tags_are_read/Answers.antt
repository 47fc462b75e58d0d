use Rattle.dav_fields_core.proofs.FileTagLemmas.{is_read}
use Rattle.dav_fields_core.proofs.etags.file_tags_are_read.Goals as goal

pub returns : goal.returns
returns c = is_read
