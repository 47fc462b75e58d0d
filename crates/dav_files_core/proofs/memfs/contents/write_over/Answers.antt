use Rattle.std.proofs.Common.{sym, ◌∙◌}
use Rattle.dav_files_core.proofs.opens.OverwrittenLemmas.{stored_in}
use Rattle.dav_files_core.proofs.memfs.contents.write_over.Goals as goal

pub returns-clause-bytes : goal.returns-clause-bytes
returns-clause-bytes g c =
    stored_in c.args.bytes.now.items (g.B.Buf.unread c.args.buf.now) c.args.start c.as_mut_slice.result.now c.copy_to_slice.new.dst c.args.size c.args.end
    c.requires.end c.requires.size (c.as_mut_slice.ensures.value ∙ c.in-Ok.ensures.ok) c.copy_to_slice.ensures.value
    c.resize.new.self.items _ (sym c.as_mut_slice.ensures.value)
