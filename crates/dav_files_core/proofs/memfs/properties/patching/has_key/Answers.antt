use Rattle.std.proofs.Common.{sym, ◌∙◌}
use Rattle.dav_files_core.proofs.properties.PatchLemmas.{kept_at}
use Rattle.dav_files_core.proofs.memfs.properties.patching.has_key.Goals as goal

pub returns : goal.returns
returns c = c.contains_key.ensures ∙ sym (kept_at c.args.kept.now.entries c.args.key.now)
