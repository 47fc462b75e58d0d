use Rattle.std.proofs.Common.{rules}
use Rattle.dav_effects_core.proofs.FolderLemmas.{is_path}
use Rattle.dav_effects_core.proofs.paths.put_path.Goals as goal

pub returns-clause-fits : goal.returns-clause-fits
returns-clause-fits c = is_path c.args.path.now.bytes c.in_ok-text.text.items c.in_ok-text.ensures (search rules)
