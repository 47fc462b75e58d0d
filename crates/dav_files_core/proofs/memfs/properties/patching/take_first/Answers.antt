use Rattle.dav_files_core.proofs.properties.PatchLemmas.{takes_first}
use Rattle.dav_files_core.proofs.memfs.properties.patching.take_first.Goals as goal

pub returns : goal.returns
returns c = takes_first _ c.args.last.now.entries c.pop_first.new.self.entries c.pop_first.result c.pop_first.ensures.variant.1 c.pop_first.ensures.value (λ _ updates. updates.0) c.pop_first.ensures.updates c.pop_first.ensures.len
