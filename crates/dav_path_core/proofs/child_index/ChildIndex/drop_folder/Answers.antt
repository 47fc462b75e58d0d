use Rattle.std.proofs.Common.{ap, ◌∙◌}
use Rattle.std.specs.FinMap.{remove}
use Rattle.dav_path_core.proofs.index.IndexMaps.{index-remove}
use Rattle.dav_path_core.proofs.child_index.ChildIndex.drop_folder.Goals as goal

pub returns : goal.returns
returns c = index-remove c.self.inside.folders c.remove.new.self c.args.folder c.remove.ensures.updates ∙ ap (λ ix. remove ix c.args.folder) c.self.view_is
