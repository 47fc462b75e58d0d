use Rattle.std.proofs.Common.{ap, ◌∙◌, inl}
use Rattle.std.specs.FinMap.{insert}
use Rattle.dav_path_core.proofs.index.IndexMaps.{index-insert}
use Rattle.dav_path_core.proofs.child_index.ChildIndex.keep.Goals as goal

pub returns-in-Ok : goal.returns-in-Ok
returns-in-Ok c = inl (index-insert c.self.inside.folders c.insert.new.self c.args.folder c.args.names c.in-Ok.ensures.updates ∙ ap (λ ix. insert ix c.args.folder c.args.names) c.self.view_is)
