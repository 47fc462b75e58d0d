use Rattle.std.proofs.Common.{ap, ◌∙◌}
use Rattle.std.specs.FinMap.{remove}
use Rattle.dav_path_core.proofs.index.NameMaps.{names-remove}
use Rattle.dav_path_core.proofs.child_index.names.Names.take_out.Goals as goal

pub returns : goal.returns
returns c =
    names-remove c.self.inside.numbers.entries c.remove.new.self.entries c.args.name.now c.remove.ensures.updates.0 c.remove.ensures.updates.1
    ∙ ap (λ names. remove names c.args.name.now) c.self.view_is
