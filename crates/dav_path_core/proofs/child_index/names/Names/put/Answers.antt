use Rattle.std.proofs.Common.{ap, ◌∙◌}
use Rattle.std.specs.FinMap.{insert}
use Rattle.dav_path_core.proofs.index.NameMaps.{names-insert}
use Rattle.dav_path_core.proofs.child_index.names.Names.put.Goals as goal

pub returns-in-Ok-clause-added : goal.returns-in-Ok-clause-added
returns-in-Ok-clause-added c = λ _.
    names-insert c.self.inside.numbers.entries c.insert.new.self.entries c.args.name.items c.args.id c.in-Ok.ensures.updates.0 c.in-Ok.ensures.updates.1
    ∙ ap (λ names. insert names c.args.name.items c.args.id) c.self.view_is
