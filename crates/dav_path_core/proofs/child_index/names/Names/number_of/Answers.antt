use Rattle.std.proofs.Common.{sym, ap, ◌∙◌}
use Rattle.std.specs.FinMap.{get}
use Rattle.dav_path_core.proofs.index.NameMaps.{get-names}
use Rattle.dav_path_core.proofs.child_index.names.Names.number_of.Goals as goal

pub returns : goal.returns
returns c = c.copied.ensures ∙ c.get.ensures.value ∙ sym (get-names c.self.inside.numbers.entries c.args.name.now) ∙ ap (λ names. get names c.args.name.now) c.self.view_is
