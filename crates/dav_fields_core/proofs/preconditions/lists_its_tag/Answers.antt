use Rattle.std.proofs.Common.{rules, tests}
use Rattle.std.proofs.lemmas.Iterator.Consumers.{YieldsList-from_first}
use Rattle.std.proofs.lemmas.Iterator.Search.{any_from_yields_List}
use Rattle.dav_fields_core.specs.Preconditions.{has_tag}
use Rattle.dav_fields_core.specs.Private.ListElements.{elements_left}
use Rattle.dav_fields_core.proofs.preconditions.lists_its_tag.Goals as goal

pub returns : goal.returns
returns c =
    any_from_yields_List (has_tag c.args.comparison c.args.standing.now) c.any.new.self _ _ c.any.ensures.ran
    (YieldsList-from_first (λ x. x.now) elements_left _ c.elements_of.ensures) (λ x b q k. search (rules, tests))
