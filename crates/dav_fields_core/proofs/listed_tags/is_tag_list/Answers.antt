use Rattle.std.proofs.Common.{rules, tests}
use Rattle.std.proofs.lemmas.Iterator.Consumers.{YieldsList-from_first}
use Rattle.std.proofs.lemmas.Iterator.Search.{all_from_yields_List}
use Rattle.dav_fields_core.specs.ListedTags.{is_listed_element}
use Rattle.dav_fields_core.specs.Private.ListElements.{elements_left}
use Rattle.dav_fields_core.proofs.listed_tags.is_tag_list.Goals as goal

pub returns : goal.returns
returns c =
    all_from_yields_List is_listed_element c.all.new.self _ _ c.all.ensures.ran
    (YieldsList-from_first (λ x. x.now) elements_left _ c.elements_of.ensures) (λ x b q k. search (rules, tests))
