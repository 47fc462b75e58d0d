use Rattle.std.proofs.Common.{[], ◌∙◌, ap, fold, string_bytes, map}
use Rattle.dav_headers_core.specs.IfValues.{Located, located_list, conditions_of}
use Rattle.dav_fields_core.specs.IfTokens.{tokens_in, with_once}
use Rattle.dav_fields_core.proofs.Collecting.{folds}
use Rattle.dav_fields_core.proofs.state_tokens.tokens_of.Goals as goal

pub loop-list-preserved : goal.loop-list-preserved
loop-list-preserved c =
    folds with_once (λ (l : Located). tokens_in l.conditions) located_list c.args.lists.now c.loop-list.list-index c.list-item.result c.loop-list-test.true c.list-item.is
    [] (map string_bytes c.loop-list.tokens.items) (map string_bytes c.add_tokens.new.tokens.items)
    c.loop-list.invariant (c.in_ok-add_tokens.ensures ∙ ap (λ cs. fold with_once (map string_bytes c.loop-list.tokens.items) (tokens_in (conditions_of cs))) c.deref.ensures.value)
