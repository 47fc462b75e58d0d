use Rattle.std.proofs.Common.{string_bytes, map}
use Rattle.dav_headers_core.specs.IfValues.{condition_of}
use Rattle.dav_fields_core.specs.IfTokens.{token_of, with_once}
use Rattle.dav_fields_core.proofs.Collecting.{folds}
use Rattle.dav_fields_core.proofs.state_tokens.add_tokens.Goals as goal

pub loop-condition-preserved : goal.loop-condition-preserved
loop-condition-preserved c =
    folds with_once token_of condition_of c.args.conditions.now c.loop-condition.condition-index c.condition-item.result c.loop-condition-test.true c.condition-item.is
    (map string_bytes c.args.tokens.now.items) (map string_bytes c.loop-condition.tokens.items) (map string_bytes c.add_token.new.tokens.items)
    c.loop-condition.invariant c.in_ok-add_token.ensures
