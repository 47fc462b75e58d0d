use Rattle.std.proofs.Common.{rules, tests}
use Rattle.std.proofs.lemmas.Iterator.{YieldsList-from_slice, YieldsList-from_zip}
use Rattle.std.proofs.lemmas.Iterator.Search.{all_from_yields_List}
use Rattle.dav_headers_core.specs.IfValues.{condition_of}
use Rattle.dav_headers_core.specs.IfStrongEq.{condition_strong_eq}
use Rattle.dav_headers_core.proofs.lists.PairwiseLemmas.{pairwise_shown}
use Rattle.dav_headers_core.proofs.davheaders.if_headers.conditions.conditions_strong_eq.Goals as goal

pub returns-then-conditions-others : goal.returns-then-conditions-others
returns-then-conditions-others c =
    let xs = c.args.conditions.now in
    let ys = c.args.others.now in
    let all = all_from_yields_List (λ p. condition_strong_eq (condition_of p.0) (condition_of p.1)) c.all.new.self _ c.all.result c.all.ensures.ran (YieldsList-from_zip (YieldsList-from_slice xs cc) (YieldsList-from_slice ys cc)) (λ x b q k. search (rules, tests)) in
    pairwise_shown condition_strong_eq condition_of xs ys c.all.result c.if-conditions-others.true all
