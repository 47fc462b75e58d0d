use Rattle.std.proofs.Common.{rules, tests}
use Rattle.std.proofs.lemmas.Iterator.{YieldsList-from_slice, YieldsList-from_zip}
use Rattle.std.proofs.lemmas.Iterator.Search.{all_from_yields_List}
use Rattle.dav_headers_core.specs.IfValues.{located_list}
use Rattle.dav_headers_core.specs.IfStrongEq.{list_strong_eq}
use Rattle.dav_headers_core.proofs.lists.PairwiseLemmas.{pairwise_shown}
use Rattle.dav_headers_core.proofs.davheaders.if_headers.lists.lists_strong_eq.Goals as goal

pub returns-then-lists-others : goal.returns-then-lists-others
returns-then-lists-others c =
    let xs = c.args.lists.now in
    let ys = c.args.others.now in
    let all = all_from_yields_List (λ p. list_strong_eq (located_list p.0) (located_list p.1)) c.all.new.self _ c.all.result c.all.ensures.ran (YieldsList-from_zip (YieldsList-from_slice xs cc) (YieldsList-from_slice ys cc)) (λ x b q k. search (rules, tests)) in
    pairwise_shown list_strong_eq located_list xs ys c.all.result c.if-lists-others.true all
