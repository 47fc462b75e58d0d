use Rattle.std.proofs.Common.{length, rules, tests}
use Rattle.std.proofs.lemmas.Bool.{eq-eqb}
use Rattle.std.proofs.lemmas.Iterator.{YieldsList-from_slice, YieldsList-from_zip}
use Rattle.std.proofs.lemmas.Iterator.Search.{all_from_yields_List}
use Rattle.dav_headers_core.specs.Tags.{strong_eq}
use Rattle.dav_headers_core.proofs.davheaders.tag_lists.tags_strong_eq.Goals as goal

pub returns-then-tags-others : goal.returns-then-tags-others
returns-then-tags-others c =
    let tags = c.args.tags.now in
    let others = c.args.others.now in
    let all = all_from_yields_List (λ p. strong_eq p.0 p.1) c.all.new.self _ c.all.result c.all.ensures.ran (YieldsList-from_zip (YieldsList-from_slice tags cc) (YieldsList-from_slice others cc)) (λ x b q k. search (rules, tests)) in
    rw (eq-eqb (length tags) (length others) c.if-tags-others.true) all
