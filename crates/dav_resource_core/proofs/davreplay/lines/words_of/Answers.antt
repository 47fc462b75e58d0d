use Rattle.std.proofs.Common.{lit<, rules, tests}
use Rattle.std.proofs.lemmas.Iterator.Consumers.{map_from_collect, YieldsList-at, YieldsList-from_filter}
use Rattle.std.proofs.lemmas.Iterator.Splits.{YieldsList-from_str_split}
use Rattle.dav_path_core.specs.Segments.{is_nonempty}
use Rattle.dav_resource_core.specs.RequestLines.{words}
use Rattle.dav_resource_core.proofs.davreplay.lines.words_of.Goals as goal

pub returns : goal.returns
unfolding words
returns c =
    let split = YieldsList-from_str_split 32 c.args.text.now (lit< tt) c.split.ensures.text c.split.ensures.has_more c.split.ensures.pattern in
    map_from_collect _ c.collect.ensures.ran (YieldsList-from_filter _ is_nonempty (YieldsList-at c.filter.ensures.source split) c.filter.ensures.closure (λ x r q k. search (rules, tests)))
