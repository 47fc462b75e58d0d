use Rattle.std.proofs.Common.{rules, tests, ◌==◌, ap, take}
use Rattle.std.proofs.lemmas.Iterator.{YieldsList-from_slice}
use Rattle.std.proofs.lemmas.Iterator.Search.{position_from_yields_List}
use Rattle.dav_path_core.proofs.paths.SegmentLemmas.{position_or}
use Rattle.dav_path_core.proofs.davpath.reading.before_query.Goals as goal

pub returns : goal.returns
returns c =
    let text = c.args.text.now in
    let e = position_from_yields_List (λ b. b == 63) _ _ c.position.result c.position.ensures.ran (YieldsList-from_slice text cc) (λ x b q k. search (rules, tests)) in
    ap (λ n. take n text) (position_or (λ b. b == 63) text c.position.result c.unwrap_or-end.result e c.unwrap_or-end.ensures)
