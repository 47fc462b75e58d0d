use Rattle.std.proofs.Common.{rules, tests, not, drop, take_all, length-drop, arith, ◌∙◌, ap}
use Rattle.std.proofs.lemmas.Iterator.{YieldsList-from_slice}
use Rattle.std.proofs.lemmas.Iterator.Search.{position_from_yields_List}
use Rattle.dav_path_core.specs.Segments.{is_slash}
use Rattle.dav_path_core.proofs.paths.SegmentLemmas.{position_or}
use Rattle.dav_path_core.proofs.davpath.iter.skip_slashes.Goals as goal

pub returns : goal.returns
returns c =
    let bs = c.args.bytes.now in
    let n = c.unwrap_or-slashes.result in
    let e = position_from_yields_List (λ b. not (is_slash b)) _ _ c.position.result c.position.ensures.ran (YieldsList-from_slice bs cc) (λ x b q k. search (rules, tests)) in
    take_all _ (drop n bs) (omega (arith, length-drop n bs)) ∙ ap (λ k. drop k bs) (position_or (λ b. not (is_slash b)) bs c.position.result n e c.unwrap_or-slashes.ensures)
