use Rattle.std.proofs.Common.{rules, tests}
use Rattle.std.proofs.lemmas.Iterator.{YieldsList-from_slice}
use Rattle.std.proofs.lemmas.Iterator.Search.{position_from_yields_List}
use Rattle.dav_path_core.specs.Segments.{is_slash}
use Rattle.dav_path_core.proofs.paths.SegmentLemmas.{position_or}
use Rattle.dav_path_core.proofs.davpath.iter.segment_len.Goals as goal

pub returns : goal.returns
returns c =
    let e = position_from_yields_List is_slash _ _ c.position.result c.position.ensures.ran (YieldsList-from_slice c.args.bytes.now cc) (λ x b q k. search (rules, tests)) in
    position_or is_slash c.args.bytes.now c.position.result _ e c.unwrap_or.ensures
