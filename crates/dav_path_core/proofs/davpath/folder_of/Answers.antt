use Rattle.std.proofs.Common.{◌++◌, ◌∷◌, [], length, take, ap, ◌∙◌, arith}
use Rattle.std.proofs.lemmas.List.{take_all, length_push}
use Rattle.std.proofs.lemmas.Iterator.{YieldsList-from_take}
use Rattle.std.proofs.lemmas.Iterator.Consumers.{YieldsList-from_first, YieldsList-turn, YieldsList-end}
use Rattle.dav_path_core.specs.Segments.{segments}
use Rattle.dav_path_core.specs.PathText.{folder_bytes}
use Rattle.dav_path_core.proofs.paths.ParentLemmas.{folder_more}
use Rattle.dav_path_core.proofs.davpath.folder_of.Goals as goal

pub loop-segment-preserved : goal.loop-segment-preserved
loop-segment-preserved c =
    let names = take c.args.count (segments c.args.names) in
    let all = YieldsList-from_take c.args.count (YieldsList-from_first (λ x. x.now) segments (segments c.args.names) (cc)) (cc) in
    let t = YieldsList-turn all c.loop-segment.yielded _ c.loop-segment.yielded_by _ _ c.in-Some.segment c.in-Some.is c.next.ensures.steps in
    rw length_push (folder_more c.args.prefix.now names (length c.loop-segment.yielded) c.in-Some.segment.now c.loop-segment.path.items _ t.0 t.1 c.loop-segment.invariant
    (c.in_ok-push-2.ensures.items ∙ ap (λ l. l ++ 47 ∷ []) c.in_ok-extend_from_slice.ensures.items))

pub returns : goal.returns
returns c =
    let names = take c.args.count (segments c.args.names) in
    let all = YieldsList-from_take c.args.count (YieldsList-from_first (λ x. x.now) segments (segments c.args.names) (cc)) (cc) in
    let t = YieldsList-end all c.loop-segment.yielded _ c.loop-segment.yielded_by _ _ c.in-None.is c.next.ensures.steps in
    c.loop-segment.invariant ∙ ap (λ p. c.args.prefix.now ++ folder_bytes p) (take_all (length c.loop-segment.yielded) names (omega (arith, t.1)))
