use Rattle.std.proofs.Common.{sym, ◌∙◌}
use Rattle.dav_path_core.proofs.paths.FrontLemmas.{behind-turn, behind-differs}
use Rattle.dav_path_core.proofs.davpath.iter.Segments.behind.Goals as goal

pub returns-then-ne : goal.returns-then-ne
returns-then-ne c =
    sym (behind-differs _ _ _ _ _ _ c.in-Some.ensures.steps c.in_ok-next.ensures.steps (sym c.ne.ensures ∙ c.if-ne.true)) ∙ c.loop-segment.invariant

pub loop-segment-preserved : goal.loop-segment-preserved
loop-segment-preserved c =
    behind-turn _ _ _ _ _ _ c.in-Some.ensures.steps c.in_ok-next.ensures.steps (sym c.ne.ensures ∙ c.if-ne.false) ∙ c.loop-segment.invariant
