use Rattle.std.proofs.Common.{rules, arith, not}
use Rattle.std.proofs.lemmas.Bool.Decides.{nat_tests}
use Rattle.std.proofs.lemmas.List.Sums.{prefix_len-le-length}
use Rattle.dav_path_core.specs.Segments.{is_slash}
use Rattle.dav_path_core.proofs.paths.SegmentLemmas.{none_left, first_left, fewer_left}
use Rattle.dav_path_core.proofs.davpath.iter.SegmentsIterator.next.Goals as goal
use Rattle.dav_path_core.proofs.davpath.iter.SegmentsIterator.next.Goals.{then-is_empty, else-is_empty}

pub split_at-requires : goal.split_at-requires
split_at-requires c = omega (arith, prefix_len-le-length (λ b. not (is_slash b)) c.skip_slashes-rest.result.now)

pub returns-clause-steps : goal.returns-clause-steps
returns-clause-steps c =
    elim c.if-is_empty.branch [
      | then-is_empty w ↦ rw (w.result-is, ← c.self.view_is) (none_left _ _ _ _ _ c.skip_slashes-rest.ensures c.segment_len.ensures c.split_at.ensures.front c.split_at.ensures.back (grind (arith, nat_tests)))
      | else-is_empty w ↦ rw (w.result-is, ← c.self.view_is) (first_left _ _ _ _ _ c.skip_slashes-rest.ensures c.segment_len.ensures c.split_at.ensures.front c.split_at.ensures.back (grind (arith, nat_tests)))
    ]

pub returns-clause-goes : goal.returns-clause-goes
returns-clause-goes c =
    elim c.if-is_empty.branch [
      | then-is_empty w ↦ rw w.result-is (record { on = search rules; keeps = search rules; rests = search rules })
      | else-is_empty w ↦
          let bs = c.self.inside.rest.now in
          let e = first_left bs _ _ _ _ c.skip_slashes-rest.ensures c.segment_len.ensures c.split_at.ensures.front c.split_at.ensures.back (grind (arith, nat_tests)) in
          rw (w.result-is, ← c.self.view_is) (record { on = λ _. (tt, tt, fewer_left bs _ _ e); keeps = search rules; rests = search rules })
    ]
