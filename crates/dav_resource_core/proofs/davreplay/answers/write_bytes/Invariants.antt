use Rattle.std.proofs.Common.{◌≡◌}
use Rattle.std.specs.Slice.Iter.{chunks_rest, chunks_size}
use Rattle.dav_resource_core.proofs.Texts.{WroteFront}
use Rattle.dav_resource_core.proofs.davreplay.answers.write_bytes.Given as goal

abbrev pub invariant-loop-chunk : goal.invariant-loop-chunk
invariant-loop-chunk g l =
    (goal.iterator-loop-chunk g).can_next l.chunk-iterator
    × (goal.iterator-loop-chunk g).is_finite l.chunk-iterator
    × (chunks_size l.chunk-iterator ≡ 64)
    × WroteFront (g.O.Write.contents l.initial.output) (g.O.Write.contents l.output) l.bytes (chunks_rest l.chunk-iterator)
