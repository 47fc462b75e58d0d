use Rattle.std.proofs.Common.{sym, ap, ◌∙◌, arith}
use Rattle.std.specs.Slice.Iter.{chunks_rest, chunks_size}
use Rattle.dav_resource_core.proofs.Texts.{front_none, front_more, front_all, no_bytes}
use Rattle.dav_resource_core.proofs.davreplay.answers.write_bytes.Goals as goal

pub write_chunk-requires : goal.write_chunk-requires
write_chunk-requires g c =
    let size = c.loop-chunk.invariant.2 in
    let long = c.in-Some.ensures.steps.1.1 in
    omega (arith, size, long)

pub loop-chunk-init : goal.loop-chunk-init
loop-chunk-init g c =
    let size = ap chunks_size c.into_iter-chunk-iterator.ensures.into_iter_gives ∙ c.chunks-chunk-items.ensures.size in (
      omega (arith, size),
      tt,
      size,
      front_none (g.O.Write.contents c.write_all-2.new.self) c.args.bytes.now (chunks_rest c.into_iter-chunk-iterator.result)
          (ap chunks_rest c.into_iter-chunk-iterator.ensures.into_iter_gives ∙ c.chunks-chunk-items.ensures.rest),
    )

pub loop-chunk-preserved : goal.loop-chunk-preserved
loop-chunk-preserved g c =
    let size = c.in-Some.ensures.steps.0 ∙ c.loop-chunk.invariant.2 in (
      omega (arith, size),
      tt,
      size,
      front_more (g.O.Write.contents c.write_all-2.new.self) (g.O.Write.contents c.loop-chunk.output)
          (g.O.Write.contents c.write_chunk.new.output) c.args.bytes.now (chunks_rest c.loop-chunk.chunk-iterator) (chunks_rest c.next.new.self) c.in-Some.chunk.now
          c.loop-chunk.invariant.3 c.in-Some.ensures.steps.1.0 c.in_ok-write_chunk.ensures,
    )

pub returns : goal.returns
returns g c =
    front_all (g.O.Write.contents c.args.output.now) (g.O.Write.contents c.write_all-2.new.self) (g.O.Write.contents c.loop-chunk.output)
    (g.O.Write.contents c.write_all-3.new.self) c.args.bytes.now (chunks_rest c.loop-chunk.chunk-iterator) (sym c.is_empty.ensures ∙ c.if-is_empty.false) c.in-None.ensures.steps.1.0
    c.in_ok-write_all-2.ensures.bytes c.loop-chunk.invariant.3 c.in_ok-write_all-3.ensures.bytes

pub returns-then-is_empty : goal.returns-then-is_empty
returns-then-is_empty g c =
    no_bytes (g.O.Write.contents c.args.output.now) (g.O.Write.contents c.write_all.new.self) c.args.bytes.now
    (sym c.is_empty.ensures ∙ c.if-is_empty.true) c.in_ok-write_all.ensures.bytes
