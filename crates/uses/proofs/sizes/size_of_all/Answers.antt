use Rattle.std.proofs.Common.{sym, ◌∙◌, eqb-true}
use Rattle.dav_path_core.specs.Segments.{segments}
use Rattle.uses.proofs.SizeLemmas.{no_items, none_left, one_more}
use Rattle.uses.proofs.sizes.size_of_all.Goals as goal

pub returns-then-is_empty : goal.returns-then-is_empty
returns-then-is_empty g c =
    none_left (g.F.DavFileSystem.contents c.args.fs.now) (λ p. segments p.bytes) c.args.waiting.items c.loop.waiting.items c.loop.size
    (no_items c.loop.waiting.items c.loop.waiting.len c.loop.waiting.ok.0 (eqb-true c.loop.waiting.len 0 (sym c.is_empty.ensures ∙ c.if-is_empty.true))) c.loop.invariant

pub returns-then-is_empty-2 : goal.returns-then-is_empty-2
returns-then-is_empty-2 g c =
    none_left (g.F.DavFileSystem.contents c.args.fs.now) (λ p. segments p.bytes) c.args.waiting.items c.loop.waiting.items c.loop.size
    (no_items c.loop.waiting.items c.loop.waiting.len c.loop.waiting.ok.0 (eqb-true c.loop.waiting.len 0 (sym c.is_empty-2.ensures ∙ c.if-is_empty-2.true))) c.loop.invariant

pub loop-preserved : goal.loop-preserved
loop-preserved g c = λ more.
    one_more (g.F.DavFileSystem.contents c.args.fs.now) (λ p. segments p.bytes) c.args.waiting.items c.loop.waiting.items c.list_last.new.waiting.items
    c.loop.size c.in_ok-list_last.field-0 c.in_ok-size.size more c.loop.invariant c.in_ok-list_last.ensures c.in_ok-size.ensures
