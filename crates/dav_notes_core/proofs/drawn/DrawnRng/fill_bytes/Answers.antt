use Rattle.std.proofs.Common.{List, ℕ, length, sym, ap, ◌∙◌}
use Rattle.dav_notes_core.specs.Drawing.{stream_giving}
use Rattle.dav_notes_core.proofs.DrawLemmas.{fills_other, fills_whole}
use Rattle.dav_notes_core.proofs.drawn.DrawnRng.fill_bytes.Goals as goal

pub returns-then-dst-eq16 : goal.returns-then-dst-eq16
returns-then-dst-eq16 c =
    ap (λ (xs : List ℕ). (xs, stream_giving c.args.self.now.bytes)) c.copy_from_slice.ensures.after ∙ sym (fills_whole c.args.self.now.bytes (length c.args.dst.now) c.if-dst-eq16.true)

pub returns-else-dst-eq16 : goal.returns-else-dst-eq16
returns-else-dst-eq16 c =
    ap (λ (xs : List ℕ). (xs, stream_giving c.args.self.now.bytes)) (c.fill.ensures.after (λ y e. e)) ∙ sym (fills_other c.args.self.now.bytes (length c.args.dst.now) c.if-dst-eq16.false)
