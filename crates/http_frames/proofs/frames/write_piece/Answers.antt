use Rattle.std.proofs.Common.{◌++◌, ◌∷◌, [], length, decimal, sym, ◌∙◌, subst}
use Rattle.std.specs.Io.KnownBytes.{Appends}
use Rattle.std.proofs.KnownBytes.{Appends-trans}
use Rattle.http_frames.specs.Frames.{piece_text}
use Rattle.http_frames.proofs.Fronts.{whole, piece_off, piece_is, first_front, second_front, line_is}
use Rattle.http_frames.proofs.Results.{on_err, on_ok-map, on_err-map}
use Rattle.http_frames.proofs.frames.write_piece.Goals as goal

pub returns-then-is_err-clause-err : goal.returns-then-is_err-clause-err
returns-then-is_err-clause-err g c = whole (g.O.Write.contents c.args.output.now)

pub returns-in_err-write_front-clause-err : goal.returns-in_err-write_front-clause-err
returns-in_err-write_front-clause-err g c =
    let written = line_is c.write.result c.new-line.result c.write.new.self (decimal c.args.number ++ 32 ∷ (decimal (length c.args.bytes.now) ++ 10 ∷ []))
    (sym c.is_err.ensures.value ∙ c.if-is_err.false) c.new-line.ensures c.write.ensures.writes in
    let is = piece_is c.args.number c.args.bytes.now c.as_bytes.result.now (c.as_bytes.ensures.value ∙ c.as_str.ensures.value ∙ written) in
    let x = first_front (g.O.Write.contents c.args.output.now) (g.O.Write.contents c.write_front.new.output) c.as_bytes.result.now c.args.bytes.now (piece_text c.args.number c.args.bytes.now) is
    c.in_err-write_front.ensures.err in
    let y = piece_off c.args.number c.args.bytes.now (g.O.Write.contents c.args.output.now) (g.O.Write.contents c.write_front.new.output) x in
    on_err _ y

pub returns-clause-ok : goal.returns-clause-ok
returns-clause-ok g c =
    let written = line_is c.write.result c.new-line.result c.write.new.self (decimal c.args.number ++ 32 ∷ (decimal (length c.args.bytes.now) ++ 10 ∷ []))
    (sym c.is_err.ensures.value ∙ c.if-is_err.false) c.new-line.ensures c.write.ensures.writes in
    let is = piece_is c.args.number c.args.bytes.now c.as_bytes.result.now (c.as_bytes.ensures.value ∙ c.as_str.ensures.value ∙ written) in
    on_ok-map c.write_front-2.result (λ x. subst (Appends (g.O.Write.contents c.args.output.now) (g.O.Write.contents c.write_front-2.new.output)) (sym is)
    (Appends-trans (g.O.Write.contents c.args.output.now) (g.O.Write.contents c.write_front.new.output) (g.O.Write.contents c.write_front-2.new.output) c.as_bytes.result.now c.args.bytes.now
    c.in_ok-write_front.ensures.ok x)) c.write_front-2.ensures.ok

pub returns-clause-err : goal.returns-clause-err
returns-clause-err g c =
    let written = line_is c.write.result c.new-line.result c.write.new.self (decimal c.args.number ++ 32 ∷ (decimal (length c.args.bytes.now) ++ 10 ∷ []))
    (sym c.is_err.ensures.value ∙ c.if-is_err.false) c.new-line.ensures c.write.ensures.writes in
    let is = piece_is c.args.number c.args.bytes.now c.as_bytes.result.now (c.as_bytes.ensures.value ∙ c.as_str.ensures.value ∙ written) in
    on_err-map c.write_front-2.result (λ x. piece_off c.args.number c.args.bytes.now (g.O.Write.contents c.args.output.now) (g.O.Write.contents c.write_front-2.new.output)
    (second_front (g.O.Write.contents c.args.output.now) (g.O.Write.contents c.write_front.new.output) (g.O.Write.contents c.write_front-2.new.output)
    c.as_bytes.result.now c.args.bytes.now (piece_text c.args.number c.args.bytes.now) is c.in_ok-write_front.ensures.ok x)) c.write_front-2.ensures.err
