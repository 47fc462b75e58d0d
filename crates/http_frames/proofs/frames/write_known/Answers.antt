use Rattle.std.proofs.Common.{ℕ, List, ◌++◌, ◌∷◌, [], codes, decimal, sym, ◌∙◌, subst}
use Rattle.std.specs.Io.KnownBytes.{Appends}
use Rattle.http_frames.specs.Frames.{AppendsFront}
use Rattle.http_frames.proofs.Fronts.{whole, known_off, known_is, line_is}
use Rattle.http_frames.proofs.Results.{on_ok-map, on_err-map}
use Rattle.http_frames.proofs.frames.write_known.Goals as goal

pub returns-then-is_err-clause-err : goal.returns-then-is_err-clause-err
returns-then-is_err-clause-err g c = whole (g.O.Write.contents c.args.output.now)

pub returns-clause-ok : goal.returns-clause-ok
returns-clause-ok g c =
    let written = line_is c.write.result c.new-line.result c.write.new.self (codes "known " ++ decimal c.args.number ++ 10 ∷ []) (sym c.is_err.ensures.value ∙ c.if-is_err.false) c.new-line.ensures c.write.ensures.writes in
    let is = known_is c.args.number c.as_bytes.result.now (c.as_bytes.ensures.value ∙ c.as_str.ensures.value ∙ written) in
    on_ok-map c.write_front.result (λ x. subst (Appends (g.O.Write.contents c.args.output.now) (g.O.Write.contents c.write_front.new.output)) is x) c.write_front.ensures.ok

pub returns-clause-err : goal.returns-clause-err
returns-clause-err g c =
    let written = line_is c.write.result c.new-line.result c.write.new.self (codes "known " ++ decimal c.args.number ++ 10 ∷ []) (sym c.is_err.ensures.value ∙ c.if-is_err.false) c.new-line.ensures c.write.ensures.writes in
    let is = known_is c.args.number c.as_bytes.result.now (c.as_bytes.ensures.value ∙ c.as_str.ensures.value ∙ written) in
    on_err-map c.write_front.result (λ x. known_off c.args.number (g.O.Write.contents c.args.output.now) (g.O.Write.contents c.write_front.new.output)
    (subst (λ (t : List ℕ). AppendsFront t (g.O.Write.contents c.args.output.now) (g.O.Write.contents c.write_front.new.output)) is x)) c.write_front.ensures.err
