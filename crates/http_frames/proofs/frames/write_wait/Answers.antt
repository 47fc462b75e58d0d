use Rattle.std.proofs.Common.{◌≡◌, ℕ, List, ◌++◌, ◌∷◌, [], Bor, decimal, sym, ap, ◌∙◌, subst}
use Rattle.std.specs.Io.KnownBytes.{Appends}
use Rattle.http_frames.specs.Frames.{AppendsFront}
use Rattle.http_frames.proofs.Fronts.{whole, wait_off, wait_is, wait_word, line_is}
use Rattle.http_frames.proofs.Results.{on_ok-map, on_err-map}
use Rattle.http_frames.proofs.frames.write_wait.Goals as goal
use Rattle.http_frames.proofs.frames.write_wait.Goals.{then-part, else-part}

pub returns-then-is_err-clause-err : goal.returns-then-is_err-clause-err
returns-then-is_err-clause-err g c = whole (g.O.Write.contents c.args.output.now)

pub returns-clause-ok : goal.returns-clause-ok
returns-clause-ok g c =
    let word : c.if-part.word.now ≡ wait_word c.args.part = elim c.if-part.branch [
      | then-part w ↦ ap (λ (b : Bor (List ℕ)). b.now) w.word-is ∙ ap wait_word (sym w.if-part.true)
      | else-part w ↦ ap (λ (b : Bor (List ℕ)). b.now) w.word-is ∙ ap wait_word (sym w.if-part.false)
    ] in
    let written = line_is c.write.result c.new-line.result c.write.new.self (c.if-part.word.now ++ 32 ∷ (decimal c.args.number ++ 32 ∷ (decimal c.args.count ++ 10 ∷ [])))
    (sym c.is_err.ensures.value ∙ c.if-is_err.false) c.new-line.ensures c.write.ensures.writes in
    let is = wait_is c.args.number c.args.part c.args.count c.as_bytes.result.now c.if-part.word.now word (c.as_bytes.ensures.value ∙ c.as_str.ensures.value ∙ written) in
    on_ok-map c.write_front.result (λ x. subst (Appends (g.O.Write.contents c.args.output.now) (g.O.Write.contents c.write_front.new.output)) is x) c.write_front.ensures.ok

pub returns-clause-err : goal.returns-clause-err
returns-clause-err g c =
    let word : c.if-part.word.now ≡ wait_word c.args.part = elim c.if-part.branch [
      | then-part w ↦ ap (λ (b : Bor (List ℕ)). b.now) w.word-is ∙ ap wait_word (sym w.if-part.true)
      | else-part w ↦ ap (λ (b : Bor (List ℕ)). b.now) w.word-is ∙ ap wait_word (sym w.if-part.false)
    ] in
    let written = line_is c.write.result c.new-line.result c.write.new.self (c.if-part.word.now ++ 32 ∷ (decimal c.args.number ++ 32 ∷ (decimal c.args.count ++ 10 ∷ [])))
    (sym c.is_err.ensures.value ∙ c.if-is_err.false) c.new-line.ensures c.write.ensures.writes in
    let is = wait_is c.args.number c.args.part c.args.count c.as_bytes.result.now c.if-part.word.now word (c.as_bytes.ensures.value ∙ c.as_str.ensures.value ∙ written) in
    on_err-map c.write_front.result (λ x. wait_off c.args.number c.args.part c.args.count (g.O.Write.contents c.args.output.now) (g.O.Write.contents c.write_front.new.output)
    (subst (λ (t : List ℕ). AppendsFront t (g.O.Write.contents c.args.output.now) (g.O.Write.contents c.write_front.new.output)) is x)) c.write_front.ensures.err
