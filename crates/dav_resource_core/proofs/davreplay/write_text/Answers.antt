use Rattle.std.proofs.Common.{◌≡◌, ◌++◌, length, take, drop, sym, ap, ◌∙◌, arith, length-drop}
use Rattle.std.proofs.Math.Seq.{take-length}
use Rattle.std.proofs.lemmas.Bool.Decides.{nat_tests}
use Rattle.dav_resource_core.proofs.PlayingLaws.{all_written, front_written, kept_same, more_written, wrote_by}
use Rattle.dav_resource_core.proofs.davreplay.write_text.Goals as goal

pub returns-then-is_empty-clause-ok : goal.returns-then-is_empty-clause-ok
returns-then-is_empty-clause-ok g c =
    let front = c.loop-turn.invariant in
    let none : length c.loop-turn.rest.now ≡ 0 = grind (arith, nat_tests, c.is_empty.ensures, c.if-is_empty.true) in
    all_written c.args.text.now front.0 c.loop-turn.rest.now (g.O.Write.contents c.args.output.now) (g.O.Write.contents c.loop-turn.output) front.1 none front.2

pub returns-clause-err : goal.returns-clause-err
returns-clause-err g c =
    let front = c.loop-turn.invariant in
    front_written c.args.text.now front.0 c.loop-turn.rest.now (g.O.Write.contents c.args.output.now) (g.O.Write.contents c.loop-turn.output) (g.O.Write.contents c.loop-turn.output)
    front.1 front.2 (kept_same (g.O.Write.contents c.loop-turn.output))

pub returns-in_err-count-clause-err : goal.returns-in_err-count-clause-err
returns-in_err-count-clause-err g c =
    let front = c.loop-turn.invariant in
    wrote_by c.from_residual.result c.args.text.now (g.O.Write.contents c.args.output.now) (g.O.Write.contents c.write_piece.new.output)
    (front_written c.args.text.now front.0 c.loop-turn.rest.now (g.O.Write.contents c.args.output.now) (g.O.Write.contents c.loop-turn.output) (g.O.Write.contents c.write_piece.new.output)
    front.1 front.2 c.in_err-count.ensures.err)

pub loop-turn-preserved : goal.loop-turn-preserved
loop-turn-preserved g c =
    let front = c.loop-turn.invariant in
    let rest = c.loop-turn.rest.now in
    let more = more_written c.args.text.now front.0 rest (g.O.Write.contents c.args.output.now) (g.O.Write.contents c.loop-turn.output) (g.O.Write.contents c.write_piece.new.output)
    c.in_ok-count.count front.1 front.2 c.in_ok-count.ensures.ok in
    let same = ap (λ n. take n (drop c.in_ok-count.count rest)) (sym (length-drop c.in_ok-count.count rest)) ∙ take-length (drop c.in_ok-count.count rest) in
    (more.0, more.1 ∙ ap (λ l. more.0 ++ l) (sym same), more.2)
