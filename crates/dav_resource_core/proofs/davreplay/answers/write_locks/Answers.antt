use Rattle.dav_resource_core.specs.AnswerTexts.{label_text, spaced_word}
use Rattle.dav_resource_core.specs.Labels.{label_in}
use Rattle.dav_resource_core.proofs.Texts.{written_more, written_line}
use Rattle.dav_resource_core.proofs.davreplay.answers.write_locks.Goals as goal

pub loop-lock-preserved : goal.loop-lock-preserved
loop-lock-preserved g c =
    written_more (λ token. spaced_word (label_text (label_in c.args.labels.now token))) (λ lock. lock.token) (g.O.Write.contents c.write_all.new.self)
    (g.O.Write.contents c.loop-lock.output) (g.O.Write.contents c.write_label.new.output)
    c.args.locks.now c.loop-lock.lock-index c.lock-item.result c.loop-lock-test.true c.lock-item.is c.loop-lock.invariant c.in_ok-write_label.ensures

pub returns : goal.returns
returns g c =
    written_line (λ token. spaced_word (label_text (label_in c.args.labels.now token))) (λ lock. lock.token) (g.O.Write.contents c.args.output.now)
    (g.O.Write.contents c.write_all.new.self) (g.O.Write.contents c.loop-lock.output)
    (g.O.Write.contents c.write_all-2.new.self) c.args.locks.now c.loop-lock.lock-index c.loop-lock-test.false c.in_ok-write_all.ensures.bytes c.loop-lock.invariant
    c.in_ok-write_all-2.ensures.bytes
