use Rattle.dav_files_core.specs.Properties.{patch_answer}
use Rattle.dav_resource_core.specs.AnswerTexts.{status_text}
use Rattle.dav_resource_core.proofs.Texts.{written_more, written_line}
use Rattle.dav_resource_core.proofs.davreplay.answers.write_statuses.Goals as goal

pub loop-answer-preserved : goal.loop-answer-preserved
loop-answer-preserved g c =
    written_more status_text patch_answer (g.O.Write.contents c.write_all.new.self) (g.O.Write.contents c.loop-answer.output) (g.O.Write.contents c.write_status.new.output)
    c.args.answers.now c.loop-answer.answer-index c.answer-item.result c.loop-answer-test.true c.answer-item.is c.loop-answer.invariant c.in_ok-write_status.ensures

pub returns : goal.returns
returns g c =
    written_line status_text patch_answer (g.O.Write.contents c.args.output.now) (g.O.Write.contents c.write_all.new.self) (g.O.Write.contents c.loop-answer.output)
    (g.O.Write.contents c.write_all-2.new.self) c.args.answers.now c.loop-answer.answer-index c.loop-answer-test.false c.in_ok-write_all.ensures.bytes c.loop-answer.invariant c.in_ok-write_all-2.ensures.bytes
