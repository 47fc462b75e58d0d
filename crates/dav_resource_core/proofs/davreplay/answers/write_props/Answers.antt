use Rattle.dav_files_core.specs.Properties.{property_of}
use Rattle.dav_resource_core.specs.AnswerTexts.{property_text}
use Rattle.dav_resource_core.proofs.Texts.{written_more, written_line}
use Rattle.dav_resource_core.proofs.davreplay.answers.write_props.Goals as goal

pub loop-prop-preserved : goal.loop-prop-preserved
loop-prop-preserved g c =
    written_more property_text property_of (g.O.Write.contents c.write_all.new.self) (g.O.Write.contents c.loop-prop.output) (g.O.Write.contents c.write_prop.new.output)
    c.args.props.now c.loop-prop.prop-index c.prop-item.result c.loop-prop-test.true c.prop-item.is c.loop-prop.invariant c.in_ok-write_prop.ensures

pub returns : goal.returns
returns g c =
    written_line property_text property_of (g.O.Write.contents c.args.output.now) (g.O.Write.contents c.write_all.new.self) (g.O.Write.contents c.loop-prop.output)
    (g.O.Write.contents c.write_all-2.new.self) c.args.props.now c.loop-prop.prop-index c.loop-prop-test.false c.in_ok-write_all.ensures.bytes c.loop-prop.invariant c.in_ok-write_all-2.ensures.bytes
