use Rattle.dav_files_core.specs.Listing.{listed_entry}
use Rattle.dav_resource_core.specs.AnswerTexts.{member_text}
use Rattle.dav_resource_core.proofs.Texts.{written_more, written_line}
use Rattle.dav_resource_core.proofs.davreplay.answers.write_entries.Goals as goal

pub loop-entry-preserved : goal.loop-entry-preserved
loop-entry-preserved g c =
    written_more member_text listed_entry (g.O.Write.contents c.write_all.new.self) (g.O.Write.contents c.loop-entry.output) (g.O.Write.contents c.write_entry.new.output)
    c.args.entries.now c.loop-entry.entry-index c.entry-item.result c.loop-entry-test.true c.entry-item.is c.loop-entry.invariant c.in_ok-write_entry.ensures

pub returns : goal.returns
returns g c =
    written_line member_text listed_entry (g.O.Write.contents c.args.output.now) (g.O.Write.contents c.write_all.new.self) (g.O.Write.contents c.loop-entry.output)
    (g.O.Write.contents c.write_all-2.new.self) c.args.entries.now c.loop-entry.entry-index c.loop-entry-test.false c.in_ok-write_all.ensures.bytes c.loop-entry.invariant c.in_ok-write_all-2.ensures.bytes
