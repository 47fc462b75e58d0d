use Rattle.std.specs.Io.Buffered.{reader_remaining, writer_contents}
use Rattle.std.proofs.lemmas.Result.{IfOk-weaker}
use Rattle.dav_resource_core.proofs.PlayingLaws.{kept_behind, part_of, stopped_by}
use Rattle.dav_resource_core.proofs.davreplay.play_all.Goals as goal

pub returns-in_err-flush-clause-err : goal.returns-in_err-flush-clause-err
returns-in_err-flush-clause-err g c =
    let old = writer_contents g.O.Write.contents c.args.output.now in
    let mid = writer_contents g.O.Write.contents c.play_lines-played.new.output in
    let new = writer_contents g.O.Write.contents c.flush.new.self in
    let left = reader_remaining g.I.Read.remaining c.args.input.now in
    stopped_by c.from_residual.result _ left old new
    (part_of c.play_lines-played.result _ _ left old mid new c.play_lines-played.ensures.ok c.play_lines-played.ensures.err c.flush.ensures.bytes)

pub returns-clause-ok : goal.returns-clause-ok
returns-clause-ok g c =
    let old = writer_contents g.O.Write.contents c.args.output.now in
    let mid = writer_contents g.O.Write.contents c.play_lines-played.new.output in
    let new = writer_contents g.O.Write.contents c.flush.new.self in
    IfOk-weaker c.play_lines-played.result _ _ (λ end played. (played.0, played.1, kept_behind old mid new _ played.2 c.flush.ensures.bytes)) c.play_lines-played.ensures.ok

pub returns-clause-err : goal.returns-clause-err
returns-clause-err g c =
    let old = writer_contents g.O.Write.contents c.args.output.now in
    let mid = writer_contents g.O.Write.contents c.play_lines-played.new.output in
    let new = writer_contents g.O.Write.contents c.flush.new.self in
    let left = reader_remaining g.I.Read.remaining c.args.input.now in
    stopped_by c.play_lines-played.result _ left old new
    (part_of c.play_lines-played.result _ _ left old mid new c.play_lines-played.ensures.ok c.play_lines-played.ensures.err c.flush.ensures.bytes)
