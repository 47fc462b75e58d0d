use Rattle.std.specs.Io.Buffered.{reader_remaining, writer_contents}
use Rattle.std.proofs.lemmas.Result.{IfOk-weaker}
use Rattle.dav_resource_core.specs.Replaying.{beginning}
use Rattle.dav_resource_core.proofs.PlayingLaws.{began_by, fresh, nothing_played, replayed, stopped_by}
use Rattle.dav_resource_core.proofs.davreplay.play.Goals as goal

pub returns-in_default-clause-err : goal.returns-in_default-clause-err
returns-in_default-clause-err g c = nothing_played (beginning c.args.seed) (g.I.Read.remaining c.args.input) (writer_contents g.O.Write.contents c.args.output.now)

pub returns-in_err-input-clause-err : goal.returns-in_err-input-clause-err
returns-in_err-input-clause-err g c =
    stopped_by c.from_residual.result (beginning c.args.seed) (g.I.Read.remaining c.args.input) _ _
    (nothing_played (beginning c.args.seed) (g.I.Read.remaining c.args.input) (writer_contents g.O.Write.contents c.args.output.now))

pub returns-clause-ok : goal.returns-clause-ok
returns-clause-ok g c =
    let old = writer_contents g.O.Write.contents c.args.output.now in
    let new = writer_contents g.O.Write.contents c.play_all.new.output in
    IfOk-weaker c.play_all.result _ _
    (λ end played. replayed c.args.seed c.in-Ok.stores c.seed_from_u64.result c.new-2.result (reader_remaining g.I.Read.remaining c.in_ok-input.input) (g.I.Read.remaining c.args.input)
    old new end played.0 _ c.in-Ok.ensures.answer c.seed_from_u64.ensures c.new-2.ensures
    (fresh g.I.Read.remaining c.in_ok-input.input c.args.input c.in_ok-input.ensures.inner c.in_ok-input.ensures.empty c.in_ok-input.ensures.capacity) played.1 played.2)
    c.play_all.ensures.ok

pub returns-clause-err : goal.returns-clause-err
returns-clause-err g c =
    let old = writer_contents g.O.Write.contents c.args.output.now in
    let new = writer_contents g.O.Write.contents c.play_all.new.output in
    let left = reader_remaining g.I.Read.remaining c.in_ok-input.input in
    began_by c.play_all.result c.args.seed c.in-Ok.stores c.seed_from_u64.result c.new-2.result left (g.I.Read.remaining c.args.input) old new c.in-Ok.ensures.answer c.seed_from_u64.ensures c.new-2.ensures
    (fresh g.I.Read.remaining c.in_ok-input.input c.args.input c.in_ok-input.ensures.inner c.in_ok-input.ensures.empty c.in_ok-input.ensures.capacity)
    c.play_all.ensures.err
