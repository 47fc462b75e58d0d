use Rattle.std.proofs.Common.{subst, sym}
use Rattle.std.specs.Io.Buffered.{reader_remaining, writer_contents}
use Rattle.dav_guarded_core.specs.Stores.{state_of}
use Rattle.dav_resource_core.proofs.PlayingLaws.{Gave, kept_same, none_played, one_more, all_played, stopped, stopped_before, stopped_by, stopped_within}
use Rattle.dav_resource_core.proofs.davreplay.play_lines.Goals as goal

pub loop-number-init : goal.loop-number-init
loop-number-init g c =
    none_played (state_of c.args.player.now.stores (g.R.Rng.stream c.args.player.now.rng), c.args.player.now.labels)
    (reader_remaining g.I.Read.remaining c.args.input.now) (writer_contents g.O.Write.contents c.args.output.now)

pub returns-then-not-branch-clause-ok : goal.returns-then-not-branch-clause-ok
returns-then-not-branch-clause-ok g c =
    all_played _ (state_of c.loop-number.player.stores (g.R.Rng.stream c.loop-number.player.rng), c.loop-number.player.labels)
    (reader_remaining g.I.Read.remaining c.args.input.now) (writer_contents g.O.Write.contents c.args.output.now)
    (reader_remaining g.I.Read.remaining c.loop-number.input) (writer_contents g.O.Write.contents c.loop-number.output)
    (writer_contents g.O.Write.contents c.read_line.new.output) c.loop-number.number c.in_ok-read_line.field-0
    c.loop-number.invariant c.in_ok-read_line.ensures.there c.if-not-branch.true c.in_ok-read_line.ensures.written

pub returns-then-not-branch-2-clause-ok : goal.returns-then-not-branch-2-clause-ok
returns-then-not-branch-2-clause-ok g c =
    let left = reader_remaining g.I.Read.remaining c.loop-number.input in
    let left' = reader_remaining g.I.Read.remaining c.read_line.new.input in
    let gave = subst (λ line. Gave left c.in_ok-read_line.field-0 line left') (sym c.deref.ensures.value)
    (c.in_ok-read_line.ensures.there, c.in_ok-read_line.ensures.line, c.in_ok-read_line.ensures.rest) in
    stopped _ (state_of c.loop-number.player.stores (g.R.Rng.stream c.loop-number.player.rng), c.loop-number.player.labels)
    (state_of c.play_line.new.player.stores (g.R.Rng.stream c.play_line.new.player.rng), c.play_line.new.player.labels)
    (reader_remaining g.I.Read.remaining c.args.input.now) (writer_contents g.O.Write.contents c.args.output.now) left left'
    (writer_contents g.O.Write.contents c.loop-number.output) (writer_contents g.O.Write.contents c.read_line.new.output) (writer_contents g.O.Write.contents c.play_line.new.output)
    c.loop-number.number c.deref.result.now c.in_ok-read_line.field-0 c.in_ok-play_line.field-0
    c.loop-number.invariant gave c.if-not-branch.false c.in_ok-read_line.ensures.written c.in_ok-play_line.ensures.ok c.if-not-branch-2.true

pub loop-number-preserved : goal.loop-number-preserved
loop-number-preserved g c =
    let left = reader_remaining g.I.Read.remaining c.loop-number.input in
    let left' = reader_remaining g.I.Read.remaining c.read_line.new.input in
    let gave = subst (λ line. Gave left c.in_ok-read_line.field-0 line left') (sym c.deref.ensures.value)
    (c.in_ok-read_line.ensures.there, c.in_ok-read_line.ensures.line, c.in_ok-read_line.ensures.rest) in
    one_more _ (state_of c.loop-number.player.stores (g.R.Rng.stream c.loop-number.player.rng), c.loop-number.player.labels)
    (state_of c.play_line.new.player.stores (g.R.Rng.stream c.play_line.new.player.rng), c.play_line.new.player.labels)
    (reader_remaining g.I.Read.remaining c.args.input.now) (writer_contents g.O.Write.contents c.args.output.now) left left'
    (writer_contents g.O.Write.contents c.loop-number.output) (writer_contents g.O.Write.contents c.read_line.new.output) (writer_contents g.O.Write.contents c.play_line.new.output)
    c.loop-number.number c.deref.result.now c.in_ok-read_line.field-0 c.in_ok-play_line.field-0
    c.loop-number.invariant gave c.if-not-branch.false c.in_ok-read_line.ensures.written c.in_ok-play_line.ensures.ok c.if-not-branch-2.false

pub returns-in_err-read_line-clause-err : goal.returns-in_err-read_line-clause-err
returns-in_err-read_line-clause-err g c =
    stopped_by c.from_residual.result _ _ _ _
    (stopped_before (state_of c.args.player.now.stores (g.R.Rng.stream c.args.player.now.rng), c.args.player.now.labels)
    (state_of c.loop-number.player.stores (g.R.Rng.stream c.loop-number.player.rng), c.loop-number.player.labels)
    (reader_remaining g.I.Read.remaining c.args.input.now) (writer_contents g.O.Write.contents c.args.output.now) (reader_remaining g.I.Read.remaining c.loop-number.input)
    (writer_contents g.O.Write.contents c.loop-number.output) (writer_contents g.O.Write.contents c.read_line.new.output) c.loop-number.number c.loop-number.invariant
    c.in_err-read_line.ensures.written)

pub returns-in_err-play_line-clause-err : goal.returns-in_err-play_line-clause-err
returns-in_err-play_line-clause-err g c =
    let left = reader_remaining g.I.Read.remaining c.loop-number.input in
    let left' = reader_remaining g.I.Read.remaining c.read_line.new.input in
    let gave = subst (λ line. Gave left c.in_ok-read_line.field-0 line left') (sym c.deref.ensures.value)
    (c.in_ok-read_line.ensures.there, c.in_ok-read_line.ensures.line, c.in_ok-read_line.ensures.rest) in
    stopped_by c.from_residual-in_err-play_line.result _ _ _ _
    (stopped_within (state_of c.args.player.now.stores (g.R.Rng.stream c.args.player.now.rng), c.args.player.now.labels)
    (state_of c.loop-number.player.stores (g.R.Rng.stream c.loop-number.player.rng), c.loop-number.player.labels)
    (reader_remaining g.I.Read.remaining c.args.input.now) (writer_contents g.O.Write.contents c.args.output.now) left left'
    (writer_contents g.O.Write.contents c.loop-number.output) (writer_contents g.O.Write.contents c.read_line.new.output) (writer_contents g.O.Write.contents c.play_line.new.output)
    c.loop-number.number c.deref.result.now c.in_ok-read_line.field-0 c.loop-number.invariant gave c.if-not-branch.false c.in_ok-read_line.ensures.written
    c.in_err-play_line.ensures.err)

pub returns-clause-err : goal.returns-clause-err
returns-clause-err g c =
    stopped_before (state_of c.args.player.now.stores (g.R.Rng.stream c.args.player.now.rng), c.args.player.now.labels)
    (state_of c.loop-number.player.stores (g.R.Rng.stream c.loop-number.player.rng), c.loop-number.player.labels)
    (reader_remaining g.I.Read.remaining c.args.input.now) (writer_contents g.O.Write.contents c.args.output.now) (reader_remaining g.I.Read.remaining c.loop-number.input)
    (writer_contents g.O.Write.contents c.loop-number.output) (writer_contents g.O.Write.contents c.loop-number.output) c.loop-number.number c.loop-number.invariant
    (kept_same (writer_contents g.O.Write.contents c.loop-number.output))
