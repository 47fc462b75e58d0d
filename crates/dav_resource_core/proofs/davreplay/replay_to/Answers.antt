use Rattle.std.proofs.Common.{subst}
use Rattle.std.specs.Io.Buffered.{writer_contents}
use Rattle.dav_resource_core.specs.Replaying.{ReplayedTo}
use Rattle.dav_resource_core.proofs.davreplay.replay_to.Goals as goal

pub returns-in-Ok-None-clause-whole : goal.returns-in-Ok-None-clause-whole
returns-in-Ok-None-clause-whole g c = λ whole.
    subst (λ end. ReplayedTo c.args.seed (g.I.Read.remaining c.args.input) end (writer_contents g.O.Write.contents c.args.output.now) (writer_contents g.O.Write.contents c.play.new.output))
    c.in-Ok-None.field-0-is c.in-Ok-None.ensures.ok

pub returns-in-Ok-Some-clause-malformed : goal.returns-in-Ok-Some-clause-malformed
returns-in-Ok-Some-clause-malformed g c = λ stopped. (
  c.in-Ok-Some.line,
  subst (λ end. ReplayedTo c.args.seed (g.I.Read.remaining c.args.input) end (writer_contents g.O.Write.contents c.args.output.now) (writer_contents g.O.Write.contents c.play.new.output))
      c.in-Ok-Some.field-0-is c.in-Ok-Some.ensures.ok,
)
