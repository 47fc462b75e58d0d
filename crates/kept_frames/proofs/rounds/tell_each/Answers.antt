use Rattle.std.proofs.Common.{refl, ◌∙◌}
use Rattle.http_frames.proofs.Running.{told_none, told_then, told_then_breaks}
use Rattle.http_frames.proofs.Results.{on_err}
use Rattle.kept_frames.proofs.rounds.tell_each.Goals as goal

pub loop-number-init : goal.loop-number-init
loop-number-init g c = record { told = told_none c.args.clients.now (g.O.Write.contents c.args.output.now); begun = refl }

pub returns-in_err-tell-clause-err : goal.returns-in_err-tell-clause-err
returns-in_err-tell-clause-err g c =
    let x = told_then_breaks c.args.clients.now c.loop-number.clients c.tell.new.clients (g.O.Write.contents c.args.output.now) (g.O.Write.contents c.loop-number.output) (g.O.Write.contents c.tell.new.output)
    c.loop-number.invariant.told c.in_err-tell.ensures.err in
    on_err _ x

pub loop-number-preserved : goal.loop-number-preserved
loop-number-preserved g c = record {
  told = told_then c.args.clients.now c.loop-number.clients c.tell.new.clients (g.O.Write.contents c.args.output.now) (g.O.Write.contents c.loop-number.output) (g.O.Write.contents c.tell.new.output)
      c.loop-number.invariant.told c.in_ok-tell.ensures.ok;
  begun = c.tell.ensures.begun ∙ c.loop-number.invariant.begun;
}
