use Rattle.std.proofs.Common.{ℕ, List, Option, Bool, Ok, refl, sym, ap, ◌∙◌, subst}
use Rattle.http_frames.specs.TurnRuns.{TellsAll}
use Rattle.http_frames.proofs.Moments.{joins_line}
use Rattle.http_frames.proofs.Running.{told_breaks, told_breaks_still, told_none, told_one, told_still, told_then, told_then_breaks}
use Rattle.http_frames.proofs.Results.{on_err}
use Rattle.http_frames.proofs.serving.tell_pieces.Goals as goal

pub loop-piece-init : goal.loop-piece-init
loop-piece-init g c = record { told = told_none c.args.clients.now (g.O.Write.contents c.args.output.now); begun = refl }

pub returns-in_err-hand_out-clause-err : goal.returns-in_err-hand_out-clause-err
returns-in_err-hand_out-clause-err g c =
    let held = g.O.Write.contents c.loop-piece.output in
    let x = told_then_breaks c.args.clients.now c.loop-piece.clients c.hand_out.new.self (g.O.Write.contents c.args.output.now) held (g.O.Write.contents c.hand_out.new.output) c.loop-piece.invariant.told
    (told_breaks_still c.loop-piece.clients c.hand_out.new.self held (g.O.Write.contents c.hand_out.new.output) (c.in_err-hand_out.ensures.stays (λ is. cc))
    (joins_line c.args.number c.loop-piece.clients c.hand_out.new.self c.hand_out.ensures.queue) c.hand_out.ensures.settings.config c.hand_out.ensures.settings.window c.in_err-hand_out.ensures.breaks) in
    on_err _ x

pub returns-then-not-branch-clause-ok : goal.returns-then-not-branch-clause-ok
returns-then-not-branch-clause-ok g c =
    let held = g.O.Write.contents c.loop-piece.output in
    let nothing = c.in_ok-hand_out.ensures.nothing (ap (λ (b : Bool). Ok b) c.if-not-branch.true) in
    subst (λ (t : Option (List ℕ)). TellsAll c.args.clients.now c.hand_out.new.self (g.O.Write.contents c.args.output.now) t) (sym (ap g.O.Write.contents nothing.1))
    (told_then c.args.clients.now c.loop-piece.clients c.hand_out.new.self (g.O.Write.contents c.args.output.now) held held c.loop-piece.invariant.told
    (told_still c.loop-piece.clients c.hand_out.new.self held (c.in_ok-hand_out.ensures.stays (λ is. let no = c.if-not-branch.true in cc))
    (joins_line c.args.number c.loop-piece.clients c.hand_out.new.self c.hand_out.ensures.queue) c.hand_out.ensures.settings.config c.hand_out.ensures.settings.window))

pub loop-piece-preserved : goal.loop-piece-preserved
loop-piece-preserved g c = record {
  told = told_then c.args.clients.now c.loop-piece.clients c.hand_out.new.self (g.O.Write.contents c.args.output.now) (g.O.Write.contents c.loop-piece.output) (g.O.Write.contents c.hand_out.new.output)
      c.loop-piece.invariant.told
      (told_one c.args.number c.loop-piece.clients c.hand_out.new.self (g.O.Write.contents c.loop-piece.output) (g.O.Write.contents c.hand_out.new.output)
      (c.in_ok-hand_out.ensures.told (ap (λ (b : Bool). Ok b) c.if-not-branch.false)) c.hand_out.ensures.queue c.hand_out.ensures.settings.config c.hand_out.ensures.settings.window);
  begun = c.hand_out.ensures.settings.begun ∙ c.loop-piece.invariant.begun;
}

pub returns-clause-err : goal.returns-clause-err
returns-clause-err g c = told_breaks c.args.clients.now c.loop-piece.clients (g.O.Write.contents c.args.output.now) (g.O.Write.contents c.loop-piece.output) c.loop-piece.invariant.told
