use Rattle.std.proofs.Common.{Bool, Ok, refl, ap, ◌∙◌, inl}
use Rattle.http_frames.specs.ConnectionEvents.{Ended}
use Rattle.http_frames.proofs.Moments.{same_line}
use Rattle.http_frames.proofs.Running.{told_breaks, told_none, told_one, told_still, told_then}
use Rattle.http_frames.proofs.serving.make_room.Goals as goal

pub loop-other-init : goal.loop-other-init
loop-other-init g c = record { told = told_none c.args.clients.now (g.O.Write.contents c.args.output.now); begun = refl }

pub loop-other-preserved : goal.loop-other-preserved
loop-other-preserved g c =
    let from = g.O.Write.contents c.args.output.now in
    let held = g.O.Write.contents c.loop-other.output in
    let holds = g.O.Write.contents c.end.new.output in
    let told = c.in_ok-end.ensures.told (ap (λ (b : Bool). Ok b) c.if-not-branch.false) in
    record {
      told = told_then c.args.clients.now c.excess.new.self c.end.new.self from held holds
          (told_then c.args.clients.now c.loop-other.clients c.excess.new.self from held held c.loop-other.invariant.told
          (told_still c.loop-other.clients c.excess.new.self held c.excess.ensures.stays (same_line c.loop-other.clients c.excess.new.self c.excess.ensures.queue) c.excess.ensures.settings.config c.excess.ensures.settings.window))
          (told_one c.in-Some.other c.excess.new.self c.end.new.self held holds
          (record { event = Ended c.in-Some.other; number_is = refl; out = tt; wrote = told.1; adds = told.0; known = tt }) (inl c.end.ensures.queue) c.end.ensures.settings.config c.end.ensures.settings.window);
      begun = c.end.ensures.settings.begun ∙ c.excess.ensures.settings.begun ∙ c.loop-other.invariant.begun;
    }

pub returns-clause-err : goal.returns-clause-err
returns-clause-err g c = told_breaks c.args.clients.now c.loop-other.clients (g.O.Write.contents c.args.output.now) (g.O.Write.contents c.loop-other.output) c.loop-other.invariant.told
