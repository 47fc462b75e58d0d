use Rattle.std.proofs.Common.{◌++◌, IsTrue, [], sym, ◌∙◌, subst}
use Rattle.http_frames.specs.ConnectionEvents.{IsNoTick}
use Rattle.journal_core.specs.Resting.{Carries}
use Rattle.kept_frames.proofs.Giving.{append_broken, appended}
use Rattle.kept_frames.proofs.Noting.{told_broken, told_noted}
use Rattle.kept_frames.proofs.Standings.{tick_stays, waiting_stays}
use Rattle.kept_frames.proofs.Steps.{breaks_then, fails, flushed, steps_break, steps_then}
use Rattle.kept_frames.proofs.Waits.{waits_anew}
use Rattle.kept_frames.proofs.late.finish.Goals as goal

pub returns-in_err-keep-clause-err : goal.returns-in_err-keep-clause-err
returns-in_err-keep-clause-err g c = fails c.from_residual.result (append_broken IsNoTick (Carries c.args.waiting.now) c.args.clients.now c.args.service.now.service c.keep.ensures.keeps)

pub returns-in_err-tell_all-clause-err : goal.returns-in_err-tell_all-clause-err
returns-in_err-tell_all-clause-err g c =
    fails c.from_residual-in_err-tell_all.result
    (breaks_then (waits_anew c.args.clients.now c.args.service.now.service c.args.waiting.now c.keep.new.waiting c.keep.ensures.keeps c.in_ok-keep.ensures.settles c.in_ok-keep.ensures.begins)
    (told_broken (waiting_stays (Carries c.keep.new.waiting)) c.in_err-tell_all.ensures.err))

pub loop-turn-init : goal.loop-turn-init
loop-turn-init g c =
    let told = c.in_ok-tell_all.ensures.ok in
    record {
      wrote = (
        told.0,
        steps_then (waits_anew c.args.clients.now c.args.service.now.service c.args.waiting.now c.keep.new.waiting c.keep.ensures.keeps c.in_ok-keep.ensures.settles c.in_ok-keep.ensures.begins)
            (told_noted (waiting_stays (Carries c.keep.new.waiting)) told c.note.ensures.noted c.note.ensures.header c.note.ensures.settled),
      );
      begun = c.tell_all.ensures.begun;
      usable = subst (λ (disk : g.row.D.Denot). IsTrue (g.D.Disk.is_usable disk)) (sym c.note.ensures.disk) c.in_ok-keep.ensures.usable;
    }

pub returns-in_err-answer_next-clause-err : goal.returns-in_err-answer_next-clause-err
returns-in_err-answer_next-clause-err g c = fails c.from_residual-in_err-answer_next.result (breaks_then c.loop-turn.invariant.wrote.1 c.in_err-answer_next.ensures.err.1)

pub returns-in_err-keep-2-clause-err : goal.returns-in_err-keep-2-clause-err
returns-in_err-keep-2-clause-err g c =
    fails c.from_residual-in_err-keep-2.result
    (breaks_then (steps_then c.loop-turn.invariant.wrote.1 c.in_ok-answer_next.ensures.ok.1)
    (append_broken IsNoTick (Carries c.answer_next.new.waiting) c.answer_next.new.clients c.answer_next.new.service.service c.keep-then-not-branch.ensures.keeps))

pub returns-in_err-flush-clause-err : goal.returns-in_err-flush-clause-err
returns-in_err-flush-clause-err g c =
    fails c.from_residual-in_err-flush.result
    (steps_break tick_stays
    (flushed tick_stays
    (steps_then (steps_then c.loop-turn.invariant.wrote.1 c.in_ok-answer_next.ensures.ok.1)
    (appended IsNoTick (Carries c.answer_next.new.waiting) c.answer_next.new.clients c.answer_next.new.service.service c.keep-then-not-branch.ensures.keeps c.in_ok-keep-2.ensures.settles)) c.flush.ensures.bytes))

pub returns-then-not-branch-clause-ok : goal.returns-then-not-branch-clause-ok
returns-then-not-branch-clause-ok g c =
    let w = c.loop-turn.invariant.wrote in
    let r = c.in_ok-answer_next.ensures.ok in (
      (w.0 ++ r.0) ++ [],
      flushed tick_stays
          (steps_then (steps_then w.1 r.1)
          (appended IsNoTick (Carries c.answer_next.new.waiting) c.answer_next.new.clients c.answer_next.new.service.service c.keep-then-not-branch.ensures.keeps c.in_ok-keep-2.ensures.settles)) c.in_ok-flush.ensures.bytes,
    )

pub loop-turn-preserved : goal.loop-turn-preserved
loop-turn-preserved g c =
    let w = c.loop-turn.invariant.wrote in
    let r = c.in_ok-answer_next.ensures.ok in
    record { wrote = (w.0 ++ r.0, steps_then w.1 r.1); begun = c.answer_next.ensures.begun ∙ c.loop-turn.invariant.begun; usable = c.in_ok-answer_next.ensures.usable }

pub returns-clause-err : goal.returns-clause-err
returns-clause-err g c =
    let w = c.loop-turn.invariant.wrote in (w.0, steps_break (waiting_stays (Carries c.loop-turn.waiting)) w.1)
