use Rattle.std.proofs.Common.{◌++◌, IsTrue, sym, ◌∙◌, subst}
use Rattle.kept_frames.proofs.Noting.{told_broken, told_noted}
use Rattle.kept_frames.proofs.Standings.{kept_stays}
use Rattle.kept_frames.proofs.Steps.{breaks_then, fails, flushed, steps_break, steps_then}
use Rattle.kept_frames.proofs.serving.finish.Goals as goal

pub returns-in_err-tell_all-clause-err : goal.returns-in_err-tell_all-clause-err
returns-in_err-tell_all-clause-err g c = fails c.from_residual.result (told_broken kept_stays c.in_err-tell_all.ensures.err)

pub loop-round-init : goal.loop-round-init
loop-round-init g c =
    let told = c.in_ok-tell_all.ensures.ok in
    record {
      wrote = (told.0, told_noted kept_stays told c.note.ensures.noted c.note.ensures.header c.note.ensures.settled);
      begun = c.tell_all.ensures.begun;
      usable = subst (λ (disk : g.row.D.Denot). IsTrue (g.D.Disk.is_usable disk)) (sym c.note.ensures.disk) c.requires.usable;
    }

pub returns-in_err-give_round-clause-err : goal.returns-in_err-give_round-clause-err
returns-in_err-give_round-clause-err g c = fails c.from_residual-in_err-give_round.result (breaks_then c.loop-round.invariant.wrote.1 c.in_err-give_round.ensures.err.1)

pub returns-in_err-flush-clause-err : goal.returns-in_err-flush-clause-err
returns-in_err-flush-clause-err g c =
    fails c.from_residual-in_err-flush.result (steps_break kept_stays (flushed kept_stays (steps_then c.loop-round.invariant.wrote.1 c.in_ok-give_round.ensures.ok.1) c.flush.ensures.bytes))

pub returns-then-not-branch-clause-ok : goal.returns-then-not-branch-clause-ok
returns-then-not-branch-clause-ok g c =
    let w = c.loop-round.invariant.wrote in
    let r = c.in_ok-give_round.ensures.ok in (w.0 ++ r.0, flushed kept_stays (steps_then w.1 r.1) c.in_ok-flush.ensures.bytes)

pub loop-round-preserved : goal.loop-round-preserved
loop-round-preserved g c =
    let w = c.loop-round.invariant.wrote in
    let r = c.in_ok-give_round.ensures.ok in
    record { wrote = (w.0 ++ r.0, steps_then w.1 r.1); begun = c.give_round.ensures.begun ∙ c.loop-round.invariant.begun; usable = c.in_ok-give_round.ensures.usable }

pub returns-clause-err : goal.returns-clause-err
returns-clause-err g c =
    let w = c.loop-round.invariant.wrote in (w.0, steps_break kept_stays w.1)
