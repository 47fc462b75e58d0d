use Rattle.std.proofs.Common.{[]}
use Rattle.kept_frames.proofs.Noting.{ask_broken, asked_noted}
use Rattle.kept_frames.proofs.Standings.{kept_stays}
use Rattle.kept_frames.proofs.Steps.{fails, steps_none}
use Rattle.kept_frames.proofs.serving.round_or_ask.Goals as goal

pub returns-in_err-ask-clause-err : goal.returns-in_err-ask-clause-err
returns-in_err-ask-clause-err g c = fails c.from_residual.result (ask_broken kept_stays c.in_err-ask.ensures.fails)

pub returns-in_ok-ask-clause-ok : goal.returns-in_ok-ask-clause-ok
returns-in_ok-ask-clause-ok g c = asked_noted kept_stays c.in_ok-ask.ensures.asks c.ask.ensures.queue c.ask.ensures.settings c.note.ensures.noted c.note.ensures.header c.note.ensures.settled

pub returns-else-not-is_asked-clause-ok : goal.returns-else-not-is_asked-clause-ok
returns-else-not-is_asked-clause-ok g c = ([], steps_none c.args.clients.now c.args.service.now.service c.args.journal.now c.args.output.now)
