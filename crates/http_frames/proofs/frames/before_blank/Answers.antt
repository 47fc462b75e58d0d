use Rattle.http_frames.proofs.Blanks.{before_found, before_none}
use Rattle.http_frames.proofs.frames.before_blank.Goals as goal

pub returns-in-Some : goal.returns-in-Some
returns-in-Some c = before_found c.args.line.now c.in-Some.at c.in-Some.ensures

pub returns-in-None : goal.returns-in-None
returns-in-None c = before_none c.args.line.now c.in-None.ensures
