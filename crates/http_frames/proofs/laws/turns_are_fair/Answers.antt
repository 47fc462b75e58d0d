use Rattle.http_frames.proofs.Fairness.{turn_comes, nobody_waits, gone_is_gone}
use Rattle.http_frames.proofs.Moments.{has_alone}
use Rattle.http_frames.proofs.laws.turns_are_fair.Goals as goal

pub returns : goal.returns
returns c = record { comes = turn_comes; rests = nobody_waits; gone = gone_is_gone; alone = has_alone }
