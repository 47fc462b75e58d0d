use Rattle.dav_handler_core.specs.TagHistories.Becomes.{itself}
use Rattle.dav_handler_core.proofs.FrameLemmas.{run_becomes}
use Rattle.dav_handler_core.proofs.serving.frames_make_runs.Goals as goal

pub returns : goal.returns
returns g c = λ s s' events leads. run_becomes g.C.Clock.tells s.server events s s' itself leads
