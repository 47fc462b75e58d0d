use Rattle.dav_resource_core.proofs.davreplay.replay.Goals as goal

pub returns-in-Ok-clause-malformed : goal.returns-in-Ok-clause-malformed
returns-in-Ok-clause-malformed g c = λ two. let told = c.replay_to.ensures.malformed two in (told.0, (told.1.0, told.1.1))
