use Rattle.std.proofs.Common.{arith}
use Rattle.kept_frames.proofs.rounds.set_room.Goals as goal

pub returns-clause-room : goal.returns-clause-room
returns-clause-room g c = λ some records settled clean.
    omega (arith, some, c.saturating_sub-service.ensures, c.room.ensures.room (omega (arith, some, c.saturating_sub-service.ensures)) records settled clean)
