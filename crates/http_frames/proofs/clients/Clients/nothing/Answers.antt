use Rattle.std.proofs.Common.{false, refl}
use Rattle.http_frames.specs.ConnectionEvents.{Nothing}
use Rattle.http_frames.proofs.Keeping.{asks_then}
use Rattle.http_frames.proofs.clients.Clients.nothing.Goals as goal

pub returns-clause-takes : goal.returns-clause-takes
returns-clause-takes c = λ is es h. asks_then c.args.self.now es Nothing refl h false refl
