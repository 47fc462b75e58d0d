use Rattle.std.proofs.Common.{refl}
use Rattle.http_frames.specs.ConnectionEvents.{Closed}
use Rattle.http_frames.proofs.Keeping.{closes_then}
use Rattle.http_frames.proofs.clients.Clients.close.Goals as goal

pub returns-clause-closes : goal.returns-clause-closes
returns-clause-closes c = λ es h. closes_then c.args.self.now es Closed refl h refl
