use Rattle.std.proofs.Common.{true, refl}
use Rattle.http_frames.specs.ConnectionEvents.{Asked}
use Rattle.http_frames.proofs.Keeping.{asks_then}
use Rattle.http_frames.proofs.clients.Clients.ask.Goals as goal

pub returns-clause-asks : goal.returns-clause-asks
returns-clause-asks g c = (λ es h. asks_then c.args.self.now es Asked refl h true refl, c.in_ok-write_more.ensures.ok)
