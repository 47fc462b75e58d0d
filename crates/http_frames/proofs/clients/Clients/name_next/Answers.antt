use Rattle.std.proofs.Common.{refl}
use Rattle.http_frames.specs.ConnectionEvents.{From}
use Rattle.http_frames.proofs.Keeping.{word_then}
use Rattle.http_frames.proofs.clients.Clients.name_next.Goals as goal

pub returns-clause-takes : goal.returns-clause-takes
returns-clause-takes c = λ is.
    word_then c.args.self.now _ (From c.args.number c.args.address.now) refl (λ b. refl) (record { held = λ q. refl; begun = refl; config = refl; window = refl; asked = refl; queue = refl })
