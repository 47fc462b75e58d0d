use Rattle.std.proofs.Common.{refl}
use Rattle.http_frames.proofs.Turning.{goes}
use Rattle.http_frames.proofs.clients.Clients.gone.Goals as goal

pub returns-clause-takes : goal.returns-clause-takes
returns-clause-takes c = λ is.
    let b = c.has_begun.ensures.0 c.if-not-has_begun.false in
    goes c.args.self.now _ c.args.number b.0 b.1 (record { puts = c.forget.ensures; begun = refl; config = refl; window = refl; asked = refl }) refl
