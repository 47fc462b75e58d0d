use Rattle.std.proofs.Common.{refl, inl}
use Rattle.http_frames.specs.ConnectionEvents.{Ended, Stopped}
use Rattle.http_frames.specs.Clients.{held_at}
use Rattle.http_frames.proofs.Turning.{quits}
use Rattle.http_frames.proofs.Results.{some_of}
use Rattle.http_frames.proofs.clients.Clients.end.Goals as goal

pub returns-clause-told : goal.returns-clause-told
returns-clause-told g c = λ is.
    let b = c.goes_on.ensures.0 c.if-not-goes_on.false in
    let k = some_of (held_at c.args.self.now c.args.number) b.1 in (
      quits c.args.self.now _ c.args.number b.0.0 b.0.1 k.0 (Ended c.args.number) Stopped (λ a. refl) (λ is. cc) (λ is. cc) refl refl k.1
          (record { puts = c.forget.ensures; begun = refl; config = refl; window = refl; asked = refl }) (inl refl),
      c.in_ok-write_piece.ensures.ok,
    )
