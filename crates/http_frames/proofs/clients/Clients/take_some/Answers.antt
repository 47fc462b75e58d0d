use Rattle.std.proofs.Common.{refl, inl, inr}
use Rattle.http_frames.specs.ConnectionEvents.{Rejected, Gone, Left, Stopped}
use Rattle.http_frames.proofs.Turning.{hears, quits}
use Rattle.http_frames.proofs.Results.{on_ok-map, on_err}
use Rattle.http_frames.proofs.clients.Clients.take_some.Goals as goal

pub returns-then-pass-clause-takes : goal.returns-then-pass-clause-takes
returns-then-pass-clause-takes g c = λ b. inl (hears c.args.self.now c.pass.new.self c.args.number b.0 b.1 c.args.bytes.now (c.pass.ensures.hears c.if-pass.true), refl)

pub returns-clause-takes : goal.returns-clause-takes
returns-clause-takes g c = λ b.
    let x = c.pass.ensures.fails c.if-pass.false in
    on_ok-map c.write_piece.result
    (λ wrote. inr (inr (x.0, x.1, x.4), quits c.args.self.now c.pass.new.self c.args.number b.0 b.1 x.0 (Rejected c.args.number c.args.bytes.now) Stopped (λ a. refl) (λ is. cc) (λ is. cc) refl refl x.1 x.2 x.3, wrote))
    c.write_piece.ensures.ok

pub returns-clause-fails : goal.returns-clause-fails
returns-clause-fails g c = λ b.
    let x = c.pass.ensures.fails c.if-pass.false in
    on_err c.write_piece.result (quits c.args.self.now c.pass.new.self c.args.number b.0 b.1 x.0 (Gone c.args.number) Left (λ a. refl) (λ is. cc) (λ is. cc) refl refl x.1 x.2 x.3)
