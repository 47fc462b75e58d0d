use Rattle.std.proofs.Common.{Option, Some, None, cond, ◌==◌, refl, sym, ap, ◌∙◌}
use Rattle.http_frames.specs.declared.held.Held.{Held}
use Rattle.http_frames.proofs.Places.{put_then_taken}
use Rattle.http_frames.proofs.clients.Clients.pass.Goals as goal

pub returns-then-hear-clause-hears : goal.returns-then-hear-clause-hears
returns-then-hear-clause-hears c = λ is.
    let put = (c.get_mut.follows.holds c.hear.new.held).3 (rw (sym c.in-Some.ensures.value) refl) in
    rw (sym c.in-Some.ensures.value) (c.hear.new.held, record { puts = put.0; begun = refl; config = refl; window = refl; asked = refl }, c.hear.ensures.hears c.if-hear.true)

pub returns-clause-fails : goal.returns-clause-fails
returns-clause-fails c = λ is.
    let put = (c.get_mut.follows.holds c.hear.new.held).3 (rw (sym c.in-Some.ensures.value) refl) in (
      c.in-Some.held.now,
      sym c.in-Some.ensures.value,
      record {
        puts = λ q. c.forget.ensures q ∙ ap (λ (o : Option Held). cond (c.args.number == q) None o) (put.0 q) ∙ put_then_taken (c.args.number == q) None (Some c.hear.new.held) _;
        begun = refl;
        config = refl;
        window = refl;
        asked = refl;
      },
      c.hear.ensures.fresh,
      c.hear.ensures.fails c.if-hear.false,
    )
