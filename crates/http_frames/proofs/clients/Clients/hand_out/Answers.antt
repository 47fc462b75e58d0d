use Rattle.std.proofs.Common.{Option, Ok, Some, None, [], List, ℕ, cond, ◌==◌, refl, sym, ap, subst, ◌∙◌}
use Rattle.std.specs.Io.KnownBytes.{Appends}
use Rattle.http_frames.specs.declared.held.Held.{Held}
use Rattle.http_frames.specs.Clients.{Has}
use Rattle.http_frames.specs.ConnectionEvents.{Told, Ended}
use Rattle.http_frames.specs.Frames.{piece_text}
use Rattle.http_frames.proofs.Places.{put_then_taken}
use Rattle.http_frames.proofs.Turning.{speaks, waits, ends}
use Rattle.http_frames.proofs.clients.Clients.hand_out.Goals as goal

pub returns-in_err-speak-clause-stays : goal.returns-in_err-speak-clause-stays
returns-in_err-speak-clause-stays g c = λ no.
    let b = c.has_begun.ensures.0 c.if-not-has_begun.false in
    let put = (c.get_mut.follows.holds c.speak.new.held).3 (rw (sym c.in-Some.ensures.value) refl) in
    waits c.args.self.now _ c.args.number b.0 b.1 c.in-Some.held.now c.speak.new.held (sym c.in-Some.ensures.value) (record { puts = put.0; begun = refl; config = refl; window = refl; asked = refl })
    (c.in_err-speak.ensures.other (λ is. cc))

pub returns-in_err-write_piece-in-Over-clause-stays : goal.returns-in_err-write_piece-in-Over-clause-stays
returns-in_err-write_piece-in-Over-clause-stays g c = λ no.
    let b = c.has_begun.ensures.0 c.if-not-has_begun.false in
    let put = (c.get_mut.follows.holds c.speak.new.held).3 (rw (sym c.in-Some.ensures.value) refl) in
    waits c.args.self.now _ c.args.number b.0 b.1 c.in-Some.held.now c.speak.new.held (sym c.in-Some.ensures.value) (record { puts = put.0; begun = refl; config = refl; window = refl; asked = refl })
    (c.in_ok-speak.ensures.other (λ is. let over = c.in-Over.is in cc))

pub returns-in-Nothing-clause-stays : goal.returns-in-Nothing-clause-stays
returns-in-Nothing-clause-stays g c = λ no.
    let b = c.has_begun.ensures.0 c.if-not-has_begun.false in
    let put = (c.get_mut.follows.holds c.speak.new.held).3 (rw (sym c.in-Some.ensures.value) refl) in
    waits c.args.self.now _ c.args.number b.0 b.1 c.in-Some.held.now c.speak.new.held (sym c.in-Some.ensures.value) (record { puts = put.0; begun = refl; config = refl; window = refl; asked = refl })
    (c.in_ok-speak.ensures.other (λ is. let nothing = c.in-Nothing.is in cc))

pub returns-in-Something-clause-told : goal.returns-in-Something-clause-told
returns-in-Something-clause-told g c = λ is.
    let b = c.has_begun.ensures.0 c.if-not-has_begun.false in
    let put = (c.get_mut.follows.holds c.speak.new.held).3 (rw (sym c.in-Some.ensures.value) refl) in
    speaks c.args.self.now _ c.args.number b.0 b.1 c.in-Some.held.now c.speak.new.held (g.O.Write.contents c.args.output.now) (g.O.Write.contents c.speak.new.output) (sym c.in-Some.ensures.value)
    (record { puts = put.0; begun = refl; config = refl; window = refl; asked = refl }) (c.in_ok-speak.ensures.says (ap (λ s. Ok s) c.in-Something.is))

pub returns-in_ok-write_piece-in-Over-clause-told : goal.returns-in_ok-write_piece-in-Over-clause-told
returns-in_ok-write_piece-in-Over-clause-told g c = λ is.
    let b = c.has_begun.ensures.0 c.if-not-has_begun.false in
    let put = (c.get_mut.follows.holds c.speak.new.held).3 (rw (sym c.in-Some.ensures.value) refl) in
    let over = c.in_ok-speak.ensures.over (ap (λ s. Ok s) c.in-Over.is) in
    let quiet = c.in_ok-speak.ensures.quiet (λ is. let over = c.in-Over.is in cc) in
    record {
      event = Told c.args.number [];
      number_is = refl;
      out = tt;
      wrote = subst (λ (t : Option (List ℕ)). Appends t (g.O.Write.contents c.write_piece.new.output) (piece_text c.args.number [])) (ap g.O.Write.contents quiet) c.in_ok-write_piece-in-Over.ensures.ok;
      adds = ends c.args.self.now _ c.args.number b.0 b.1 c.in-Some.held.now (sym c.in-Some.ensures.value) over.2 (record {
        puts = λ q. c.forget.ensures q ∙ ap (λ (o : Option Held). cond (c.args.number == q) None o) (put.0 q) ∙ put_then_taken (c.args.number == q) None (Some c.speak.new.held) _;
        begun = refl;
        config = refl;
        window = refl;
        asked = refl;
      }) over.1;
      known = tt;
    }

pub returns-in-NoRoom-clause-told : goal.returns-in-NoRoom-clause-told
returns-in-NoRoom-clause-told g c = λ is.
    let b = c.has_begun.ensures.0 c.if-not-has_begun.false in
    let put = (c.get_mut.follows.holds c.speak.new.held).3 (rw (sym c.in-Some.ensures.value) refl) in
    let quiet = c.in_ok-speak.ensures.quiet (λ is. let room = c.in-NoRoom.is in cc) in
    let told = c.end.ensures.told is in
    record {
      event = Ended c.args.number;
      number_is = refl;
      out = tt;
      wrote = subst (λ (t : Option (List ℕ)). Appends t (g.O.Write.contents c.end.new.output) (piece_text c.args.number [])) (ap g.O.Write.contents quiet) told.1;
      adds = λ es h. told.0 es (waits c.args.self.now _ c.args.number b.0 b.1 c.in-Some.held.now c.speak.new.held (sym c.in-Some.ensures.value)
          (record { puts = put.0; begun = refl; config = refl; window = refl; asked = refl }) (c.in_ok-speak.ensures.other (λ is. let room = c.in-NoRoom.is in cc)) es h);
      known = tt;
    }

pub returns-in-NoRoom-clause-stays : goal.returns-in-NoRoom-clause-stays
returns-in-NoRoom-clause-stays g c = λ no es h.
    let b = c.has_begun.ensures.0 c.if-not-has_begun.false in
    let put = (c.get_mut.follows.holds c.speak.new.held).3 (rw (sym c.in-Some.ensures.value) refl) in
    subst (λ clients. Has clients es) (sym (c.end.ensures.stays no))
    (waits c.args.self.now _ c.args.number b.0 b.1 c.in-Some.held.now c.speak.new.held (sym c.in-Some.ensures.value)
    (record { puts = put.0; begun = refl; config = refl; window = refl; asked = refl }) (c.in_ok-speak.ensures.other (λ is. let room = c.in-NoRoom.is in cc)) es h)
