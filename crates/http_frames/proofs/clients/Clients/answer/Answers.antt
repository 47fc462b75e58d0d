use Rattle.std.proofs.Common.{◌≡◌, ◌==◌, ℕ, List, ◌∷◌, length, drop, arith, HashMap, [], eq-eqb, refl, sym, ap, ◌∙◌}
use Rattle.std.specs.Map.{lookup}
use Rattle.http.specs.declared.request.Request.{Request}
use Rattle.http_server.specs.declared.response.Response.{Response}
use Rattle.http_frames.specs.declared.held.Held.{Held}
use Rattle.http_frames.specs.Gate.{BeginsWithin}
use Rattle.http_frames.specs.Private.Steps.{Steps}
use Rattle.http_frames.proofs.Learning.{log_rounded, user_rounded}
use Rattle.http_frames.proofs.Keeping.{none_moves, alike_stays}
use Rattle.http_frames.proofs.Turning.{has_turn, has_late_turn}
use Rattle.http_frames.proofs.clients.Clients.answer.Goals as goal

-- in which round the turn was given is all the same
rounded : {S : Type 0} (begins : S → ℕ → S → Type 0) (answers : S → Request (List ℕ) → Response → S → Type 0) (n round : ℕ) (k k' : Held) (s s' : S)
    → Steps begins answers n (record k { round = round }) k' s s' → Steps begins answers n k k' s s'
rounded begins answers n round k k' s s' w = record {
  calls = w.calls;
  turn = w.turn;
  made = w.made;
  quiet = w.quiet;
  settled = w.settled;
  waits = w.waits;
  rests = w.rests;
  config = w.config;
  ahead = w.ahead;
  heard = w.heard;
  behind = w.behind;
  due = w.due;
  dues = w.dues;
  news = w.news;
  ended = w.ended;
  unqueued = w.unqueued;
}

none_left : (xs ys : List ℕ) → xs ≡ ys → ys ≡ drop 1 xs → xs ≡ []
none_left [] ys same rest = refl
none_left (x ∷ xs) ys same rest = absurd (omega (arith, ap length same, ap length rest))

pub returns-in_err-number-clause-none : goal.returns-in_err-number-clause-none
returns-in_err-number-clause-none g c = λ is.
    let same = c.in_err-number.ensures.items in
    let old = none_left _ _ same c.in_err-number.ensures.rest in
    let new = sym same ∙ old in
    (old, new, refl, alike_stays c.args.self.now _ (record { held = λ q. refl; begun = refl; config = refl; window = refl; asked = refl; queue = new ∙ sym old }))

pub returns-in-Some-clause-turn : goal.returns-in-Some-clause-turn
returns-in-Some-clause-turn g c =
    let begins = BeginsWithin g.S.TurnService.begins g.S.TurnService.room c.args.service.now.room in
    let put = (c.get_mut.follows.holds c.step-own.new.held).3 (rw (sym c.in-Some.ensures.value) refl) in
    has_turn c.args.self.now _ c.in_ok-number.number c.in_ok-number.ensures.items begins g.S.Service.answers c.args.service.now.service c.step-own.new.service.service c.in-Some.held.now c.step-own.new.held
    (rounded begins g.S.Service.answers c.in_ok-number.number c.args.self.now.round c.in-Some.held.now c.step-own.new.held _ _ c.step-own.ensures.steps)
    (sym c.in-Some.ensures.value) (record { puts = put.0; begun = refl; config = refl; window = refl; asked = refl })

pub returns-clause-turn : goal.returns-clause-turn
returns-clause-turn g c =
    let begins = BeginsWithin g.S.TurnService.begins g.S.TurnService.room c.args.service.now.room in
    let none = sym c.in_default.ensures.value in
    has_late_turn c.args.self.now _ c.in_ok-number.number c.in_ok-number.ensures.items begins g.S.Service.answers c.args.service.now.service c.args.service.now.service none
    (none_moves c.args.self.now _ c.in_ok-number.number none (λ q. ap (λ (m : HashMap ℕ Held _). lookup (λ k. q == k) m.entries) c.get_mut.follows.holds-at-none) refl refl refl refl) refl

pub returns-in-Some-clause-user : goal.returns-in-Some-clause-user
returns-in-Some-clause-user g c =
    let put = (c.get_mut.follows.holds c.step-own.new.held).3 (rw (sym c.in-Some.ensures.value) refl) in
    rw (sym c.in-Some.ensures.value, put.0 c.in_ok-number.number, eq-eqb c.in_ok-number.number c.in_ok-number.number refl)
    (user_rounded (g.S.TurnService.user c.step-own.new.service.service) c.args.self.now.round c.in-Some.held.now c.step-own.new.held c.step-own.ensures.user)

pub returns-in-Some-clause-log : goal.returns-in-Some-clause-log
returns-in-Some-clause-log g c =
    let put = (c.get_mut.follows.holds c.step-own.new.held).3 (rw (sym c.in-Some.ensures.value) refl) in
    rw (sym c.in-Some.ensures.value, put.0 c.in_ok-number.number, eq-eqb c.in_ok-number.number c.in_ok-number.number refl) (
      c.step-own.new.held,
      refl,
      log_rounded g.L.AccessLog.begins g.L.AccessLog.answered g.L.AccessLog.refused g.L.AccessLog.lost (g.S.TurnService.user c.step-own.new.service.service) c.args.self.now.round c.in-Some.held.now
          c.step-own.new.held c.args.service.now.log c.step-own.new.service.log c.step-own.ensures.log,
    )

pub returns-clause-user : goal.returns-clause-user
returns-clause-user g c = rw (sym c.in_default.ensures.value) tt

pub returns-clause-log : goal.returns-clause-log
returns-clause-log g c = rw (sym c.in_default.ensures.value) refl
