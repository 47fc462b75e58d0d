use Rattle.std.proofs.Common.{◌≤◌, ℕ, HashMap, Option, Some, None, IfSome, refl, sym, ap, subst}
use Rattle.http_frames.specs.declared.held.Held.{Held}
use Rattle.http_frames.proofs.Turning.{took-by}
use Rattle.http_frames.proofs.clients.Clients.taken.Goals as goal

pub returns-in-Some-clause-takes : goal.returns-in-Some-clause-takes
returns-in-Some-clause-takes c = λ is.
    let k = record c.in-Some.held.now { ahead = c.saturating_sub-held.result } in
    let put = (c.get_mut.follows.holds k).3 (rw (sym c.in-Some.ensures.value) refl) in
    let b = c.has_begun.ensures.0 c.if-not-has_begun.false in
    let fits = subst (λ (o : Option Held). IfSome o (λ held. c.args.count ≤ held.ahead)) (sym c.in-Some.ensures.value) (c.may_take.ensures.0 c.if-not-may_take.false) in
    took-by c.args.self.now _ c.args.number b.0 b.1 (Some c.in-Some.held.now) c.args.count (sym c.in-Some.ensures.value)
    (k, record { puts = put.0; begun = refl; config = refl; window = refl; asked = refl }, fits, ap (λ (n : ℕ). record c.in-Some.held.now { ahead = n }) c.saturating_sub-held.ensures, refl)

pub returns-in_default-clause-takes : goal.returns-in_default-clause-takes
returns-in_default-clause-takes c = λ is.
    let b = c.has_begun.ensures.0 c.if-not-has_begun.false in
    took-by c.args.self.now _ c.args.number b.0 b.1 None c.args.count (sym c.in_default.ensures.value)
    (ap (λ (m : HashMap ℕ Held _). record c.args.self.now { connections = m }) c.get_mut.follows.holds-at-none)
