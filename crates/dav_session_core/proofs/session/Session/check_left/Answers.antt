use Rattle.std.proofs.Common.{◌≡◌, ◌≤◌, ◌<◌, ◌+◌, ◌∙◌, ℕ, Bool, true, false, not, ◌||◌, leb, sym, ap, arith}
use Rattle.std.proofs.lemmas.Bool.Decides.{nat_tests}
use Rattle.dav_notes_core.specs.Asking.{Caller}
use Rattle.dav_notes_core.specs.Costs.{in_eight_bytes}
use Rattle.dav_session_core.specs.NoteCosts.{removal_cost}
use Rattle.dav_session_core.specs.Sessions.{bytes_left, caller}
use Rattle.dav_session_core.specs.Unhindered.{paths_of}
use Rattle.dav_session_core.proofs.session.Session.check_left.Goals as goal

-- so many are not left
is_over : (keeps : Bool) (n left : ℕ) → (not keeps || leb n left) ≡ false → left < n
is_over true n left h = grind (arith, nat_tests)
is_over false n left h = absurd cc

-- so many are left
is_left : (keeps : Bool) (n left : ℕ) → (not keeps || leb n left) ≡ true → keeps ≡ true → n ≤ left
is_left true n left h kept = grind (arith, nat_tests)
is_left false n left h kept = absurd cc

pub returns-then-not-has_left-clause-err : goal.returns-then-not-has_left-clause-err
returns-then-not-has_left-clause-err g c = λ n is.
    let all = removal_cost (caller c.args.self.now) (paths_of c.args.places.now) in
    let bytes = c.sum_of-bytes.ensures all n (c.cost_of_removals.ensures ∙ ap (λ (w : Caller). in_eight_bytes (removal_cost w (paths_of c.args.places.now))) c.who.ensures) is in
    is_over c.args.self.now.stores.keeps (all + n) (bytes_left c.args.self.now) (sym (c.has_left.ensures (all + n) bytes) ∙ c.if-not-has_left.true)

pub returns-clause-ok : goal.returns-clause-ok
returns-clause-ok g c = λ n is kept.
    let all = removal_cost (caller c.args.self.now) (paths_of c.args.places.now) in
    let bytes = c.sum_of-bytes.ensures all n (c.cost_of_removals.ensures ∙ ap (λ (w : Caller). in_eight_bytes (removal_cost w (paths_of c.args.places.now))) c.who.ensures) is in
    is_left c.args.self.now.stores.keeps (all + n) (bytes_left c.args.self.now) (sym (c.has_left.ensures (all + n) bytes) ∙ c.if-not-has_left.false) kept
