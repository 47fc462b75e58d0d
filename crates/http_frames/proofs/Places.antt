-- What stands under the numbers when one connection is taken away, and what is closed.
use Rattle.std.proofs.Common.{◌≡◌, ◌≢◌, ℕ, Bool, true, false, List, [], ◌∷◌, ◌++◌, Option, All, Contains, IsFalse, subst, cond, refl, sym, ◌∙◌, zero, suc, arith, ◌==◌, true≢false, eq-eqb, inl, inr}
use Rattle.std.proofs.lemmas.List.Elements.{All-push, All-tail, Contains-append_left, Contains-push_cases}
use Rattle.http_server.specs.declared.state.State.{State}
use Rattle.http_server.specs.declared.state.State.TheVariants.{Open, Closing, Upgraded, Aborted}
use Rattle.http_frames.specs.declared.held.Held.{Held}
use Rattle.http_frames.specs.Clients.{NoTwice}
use Rattle.http_frames.specs.ConnectionEvents.{IsNumber}
use Rattle.http_frames.specs.Private.Steps.{JoinsFresh}

-- what was put there does not matter then
pub put_then_taken : {A : Type 0} (here : Bool) (x y z : Option A) → cond here x (cond here y z) ≡ cond here x z
put_then_taken true x y z = refl
put_then_taken false x y z = refl

-- what is not over is open
pub not_over : (s : State) → (s ≢ Open → ⊥) → s ≡ Open
not_over Open not_closed = refl
not_over (Closing why) not_closed = absurd (not_closed (λ e. cc))
not_over Upgraded not_closed = absurd (not_closed (λ e. cc))
not_over Aborted not_closed = absurd (not_closed (λ e. cc))

-- who stood in the queue stands there still
pub joined : (number : ℕ) (k : Held) (queue queue' : List ℕ) → JoinsFresh number k queue queue' → (q : ℕ) → Contains queue q → Contains queue' q
joined number k queue queue' (inl same) q at = subst (λ (t : List ℕ). Contains t q) (sym same) at
joined number k queue queue' (inr x) q at = subst (λ (t : List ℕ). Contains t q) (sym x.0) (Contains-append_left queue (number ∷ []) q at)

-- all but the first of a queue stand there still once it had its turn
pub behind : (number q : ℕ) (rest : List ℕ) → (number ≡ q → ⊥) → Contains (number ∷ rest) q → Contains rest q
behind number q rest other (zero, lt, is) = absurd (other is)
behind number q rest other (suc k, lt, is) = (k, omega (arith, lt), is)

-- and those stood there before
ahead : (n q : ℕ) (rest : List ℕ) → Contains rest q → Contains (n ∷ rest) q
ahead n q rest (k, lt, is) = (suc k, omega (arith, lt), is)

NoTwice-push : (queue : List ℕ) (n : ℕ) → NoTwice queue → (Contains queue n → ⊥) → NoTwice (queue ++ n ∷ [])
NoTwice-push [] n once fresh = (λ at. omega (arith, at.1), tt)
NoTwice-push (m ∷ queue) n once fresh = (
  λ at. elim (Contains-push_cases queue n m at) [
    | inl before ↦ once.0 before
    | inr same ↦ fresh (0, omega arith, sym same)
  ],
  NoTwice-push queue n once.1 (λ at. fresh (ahead m n queue at)),
)

-- what became of a queue, but for the place of one connection
pub record Line (n count : ℕ) (queue queue' : List ℕ) : Type 0 where
  pub stay : (q : ℕ) → (n == q) ≡ false → Contains queue q → Contains queue' q
  pub back : (q : ℕ) → (n == q) ≡ false → Contains queue' q → Contains queue q
  pub places : All (IsNumber count) queue → All (IsNumber count) queue'
  pub once : NoTwice queue → NoTwice queue'

same_line : (n count : ℕ) (queue : List ℕ) → Line n count queue queue
same_line n count queue = record { stay = λ q test at. at; back = λ q test at. at; places = λ all. all; once = λ once. once }

pub line-same : (n count : ℕ) (queue queue' : List ℕ) → queue' ≡ queue → Line n count queue queue'
line-same n count queue queue' same = subst (Line n count queue) (sym same) (same_line n count queue)

longer : (n count : ℕ) (queue : List ℕ) → IsNumber count n → (Contains queue n → ⊥) → Line n count queue (queue ++ n ∷ [])
longer n count queue number fresh = record {
  stay = λ q test at. Contains-append_left queue (n ∷ []) q at;
  back = λ q test at. elim (Contains-push_cases queue n q at) [
    | inl before ↦ before
    | inr same ↦ absurd (true≢false (sym (eq-eqb n q same) ∙ test))
  ];
  places = λ all. All-push (IsNumber count) queue n all number;
  once = λ once. NoTwice-push queue n once fresh;
}

pub line-joins : (n count : ℕ) (k : Held) (queue queue' : List ℕ) → IsNumber count n → JoinsFresh n k queue queue' → (IsFalse k.queued → Contains queue n → ⊥) → Line n count queue queue'
line-joins n count k queue queue' number (inl same) fresh = line-same n count queue queue' same
line-joins n count k queue queue' number (inr x) fresh = subst (Line n count queue) (sym x.0) (longer n count queue number (fresh x.1))

popped : (n count : ℕ) (queue : List ℕ) → Line n count (n ∷ queue) queue
popped n count queue = record {
  stay = λ q test at. behind n q queue (λ same. true≢false (sym (eq-eqb n q same) ∙ test)) at;
  back = λ q test at. ahead n q queue at;
  places = λ all. All-tail (IsNumber count) n queue all;
  once = λ once. once.1;
}

pub line-popped : (n count : ℕ) (queue queue' : List ℕ) → queue ≡ n ∷ queue' → Line n count queue queue'
line-popped n count queue queue' is = subst (λ (t : List ℕ). Line n count t queue') (sym is) (popped n count queue')

-- who had its turn stands there no more
pub popped_once : (n : ℕ) (queue queue' : List ℕ) → queue ≡ n ∷ queue' → NoTwice queue → Contains queue' n → ⊥
popped_once n queue queue' is once = (subst NoTwice is once).0
