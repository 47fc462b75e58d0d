-- What happened to one connection, with one thing more.
use Rattle.std.proofs.Common.{◌≡◌, ◌≢◌, ◌⊎◌, ℕ, ◌<◌, Bool, true, false, List, [], ◌∷◌, ◌++◌, fold, All, if◌then◌else◌, ◌==◌, refl, ap, ◌∙◌, arith, inl, inr}
use Rattle.std.proofs.lemmas.Bool.{eq-eqb, ne_eqb}
use Rattle.std.proofs.lemmas.Bool.Decides.{eqb_tells}
use Rattle.std.proofs.lemmas.List.Elements.{All-head, All-tail}
use Rattle.std.proofs.lemmas.List.Sums.{fold_push}
use Rattle.http_frames.specs.ConnectionEvents.{Event, Account, Place, Going, Left, Stopped, Over, Came, Rejected, Took, Gone, Answered, Told, Granted, Awaited, Known, Ended, Clock, Free, From, Users, Late, Turned, Asked, Nothing, Touched, Closed, is_general, number_of, new_account, add_going, add_at, add_event, account, IsOfBegun}

cases : (b : Bool) → (b ≡ true) ⊎ (b ≡ false)
cases true = inl refl
cases false = inr refl

-- one thing more that happened to it
pub account-same : (n : ℕ) (es : List Event) (e : Event) → number_of e ≡ n → account n (es ++ e ∷ []) ≡ add_at (account n es).place (account n es) e
account-same n es e same =
    fold_push (add_event n) new_account es e ∙ ap (λ (b : Bool). if b then add_at (account n es).place (account n es) e else account n es) (eq-eqb (number_of e) n same)

-- one thing more that happened to another
pub account-other : (n : ℕ) (es : List Event) (e : Event) → (number_of e == n) ≡ false → account n (es ++ e ∷ []) ≡ account n es
account-other n es e other =
    fold_push (add_event n) new_account es e ∙ ap (λ (b : Bool). if b then add_at (account n es).place (account n es) e else account n es) other

-- what happens to no connection in particular has no number, and leaves one that goes on
general : (e : Event) → is_general e ≡ true → (number_of e ≡ 0) × ((a : Account) → add_going a e ≡ a)
general (Clock moment) is = (refl, λ a. refl)
general (Free count) is = (refl, λ a. refl)
general (From n address) is = (refl, λ a. refl)
general (Users file) is = (refl, λ a. refl)
general (Late n) is = (refl, λ a. refl)
general (Turned address count) is = (refl, λ a. refl)
general Asked is = (refl, λ a. refl)
general Nothing is = (refl, λ a. refl)
general Touched is = (refl, λ a. refl)
general Closed is = (refl, λ a. refl)
general (Came n bytes) is = cc
general (Rejected n bytes) is = cc
general (Took n count) is = cc
general (Gone n) is = cc
general (Answered n calls) is = cc
general (Told n bytes) is = cc
general (Granted n count) is = cc
general (Awaited n part count) is = cc
general (Known n) is = cc
general (Ended n) is = cc

pub account-general : (n : ℕ) (es : List Event) (e : Event) → is_general e ≡ true → 0 < n → account n (es ++ e ∷ []) ≡ account n es
account-general n es e is some = account-other n es e (ne_eqb (number_of e) n (λ same. let none = (general e is).0 in omega (arith, same, none, some)))

-- nothing happened to it yet
account-none_from : (n b : ℕ) (a : Account) (es : List Event) → b < n → All (IsOfBegun b) es → fold (add_event n) a es ≡ a
account-none_from n b a [] above all = refl
account-none_from n b a (e ∷ es) above all =
    let first = All-head (IsOfBegun b) e es all in
    let rest = All-tail (IsOfBegun b) e es all in
    elim (eqb_tells (number_of e) n) [
      | inl x ↦ absurd (elim (cases (is_general e)) [
        | inl of_none ↦ let none = (general e of_none).0 in omega (arith, none, x.1, above)
        | inr of_one ↦ let within = (first of_one).1 in omega (arith, within, x.1, above)
      ])
      | inr x ↦ ap (λ (t : Bool). fold (add_event n) (if t then add_at a.place a e else a) es) x.0 ∙ account-none_from n b a es above rest
    ]

pub account-none : (n b : ℕ) (es : List Event) → b < n → All (IsOfBegun b) es → account n es ≡ new_account
account-none n b es above all = account-none_from n b new_account es above all

account-zero_from : (b : ℕ) (es : List Event) → All (IsOfBegun b) es → fold (add_event 0) new_account es ≡ new_account
account-zero_from b [] all = refl
account-zero_from b (e ∷ es) all =
    let first = All-head (IsOfBegun b) e es all in
    let rest = All-tail (IsOfBegun b) e es all in
    elim (eqb_tells (number_of e) 0) [
      | inl x ↦ elim (cases (is_general e)) [
        | inl of_none ↦ ap (λ (t : Bool). fold (add_event 0) (if t then add_going new_account e else new_account) es) x.0 ∙ ap (λ (a : Account). fold (add_event 0) a es) ((general e of_none).1 new_account) ∙ account-zero_from b es rest
        | inr of_one ↦ absurd (let some = (first of_one).0 in omega (arith, some, x.1))
      ]
      | inr x ↦ ap (λ (t : Bool). fold (add_event 0) (if t then add_going new_account e else new_account) es) x.0 ∙ account-zero_from b es rest
    ]

-- no connection has the number 0
pub account-zero : (b : ℕ) (es : List Event) → All (IsOfBegun b) es → account 0 es ≡ new_account
account-zero b es all = account-zero_from b es all

-- one that goes on
pub at_going : (a : Account) (e : Event) → a.place ≡ Going → add_at a.place a e ≡ add_going a e
at_going a e going = ap (λ (p : Place). add_at p a e) going

-- one that goes on no more: it gets nothing, and is told nothing
at_late-by : (p : Place) (a : Account) (e : Event) → p ≢ Going → add_at p a e ≡ record a { late = a.late ++ e ∷ [] }
at_late-by Going a e not_going = absurd (not_going refl)
at_late-by Left a e not_going = refl
at_late-by Stopped a e not_going = refl
at_late-by Over a e not_going = refl

pub at_late : (a : Account) (e : Event) → a.place ≢ Going → add_at a.place a e ≡ record a { late = a.late ++ e ∷ [] }
at_late a e not_going = at_late-by a.place a e not_going
