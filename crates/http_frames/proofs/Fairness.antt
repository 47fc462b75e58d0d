-- The laws of turns.
use Rattle.std.proofs.Common.{◌≡◌, ◌≢◌, ℕ, ◌<◌, ◌≤◌, Bool, true, false, List, [], ◌∷◌, ◌++◌, length, drop, fold, get_or, Option, Some, None, IfSome, Contains, if◌then◌else◌, ◌==◌, refl, sym, ap, ◌∙◌, subst, arith, append_assoc, inl, inr, eq-eqb}
use Rattle.std.proofs.lemmas.List.Sums.{fold-append}
use Rattle.http_server.specs.declared.state.Config.{Config}
use Rattle.http_server.specs.History.{Rests}
use Rattle.http_server.proofs.Theorems.{never_stalls}
use Rattle.http_frames.specs.declared.held.Held.{Held}
use Rattle.http_frames.specs.declared.clients.Windows.{Windows}
use Rattle.http_frames.specs.Clients.{Stands, IsAtRest, config_of, window_of, queue_of, held_at, history_of}
use Rattle.http_frames.specs.ConnectionEvents.{Event, Account, Place, Going, Left, Stopped, Over, Gone, number_of, new_account, add_at, add_event, account}
use Rattle.http_frames.specs.Laws.{TurnComes, NobodyWaits, GoneIsGone}

-- what is left of one list is behind what is left of the other
left_of : (xs us ys vs : List ℕ) → xs ++ ys ≡ us ++ vs → length xs ≤ length us → ys ≡ drop (length xs) us ++ vs
left_of [] us ys vs is short = is
left_of (x ∷ xs) [] ys vs is short = absurd (omega (arith, short))
left_of (x ∷ xs) (u ∷ us) ys vs is short = let rest : xs ++ ys ≡ us ++ vs = cc in left_of xs us ys vs rest (omega (arith, short))

-- what stands behind the one stands there in the other
stands_there : (xs us ys vs : List ℕ) (n : ℕ) → xs ++ ys ≡ us ++ n ∷ vs → length us < length xs → get_or xs (length us) 0 ≡ n
stands_there [] us ys vs n is long = absurd (omega (arith, long))
stands_there (x ∷ xs) [] ys vs n is long = cc
stands_there (x ∷ xs) (u ∷ us) ys vs n is long = let rest : xs ++ ys ≡ us ++ n ∷ vs = cc in stands_there xs us ys vs n rest (omega (arith, long))

pub turn_comes : TurnComes
turn_comes queue queue' turns before behind number line is =
    let whole : turns ++ queue' ≡ before ++ number ∷ (behind ++ line.0) = line.1 ∙ ap (λ (t : List ℕ). t ++ line.0) is ∙ append_assoc before (number ∷ behind) line.0 in (
      λ short. (behind ++ line.0, left_of turns before queue' (number ∷ (behind ++ line.0)) whole short),
      λ long. stands_there turns before queue' (behind ++ line.0) number whole long,
    )

rests_by : (config : Config) (window : Windows) (queue : List ℕ) (n : ℕ) (o : Option Held) (a : Account) → queue ≡ [] → Stands config window queue n o a → IfSome o (λ k. IsAtRest config (history_of k))
rests_by config window queue n None a none s = tt
rests_by config window queue n (Some k) a none s = elim s.1.waits [
  | inl at ↦ absurd (nobody (subst (λ (q : List ℕ). Contains q n) none at))
  | inr rests ↦ let now = subst (Rests config) (sym s.1.history_is) rests in (now, never_stalls config (history_of k) now)
]
  where
    nobody : Contains [] n → ⊥
    nobody at = omega (arith, at.1)

pub nobody_waits : NobodyWaits
nobody_waits c events h none number some within =
    rests_by (config_of c) (window_of c) (queue_of c) number (held_at c number) (account number events) none (h.stands number some within)

-- one that goes on no more
late_at : (p : Place) (a : Account) (e : Event) → p ≢ Going → ((add_at p a e).made ≡ a.made) × ((add_at p a e).went ≡ a.went) × ((add_at p a e).place ≡ a.place)
late_at Going a e out = absurd (out refl)
late_at Left a e out = (refl, refl, refl)
late_at Stopped a e out = (refl, refl, refl)
late_at Over a e out = (refl, refl, refl)

late_add : (n : ℕ) (a : Account) (e : Event) (b : Bool) → a.place ≢ Going → let next = if b then add_at a.place a e else a in (next.made ≡ a.made) × (next.went ≡ a.went) × (next.place ≡ a.place)
late_add n a e true out = late_at a.place a e out
late_add n a e false out = (refl, refl, refl)

late_all : (n : ℕ) (a : Account) (es : List Event) → a.place ≢ Going → ((fold (add_event n) a es).made ≡ a.made) × ((fold (add_event n) a es).went ≡ a.went)
late_all n a [] out = (refl, refl)
late_all n a (e ∷ es) out =
    let first = late_add n a e (number_of e == n) out in
    let rest = late_all n (add_event n a e) es (λ is. out (sym first.2 ∙ is)) in
    (rest.0 ∙ first.0, rest.1 ∙ first.1)

gone_at : (p : Place) (n : ℕ) (a : Account) → a.place ≡ p → ((add_at p a (Gone n)).made ≡ a.made) × ((add_at p a (Gone n)).went ≡ a.went) × ((add_at p a (Gone n)).place ≢ Going)
gone_at Going n a is = (refl, refl, λ out. cc)
gone_at Left n a is = (refl, refl, λ out. cc)
gone_at Stopped n a is = (refl, refl, λ out. cc)
gone_at Over n a is = (refl, refl, λ out. cc)

gone_add : (n : ℕ) (a : Account) → ((add_event n a (Gone n)).made ≡ a.made) × ((add_event n a (Gone n)).went ≡ a.went) × ((add_event n a (Gone n)).place ≢ Going)
gone_add n a =
    subst (λ (b : Bool). let next = if b then add_at a.place a (Gone n) else a in (next.made ≡ a.made) × (next.went ≡ a.went) × (next.place ≢ Going)) (sym (eq-eqb n n refl)) (gone_at a.place n a refl)

pub gone_is_gone : GoneIsGone
gone_is_gone n events later =
    let a = account n events in
    let split = fold-append (add_event n) new_account events (Gone n ∷ later) in
    let first = gone_add n a in
    let rest = late_all n (add_event n a (Gone n)) later first.2 in
    (ap (λ (a : Account). a.made) split ∙ rest.0 ∙ first.0, ap (λ (a : Account). a.went) split ∙ rest.1 ∙ first.1)
