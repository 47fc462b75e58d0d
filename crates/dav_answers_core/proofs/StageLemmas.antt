-- A refusal that comes at the first of several stages where something fails.
use Rattle.std.proofs.Common.{◌≡◌, ◌⊎◌, inl, inr, Result, Ok, Err, sym, ◌∙◌}
use Rattle.dav_faults_core.specs.declared.faults.Fault.{Fault}
use Rattle.dav_methods_core.specs.SameFaults.{AreAlike}
use Rattle.dav_answers_core.proofs.SameFaultLemmas.{IsShort, equal_alike, one_error}

-- refusals of one request that are alike
abbrev pub AllAlike : (Fault → Type 0) → Type 0
AllAlike Fails = (e f : Fault) → Fails e → Fails f → AreAlike e f

-- one is refused for want of memory alone where the other holds
abbrev pub IsPassed : (Fault → Type 0) → Type 0 → Type 0
IsPassed Fails Holds = (e : Fault) → Fails e → Holds → IsShort e

-- ---- stages

-- it is refused here; or it is past this stage, and refused behind it
abbrev pub InOrder : (Fault → Type 0) → Type 0 → (Fault → Type 0) → Fault → Type 0
InOrder Here Past Behind e = Here e ⊎ (Past × Behind e)

pub order_alike : (Here Behind : Fault → Type 0) (Past : Type 0) → AllAlike Here
    → IsPassed Here Past → AllAlike Behind → AllAlike (InOrder Here Past Behind)
order_alike Here Behind Past here passed behind e f (inl h) (inl k) = here e f h k
order_alike Here Behind Past here passed behind e f (inl h) (inr k) = inl (passed e h k.0)
order_alike Here Behind Past here passed behind e f (inr h) (inl k) = inr (inl (passed f k h.0))
order_alike Here Behind Past here passed behind e f (inr h) (inr k) = behind e f h.1 k.1

-- with this fault
abbrev pub IsStage : Fault → Type 0 → Type 0 → (Fault → Type 0) → Fault → Type 0
IsStage here Stops Past Behind e = InOrder (λ e. (e ≡ here) × Stops) Past Behind e

module _ (here : Fault) (Stops Past : Type 0) (Behind : Fault → Type 0)
    (apart : Stops → ¬ Past) where
  pub stage_alike : AllAlike Behind → AllAlike (IsStage here Stops Past Behind)
  stage_alike behind =
      order_alike (λ e. (e ≡ here) × Stops) Behind Past
      (λ e f h k. equal_alike e f (h.0 ∙ sym k.0)) (λ e h past. absurd (apart h.1 past)) behind

  pub stage_past : Past → ((e : Fault) → Behind e → IsShort e) → (e : Fault)
      → IsStage here Stops Past Behind e → IsShort e
  stage_past past behind e (inl h) = absurd (apart h.1 past)
  stage_past past behind e (inr h) = behind e h.1

-- ---- what follows from conditions

pub course_alike : (course : Result (Unit {0}) Fault) → AllAlike (λ e. course ≡ Err e)
course_alike course e f h k = equal_alike e f (one_error e f course h k)

pub course_passed : (course : Result (Unit {0}) Fault)
    → IsPassed (λ e. course ≡ Err e) (course ≡ Ok tt)
course_passed course e h lets =
    let both : ◌≡◌ {A = Result (Unit {0}) Fault} (Ok tt) (Err e) = sym lets ∙ h in absurd (cc)
