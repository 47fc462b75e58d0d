-- Two refusals of one request are alike, and what is done is not refused, but for want of memory.
use Rattle.std.specs.Prelude.{Contains, is_some}
use Rattle.dav_files_core.specs.Outcomes.{Outcome}
use Rattle.dav_files_core.specs.Resources.{ResourceMap}
use Rattle.std.proofs.Common.{◌≡◌, inl, inr, List, [], Result, Ok, Err, sym, ap, ◌∙◌, subst}
use Rattle.dav_faults_core.specs.declared.faults.Fault.{Fault}
use Rattle.dav_faults_core.specs.declared.faults.Fault.TheVariants as fault
use Rattle.dav_methods_core.specs.ChangeConditions.{IsStopped}
use Rattle.dav_locks_core.specs.Lock.{Lock}
use Rattle.dav_path_core.specs.PathText.{PathText}
use Rattle.dav_path_core.proofs.lists.MemberLemmas.{In-Contains}
use Rattle.dav_session_core.specs.LocksInTheWay.{IsPathOfOne}
use Rattle.dav_methods_core.specs.SameFaults.{AreAlike, shows_refusing_lock}

abbrev pub IsShort : Fault → Type 0
IsShort e = e ≡ fault.InsufficientStorage

pub equal_alike : (e f : Fault) → e ≡ f → AreAlike e f
equal_alike e f h = inr (inr (inl h))

pub one_error : (e f : Fault) (r : Result (Unit {0}) Fault) → r ≡ Err e → r ≡ Err f → e ≡ f
one_error e f r h k = let both : ◌≡◌ {A = Result (Unit {0}) Fault} (Err e) (Err f) = sym h ∙ k in cc

-- what is done leaves one map
pub one_map_left : (o : Outcome (Unit {0})) (m n : ResourceMap) → o ≡ Ok (tt, m) → o ≡ Ok (tt, n) → m ≡ n
one_map_left o m n h k =
    let both : ◌≡◌ {A = Outcome (Unit {0})} (Ok (tt, m)) (Ok (tt, n)) = sym h ∙ k in
    let pairs : ◌≡◌ {A = Unit {0} × ResourceMap} (tt, m) (tt, n) = cc in
    ap (λ (x : Unit {0} × ResourceMap). x.1) pairs

-- a method that can't be done, or that the conditions stop
pub stopped_alike : (Cant : Fault → Type 0) (Can : Type 0) (course : Result (Unit {0}) Fault)
    → ((e f : Fault) → Cant e → Cant f → AreAlike e f) → ((e : Fault) → Cant e → Can → IsShort e)
    → (e f : Fault) → IsStopped Cant Can course e → IsStopped Cant Can course f → AreAlike e f
stopped_alike Cant Can course alike never e f (inl h) (inl k) = alike e f h k
stopped_alike Cant Can course alike never e f (inl h) (inr k) = inl (never e h k.0)
stopped_alike Cant Can course alike never e f (inr h) (inl k) = inr (inl (never f k h.0))
stopped_alike Cant Can course alike never e f (inr h) (inr k) =
    equal_alike e f (one_error e f course h.1 k.1)

pub never_stopped : (Cant : Fault → Type 0) (Can : Type 0) (course : Result (Unit {0}) Fault)
    → ((e : Fault) → Cant e → Can → IsShort e) → Can → course ≡ Ok tt → (e : Fault)
    → IsStopped Cant Can course e → IsShort e
never_stopped Cant Can course never can done e (inl h) = never e h can
never_stopped Cant Can course never can done e (inr h) =
    let both : ◌≡◌ {A = Result (Unit {0}) Fault} (Ok tt) (Err e) = sym done ∙ h.1 in absurd (cc)

-- ---- locks

pub no_lock : {A : Type 0} (locks : List Lock) (path : PathText) → IsPathOfOne locks path
    → locks ≡ [] → A
no_lock locks path h none = absurd (In-Contains [] h.0 (subst (λ ls. Contains ls h.0) none h.1))

pub both_show : (e f : Fault) (a b : PathText) → e ≡ fault.Locked a → f ≡ fault.Locked b
    → AreAlike e f
both_show e f a b h k =
    inr (inr (inr (
      ap (λ (x : Fault). is_some (shows_refusing_lock x)) h,
      ap shows_refusing_lock h
          ∙ sym (ap shows_refusing_lock k),
    )))
