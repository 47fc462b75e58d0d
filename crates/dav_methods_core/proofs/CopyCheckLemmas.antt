-- What is asked before resources are copied, one after another.
use Rattle.std.proofs.Common.{◌≡◌, ℕ, ◌+◌, ◌<◌, ◌≤◌, List, [], ◌∷◌, ◌++◌, append_assoc, drop, get_or, length, map, Result, Ok, Err, refl, sym, ap, ◌∙◌, subst}
use Rattle.std.specs.Prelude.{Contains, IfErr, OnOk}
use Rattle.std.proofs.lemmas.List.{drop_all}
use Rattle.std.proofs.lemmas.List.Elements.{Contains-append_left, Contains-append_right}
use Rattle.dav_locks_core.specs.Lock.{Lock}
use Rattle.dav_locks_core.specs.Locks.{LockCaller as LocksCaller, check_conflicts}
use Rattle.dav_guarded_core.specs.Checks.{Check, refusing}
use Rattle.dav_faults_core.specs.declared.faults.Fault.{Fault}
use Rattle.dav_session_core.specs.LocksInTheWay.{IsRefusedBy}
use Rattle.dav_session_core.proofs.ConditionLemmas.{drop_seen}
use Rattle.dav_session_core.proofs.PutLemmas.{more_refused}

-- ---- checks of a list, one after another

pub refusing_append : (locks : List Lock) (who : LocksCaller) (ks js : List Check) → refusing locks who (ks ++ js) ≡ refusing locks who ks ++ refusing locks who js
refusing_append locks who [] js = refl
refusing_append locks who (k ∷ ks) js =
    ap (λ xs. check_conflicts locks k.path k.deep who ++ xs) (refusing_append locks who ks js)
    ∙ sym (append_assoc (check_conflicts locks k.path k.deep who) (refusing locks who ks) (refusing locks who js))

module _ {A : Type 0} (locks : List Lock) (who : LocksCaller) (view : A → Check) (xs : List A) (i : ℕ)
    (left : refusing locks who (map view (drop i xs)) ≡ refusing locks who (map view xs)) where
  abbrev first : A → List Lock
  first x = check_conflicts locks (view x).path (view x).deep who

  one_left : (x : A) → i < length xs → x ≡ get_or xs i x → first x ++ refusing locks who (map view (drop (i + 1) xs)) ≡ refusing locks who (map view xs)
  one_left x lt is = ap (refusing locks who) (sym (drop_seen view xs i x lt is)) ∙ left

  pub checked_more : (x : A) → i < length xs → x ≡ get_or xs i x → check_conflicts locks (view x).path (view x).deep who ≡ []
      → refusing locks who (map view (drop (i + 1) xs)) ≡ refusing locks who (map view xs)
  checked_more x lt is free = ap (λ ls. ls ++ refusing locks who (map view (drop (i + 1) xs))) (sym free) ∙ one_left x lt is

  pub refused_one : (x : A) → i < length xs → x ≡ get_or xs i x → (e : Fault) → IsRefusedBy (check_conflicts locks (view x).path (view x).deep who) e
      → IsRefusedBy (refusing locks who (map view xs)) e
  refused_one x lt is e h =
      more_refused (first x) (refusing locks who (map view xs)) e
      (λ l within. subst (λ ls. Contains ls l) (one_left x lt is) (Contains-append_left (first x) (refusing locks who (map view (drop (i + 1) xs))) l within)) h

  pub all_checked : length xs ≤ i → refusing locks who (map view xs) ≡ []
  all_checked le = sym left ∙ ap (λ ys. refusing locks who (map view ys)) (drop_all i xs le)

-- ---- of two lists one after the other

pub fails_first : (first rest : List Lock) (e : Fault) → IsRefusedBy first e → IsRefusedBy (first ++ rest) e
fails_first first rest e h = more_refused first (first ++ rest) e (Contains-append_left first rest) h

pub fails_last : (first rest : List Lock) (e : Fault) → IsRefusedBy rest e → IsRefusedBy (first ++ rest) e
fails_last first rest e h = more_refused rest (first ++ rest) e (Contains-append_right first rest) h

pub fails_behind : {A : Type 0} (first rest : List Lock) (result : Result A Fault) → IfErr result (λ e. IsRefusedBy rest e) → IfErr result (λ e. IsRefusedBy (first ++ rest) e)
fails_behind first rest (Ok x) h = tt
fails_behind first rest (Err e) h = fails_last first rest e h

-- where nothing stands in the way of the first ones, nor of the rest
pub passes_behind : {A : Type 0} (first rest : List Lock) (result : Result A Fault) → first ≡ [] → OnOk result (rest ≡ []) → OnOk result (first ++ rest ≡ [])
passes_behind first rest (Ok x) none h = ap (λ xs. xs ++ rest) none ∙ h
passes_behind first rest (Err e) none h = tt
