-- What is asked before all at or below a path is taken away, one place after another.
use Rattle.std.proofs.Common.{◌≡◌, ◌≢◌, ℕ, ◌+◌, ◌<◌, ◌≤◌, true, false, List, [], ◌∷◌, ◌++◌, append_assoc, append-nil, drop, get_or, length, map, Result, Ok, Err, sym, ap, ◌∙◌, subst}
use Rattle.std.specs.Prelude.{Contains, IfErr, OnOk}
use Rattle.std.proofs.lemmas.Bool.{true≢false}
use Rattle.std.proofs.lemmas.List.{drop_all}
use Rattle.std.proofs.lemmas.List.Elements.{Contains-append_left, Contains-append_right}
use Rattle.dav_path_core.specs.Fronts.{Path, parent}
use Rattle.dav_files_core.specs.Folders.{is_root}
use Rattle.dav_locks_core.specs.Lock.{Lock}
use Rattle.dav_locks_core.specs.Locks.{check_conflicts}
use Rattle.dav_guarded_core.specs.Step.{State}
use Rattle.dav_faults_core.specs.declared.faults.Fault.{Fault}
use Rattle.dav_session_core.specs.Callers.{Caller, SameLive, as_caller, live}
use Rattle.dav_session_core.specs.LocksInTheWay.{IsRefusedBy}
use Rattle.dav_session_core.specs.Removing.{refusing_removal}
use Rattle.dav_session_core.proofs.ConditionLemmas.{drop_seen}
use Rattle.dav_session_core.proofs.PutLemmas.{more_refused}

-- ---- one place

-- the locks that refuse the caller to change what stands at a path or below it
abbrev pub below : State → Caller → Path → List Lock
below s who p = check_conflicts s.locks p true (as_caller who)

abbrev pub at : State → Caller → Path → List Lock
at s who p = check_conflicts s.locks p false (as_caller who)

-- what refuses the first check refuses the removal
pub first_fails : (who : Caller) (s : State) (p : Path) (e : Fault) → IsRefusedBy (below s who p) e → IsRefusedBy (refusing_removal s who (p ∷ [])) e
first_fails who s p e h =
    more_refused (below s who p) (refusing_removal s who (p ∷ [])) e (Contains-append_left (below s who p) (at s who (parent p) ++ [])) h

-- so does what refuses the second
pub second_fails : {A : Type 0} (who asker : Caller) (s mid : State) (p q : Path) (result : Result A Fault) → asker ≡ who → SameLive who.now s mid → q ≡ parent p
    → IfErr result (λ e. IsRefusedBy (at (live asker.now mid) asker q) e) → IfErr result (λ e. IsRefusedBy (refusing_removal (live who.now s) who (p ∷ [])) e)
second_fails who asker s mid p q (Ok x) same still is h = tt
second_fails who asker s mid p q (Err e) same still is h =
    let at_who = subst (λ (w : Caller). IsRefusedBy (at (live w.now mid) w q) e) same h in
    let at_start = subst (λ (t : State). IsRefusedBy (at t who q) e) still at_who in
    let above = subst (λ q. IsRefusedBy (at (live who.now s) who q) e) is at_start in
    let s' = live who.now s in
    more_refused (at s' who (parent p)) (refusing_removal s' who (p ∷ [])) e
    (λ l within. Contains-append_right (below s' who p) (at s' who (parent p) ++ []) l (Contains-append_left (at s' who (parent p)) [] l within)) above

-- where neither check fails, nothing refuses it
pub both_pass : {A : Type 0} (who asker : Caller) (s mid : State) (p q : Path) (result : Result A Fault) → below (live who.now s) who p ≡ [] → asker ≡ who → SameLive who.now s mid → q ≡ parent p
    → OnOk result (at (live asker.now mid) asker q ≡ []) → OnOk result (refusing_removal (live who.now s) who (p ∷ []) ≡ [])
both_pass who asker s mid p q (Ok x) free same still is h =
    let s' = live who.now s in
    let at_who = subst (λ (w : Caller). at (live w.now mid) w q ≡ []) same h in
    let at_start = subst (λ (t : State). at t who q ≡ []) still at_who in
    let above = subst (λ q. at s' who q ≡ []) is at_start in
    ap (λ xs. xs ++ (at s' who (parent p) ++ [])) free ∙ ap (λ xs. xs ++ []) above
both_pass who asker s mid p q (Err e) free same still is h = tt

-- ---- one place after another

pub removal_split : (s : State) (who : Caller) (p : Path) (places : List Path)
    → refusing_removal s who (p ∷ places) ≡ refusing_removal s who (p ∷ []) ++ refusing_removal s who places
removal_split s who p places =
    let first = below s who p in
    let second = at s who (parent p) in
    let rest = refusing_removal s who places in
    ap (λ xs. first ++ (xs ++ rest)) (sym (append-nil second)) ∙ sym (append_assoc first (second ++ []) rest)

module _ {A : Type 0} (s : State) (who : Caller) (view : A → Path) (xs : List A) (i : ℕ)
    (left : refusing_removal s who (map view (drop i xs)) ≡ refusing_removal s who (map view xs)) where
  one_left : (x : A) → i < length xs → x ≡ get_or xs i x
      → refusing_removal s who (view x ∷ []) ++ refusing_removal s who (map view (drop (i + 1) xs)) ≡ refusing_removal s who (map view xs)
  one_left x lt is =
      sym (removal_split s who (view x) (map view (drop (i + 1) xs))) ∙ ap (refusing_removal s who) (sym (drop_seen view xs i x lt is)) ∙ left

  pub checked_more : (x : A) → i < length xs → x ≡ get_or xs i x → refusing_removal s who (view x ∷ []) ≡ []
      → refusing_removal s who (map view (drop (i + 1) xs)) ≡ refusing_removal s who (map view xs)
  checked_more x lt is free = ap (λ ls. ls ++ refusing_removal s who (map view (drop (i + 1) xs))) (sym free) ∙ one_left x lt is

  pub refused_one : (x : A) → i < length xs → x ≡ get_or xs i x → (e : Fault) → IsRefusedBy (refusing_removal s who (view x ∷ [])) e
      → IsRefusedBy (refusing_removal s who (map view xs)) e
  refused_one x lt is e h =
      let rest = refusing_removal s who (map view (drop (i + 1) xs)) in
      more_refused (refusing_removal s who (view x ∷ [])) (refusing_removal s who (map view xs)) e
      (λ l within. subst (λ ls. Contains ls l) (one_left x lt is) (Contains-append_left (refusing_removal s who (view x ∷ [])) rest l within)) h

  pub all_checked : length xs ≤ i → refusing_removal s who (map view xs) ≡ []
  all_checked le = sym left ∙ ap (λ ys. refusing_removal s who (map view ys)) (drop_all i xs le)

-- ---- the root

pub no_root_there : (p : Path) → is_root p ≡ false → p ≢ []
no_root_there [] h e = true≢false h
no_root_there (x ∷ p) h e = cc
