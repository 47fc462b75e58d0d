-- An UNLOCK is answered in one way.
use Rattle.std.proofs.Common.{◌≡◌, ◌⊎◌, inl, inr, ℕ, true, false, List, [], ◌∷◌, ◌++◌, Some, codes, refl, sym, ap, ◌∙◌, subst}
use Rattle.std.specs.Prelude.{remove}
use Rattle.std.proofs.lemmas.Bool.{true≢false}
use Rattle.std.proofs.lemmas.List.{append_cancel_left, append_cancel_right}
use Rattle.http_header.specs.FieldValue.{FieldValue}
use Rattle.http_header.specs.HeaderMap.{Entries}
use Rattle.dav_path_core.specs.declared.util.DavMethod.TheVariants as method
use Rattle.dav_path_core.specs.Fronts.{Path}
use Rattle.dav_guarded_core.specs.Step.{State}
use Rattle.dav_faults_core.specs.declared.faults.Fault.{Fault}
use Rattle.dav_faults_core.specs.declared.faults.Fault.TheVariants as fault
use Rattle.dav_session_core.specs.Callers.{Caller}
use Rattle.dav_session_core.specs.Conditions.{has_token}
use Rattle.dav_locks_core.specs.Locks.{found_token}
use Rattle.dav_session_core.specs.Unlocking.{EndsOwn, IsAnothers}
use Rattle.dav_methods_core.specs.ChangeConditions.{change_course}
use Rattle.dav_methods_core.specs.SameFaults.{AreAlike, IsDetermined}
use Rattle.dav_methods_core.specs.UnlockMethod.{CantUnlock, CanUnlock, FailsToUnlock, NamesToken, Unlocks}
use Rattle.dav_answers_core.proofs.SameFaultLemmas.{IsShort, equal_alike, never_stopped, stopped_alike}

one_token : (headers : Entries FieldValue) (a b : List ℕ) → NamesToken headers a
    → NamesToken headers b → a ≡ b
one_token headers a b h k =
    let values : h.0 ∷ [] ≡ k.0 ∷ [] = sym h.1 ∙ k.1 in
    let same : h.0 ≡ k.0 = cc in
    let texts : codes "<" ++ (a ++ codes ">") ≡ codes "<" ++ (b ++ codes ">") = sym h.2.1
    ∙ ap (λ (v : FieldValue). v.bytes) same ∙ k.2.1 in
    append_cancel_right a b (codes ">") (append_cancel_left (codes "<") (a ++ codes ">")
    (b ++ codes ">") texts)

module _ (headers : Entries FieldValue) (s : State) (who : Caller) (p : Path) where
  abbrev Unnamed : Type 0
  Unnamed = (token : List ℕ) → ¬ NamesToken headers token

  -- no lock with the token that is named covers the path
  record IsUncovered (e : Fault) : Type 0 where
    is : e ≡ fault.NoSuchLock
    token : List ℕ
    names : NamesToken headers token
    uncovered : has_token s p token ≡ false

  record IsForbidden (e : Fault) : Type 0 where
    is : e ≡ fault.Forbidden
    token : List ℕ
    names : NamesToken headers token
    covered : has_token s p token ≡ true
    anothers : IsAnothers s who p token

  abbrev Why : Fault → Type 0
  Why e = IsShort e ⊎ (((e ≡ fault.BadRequest) × Unnamed) ⊎ (IsUncovered e ⊎ IsForbidden e))

  why : (e : Fault) → CantUnlock headers s who p e → Why e
  why fault.InsufficientStorage h = inl refl
  why fault.BadRequest h = inr (inl (refl, h))
  why fault.NoSuchLock h = inr (inr (inl (record {
    is = refl;
    token = h.0;
    names = h.1;
    uncovered = h.2;
  })))
  why fault.Forbidden h = inr (inr (inr (record {
    is = refl;
    token = h.0;
    names = h.1;
    covered = h.2.0;
    anothers = h.2.1;
  })))
  why _ h = absurd h.2

  not_both : {A : Type 0} (a b : List ℕ) → NamesToken headers a → NamesToken headers b
      → has_token s p a ≡ false → has_token s p b ≡ true → A
  not_both a b h k missing there = absurd (true≢false
      (sym there ∙ ap (has_token s p) (sym (one_token headers a b h k)) ∙ missing))

  alike : (e f : Fault) → Why e → Why f → AreAlike e f
  alike e f (inl h) k = inl h
  alike e f (inr h) (inl k) = inr (inl k)
  alike e f (inr (inl h)) (inr (inl k)) = equal_alike e f (h.0 ∙ sym k.0)
  alike e f (inr (inl h)) (inr (inr (inl k))) = absurd (h.1 k.token k.names)
  alike e f (inr (inl h)) (inr (inr (inr k))) = absurd (h.1 k.token k.names)
  alike e f (inr (inr (inl h))) (inr (inl k)) = absurd (k.1 h.token h.names)
  alike e f (inr (inr (inr h))) (inr (inl k)) = absurd (k.1 h.token h.names)
  alike e f (inr (inr (inl h))) (inr (inr (inl k))) = equal_alike e f (h.is ∙ sym k.is)
  alike e f (inr (inr (inr h))) (inr (inr (inr k))) = equal_alike e f (h.is ∙ sym k.is)
  alike e f (inr (inr (inl h))) (inr (inr (inr k))) =
      not_both h.token k.token h.names k.names h.uncovered k.covered
  alike e f (inr (inr (inr h))) (inr (inr (inl k))) =
      not_both k.token h.token k.names h.names k.uncovered h.covered

  abbrev Can : Type 0
  Can = (token : List ℕ) × CanUnlock headers s who p token

  never : (e : Fault) → Why e → Can → IsShort e
  never e (inl h) can = h
  never e (inr (inl h)) can = absurd (h.1 can.0 can.1.names)
  never e (inr (inr (inl h))) can =
      not_both h.token can.0 h.names can.1.names h.uncovered can.1.covered
  never e (inr (inr (inr h))) can =
      absurd (can.1.own (subst (λ t. IsAnothers s who p t)
      (one_token headers h.token can.0 h.names can.1.names) h.anothers))

  -- one that is done could be
  could : (status : ℕ) (s' : State) → Unlocks headers s who p status s' → Can
  could status s' h = (h.token, record { names = h.names; covered = h.covered; own = h.own })

  one_left : (s' s'' : State) (a b : List ℕ) → a ≡ b → EndsOwn s who p a s' → EndsOwn s who p b s''
      → s' ≡ s''
  one_left s' s'' a b same h k =
      let places : Some h.place ≡ Some k.place = sym h.found_there ∙ ap (found_token s.locks p) same
      ∙ k.found_there in
      let place : h.place ≡ k.place = cc in
      h.left ∙ ap (λ (n : ℕ). record s { locks = remove s.locks n }) place ∙ sym k.left

  pub unlocks_once : IsDetermined (Unlocks headers s who p) (FailsToUnlock headers s who p)
  unlocks_once = record {
    done = λ status other s' s'' h k. (
      h.status_is ∙ sym k.status_is,
      one_left s' s'' h.token k.token
          (one_token headers h.token k.token h.names k.names) h.ends k.ends,
    );
    either = λ status s' e h k.
        never_stopped (CantUnlock headers s who p) Can (change_course method.Unlock s.map p headers)
        (λ e c. never e (why e c)) (could status s' h) h.course e k;
    refused = λ e f h k.
        stopped_alike (CantUnlock headers s who p) Can (change_course method.Unlock s.map p headers)
        (λ e f h k. alike e f (why e h) (why f k)) (λ e c. never e (why e c)) e f h k;
  }
