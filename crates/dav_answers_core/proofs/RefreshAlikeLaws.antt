-- A LOCK without a body is answered in one way.
use Rattle.std.proofs.Common.{◌≡◌, ◌⊎◌, inl, inr, ℕ, ◌<◌, ◌≤◌, List, [], ◌∷◌, length, get_or, Option, Result, Ok, Err, refl, sym, ap, ◌∙◌, subst, arith}
use Rattle.std.specs.Prelude.{set}
use Rattle.std.proofs.lemmas.Bool.{cases_lt}
use Rattle.std.proofs.lemmas.List.{get_or_default, set_past}
use Rattle.http_header.specs.FieldValue.{FieldValue}
use Rattle.http_header.specs.HeaderMap.{Entries}
use Rattle.dav_path_core.specs.declared.util.DavMethod.TheVariants as method
use Rattle.dav_path_core.specs.Fronts.{Path}
use Rattle.dav_path_core.proofs.lists.FinMaps.{none_some, one_some}
use Rattle.dav_locks_core.specs.Lock.{Lock}
use Rattle.dav_locks_core.specs.Locks.{discovered_locks, found_token, refreshed_lock}
use Rattle.dav_guarded_core.specs.Step.{State}
use Rattle.dav_faults_core.specs.declared.faults.Fault.{Fault}
use Rattle.dav_faults_core.specs.declared.faults.Fault.TheVariants as fault
use Rattle.dav_session_core.specs.Callers.{Caller}
use Rattle.dav_session_core.specs.Refreshing.{RefreshesOwn}
use Rattle.dav_session_core.specs.Unlocking.{IsAnothers}
use Rattle.dav_fields_core.proofs.OneDestinationLaws.{one_item}
use Rattle.dav_fields_core.specs.Fields.{Sent}
use Rattle.dav_fields_core.specs.LockTimeouts.{timeouts_in}
use Rattle.dav_documents_core.specs.LockDocuments.{discovery_pieces}
use Rattle.dav_documents_core.specs.Pieces.{written_pieces}
use Rattle.dav_methods_core.specs.ChangeConditions.{change_course}
use Rattle.dav_methods_core.specs.RefreshMethod.{FailsToRefresh, Refreshes, named_there, next_timeout, retimed_locks}
use Rattle.dav_methods_core.specs.SameFaults.{AreAlike}
use Rattle.dav_safe_methods_core.specs.SentDocuments.{document_sent}
use Rattle.dav_answers_core.proofs.SameFaultLemmas.{IsShort, equal_alike, one_error}

-- ---- lists of one item

none_of_one : {A B : Type 0} (xs : List A) (a : A) → xs ≡ [] → xs ≡ a ∷ [] → B
none_of_one {A = A} xs a h k =
    let both : ◌≡◌ {A = List A} [] (a ∷ []) = sym h ∙ k in absurd (cc)

none_of_several : {A B : Type 0} (xs : List A) → xs ≡ [] → 1 < length xs → B
none_of_several xs h more = absurd (omega (arith, subst (λ ys. 1 < length ys) h more))

one_of_several : {A B : Type 0} (xs : List A) (a : A) → xs ≡ a ∷ [] → 1 < length xs → B
one_of_several xs a h more = absurd (omega (arith, subst (λ ys. 1 < length ys) h more))

-- ---- what is left

-- what stands at a place is set to one lock, or nothing is
set_once : (locks : List Lock) (now : ℕ) (timeout : Option ℕ) (i : ℕ) (a b : Lock)
    → a ≡ refreshed_lock now timeout (get_or locks i a)
    → b ≡ refreshed_lock now timeout (get_or locks i b) → set locks i a ≡ set locks i b
set_once locks now timeout i a b h k = by (cases_lt i (length locks))
  where
    by : (i < length locks) ⊎ (length locks ≤ i) → set locks i a ≡ set locks i b
    by (inl there) = ap (set locks i) (h
        ∙ ap (refreshed_lock now timeout) (get_or_default locks i a b there) ∙ sym k)
    by (inr past) = set_past locks i a past ∙ sym (set_past locks i b past)

left_once : (s : State) (who : Caller) (p : Path) (token : List ℕ) (timeout : Option ℕ)
    (s' s'' : State) → RefreshesOwn s who p token timeout s'
    → RefreshesOwn s who p token timeout s'' → s' ≡ s''
left_once s who p token timeout s' s'' h k =
    let place = one_some (found_token s.locks p token) h.place k.place h.found_there
    k.found_there in
    let same : set s.locks h.place h.lock ≡ set s.locks k.place k.lock =
    ap (λ i. set s.locks i h.lock) place ∙ set_once s.locks who.now timeout k.place h.lock k.lock
    (h.lock_is ∙ ap (λ i. refreshed_lock who.now timeout (get_or s.locks i h.lock)) place)
    k.lock_is in
    h.left ∙ ap (λ (ls : List Lock). record s { locks = ls }) same ∙ sym k.left

module _ (most : Option ℕ) (prefix : List ℕ) (headers : Entries FieldValue) (s : State)
    (who : Caller) (p : Path) where
  abbrev told : List ℕ → Option ℕ → Sent
  told token timeout = document_sent (written_pieces (discovery_pieces prefix who.principal who.now
      (retimed_locks who.now token timeout (discovered_locks s.locks p))))

  pub refreshes_once : (status other : ℕ) (sent also : Sent) (s' s'' : State)
      → Refreshes most prefix headers s who p status sent s'
      → Refreshes most prefix headers s who p other also s''
      → (status ≡ other) × (sent ≡ also) × (s' ≡ s'')
  refreshes_once status other sent also s' s'' h k =
      let token = one_item (named_there s who p) h.token k.token h.names k.names in
      let read = one_some (timeouts_in headers) h.timeouts k.timeouts h.read k.read in
      let timeout : h.timeout ≡ k.timeout = h.timeout_is
      ∙ ap (λ ts. next_timeout most ts h.token (discovered_locks s.locks p)) read
      ∙ ap (λ t. next_timeout most k.timeouts t (discovered_locks s.locks p)) token
      ∙ sym k.timeout_is in (
        h.status_is ∙ sym k.status_is,
        h.tells ∙ ap (λ t. told t h.timeout) token ∙ ap (told k.token) timeout ∙ sym k.tells,
        left_once s who p k.token k.timeout s' s''
            (subst (λ t. RefreshesOwn s who p t k.timeout s') token
            (subst (λ o. RefreshesOwn s who p h.token o s') timeout h.refreshes)) k.refreshes,
      )

  pub refreshed_or_not : (status : ℕ) (sent : Sent) (s' : State) (e : Fault)
      → Refreshes most prefix headers s who p status sent s' → FailsToRefresh headers s who p e
      → IsShort e
  refreshed_or_not status sent s' _ h FailsToRefresh.memory = refl
  refreshed_or_not status sent s' _ h (FailsToRefresh.unread none) =
      none_some (timeouts_in headers) h.timeouts none h.read
  refreshed_or_not status sent s' _ h (FailsToRefresh.none timeouts read none) =
      none_of_one (named_there s who p) h.token none h.names
  refreshed_or_not status sent s' _ h (FailsToRefresh.several timeouts read several) =
      one_of_several (named_there s who p) h.token h.names several
  refreshed_or_not status sent s' _ h (FailsToRefresh.anothers timeouts token read names other) =
      absurd (h.own (subst (IsAnothers s who p)
      (one_item (named_there s who p) token h.token names h.names) other))
  refreshed_or_not status sent s' _ h (FailsToRefresh.course e timeouts token read names own stops) =
      let both : ◌≡◌ {A = Result (Unit {0}) Fault} (Ok tt) (Err e) = sym h.course ∙ stops in
      absurd (cc)

-- ---- refusals

module _ (headers : Entries FieldValue) (s : State) (who : Caller) (p : Path) where
  abbrev Names : List (List ℕ)
  Names = named_there s who p

  -- a lock with the token is another's, and none is
  apart : {A : Type 0} (a b : List ℕ) → Names ≡ a ∷ [] → Names ≡ b ∷ [] → IsAnothers s who p a
      → ¬ IsAnothers s who p b → A
  apart a b h k other own =
      absurd (own (subst (IsAnothers s who p) (one_item Names a b h k) other))

  pub refresh_refusals_alike : (e f : Fault) → FailsToRefresh headers s who p e
      → FailsToRefresh headers s who p f → AreAlike e f
  refresh_refusals_alike _ f FailsToRefresh.memory k = inl refl
  refresh_refusals_alike _ _ (FailsToRefresh.unread h) FailsToRefresh.memory = inr (inl refl)
  refresh_refusals_alike _ _ (FailsToRefresh.unread h) (FailsToRefresh.unread k) =
      equal_alike fault.BadRequest fault.BadRequest refl
  refresh_refusals_alike _ _ (FailsToRefresh.unread h) (FailsToRefresh.none ts read k) =
      none_some (timeouts_in headers) ts h read
  refresh_refusals_alike _ _ (FailsToRefresh.unread h) (FailsToRefresh.several ts read k) =
      none_some (timeouts_in headers) ts h read
  refresh_refusals_alike _ _ (FailsToRefresh.unread h)
      (FailsToRefresh.anothers ts token read names k) = none_some (timeouts_in headers) ts h read
  refresh_refusals_alike _ _ (FailsToRefresh.unread h)
      (FailsToRefresh.course f ts token read names own k) =
      none_some (timeouts_in headers) ts h read
  refresh_refusals_alike _ _ (FailsToRefresh.none us reads h) FailsToRefresh.memory = inr (inl refl)
  refresh_refusals_alike _ _ (FailsToRefresh.none us reads h) (FailsToRefresh.unread k) =
      none_some (timeouts_in headers) us k reads
  refresh_refusals_alike _ _ (FailsToRefresh.none us reads h) (FailsToRefresh.none ts read k) =
      equal_alike fault.PreconditionFailed fault.PreconditionFailed refl
  refresh_refusals_alike _ _ (FailsToRefresh.none us reads h) (FailsToRefresh.several ts read k) =
      none_of_several Names h k
  refresh_refusals_alike _ _ (FailsToRefresh.none us reads h)
      (FailsToRefresh.anothers ts token read names k) = none_of_one Names token h names
  refresh_refusals_alike _ _ (FailsToRefresh.none us reads h)
      (FailsToRefresh.course f ts token read names own k) = none_of_one Names token h names
  refresh_refusals_alike _ _ (FailsToRefresh.several us reads h) FailsToRefresh.memory =
      inr (inl refl)
  refresh_refusals_alike _ _ (FailsToRefresh.several us reads h) (FailsToRefresh.unread k) =
      none_some (timeouts_in headers) us k reads
  refresh_refusals_alike _ _ (FailsToRefresh.several us reads h) (FailsToRefresh.none ts read k) =
      none_of_several Names k h
  refresh_refusals_alike _ _ (FailsToRefresh.several us reads h)
      (FailsToRefresh.several ts read k) =
      equal_alike fault.BadRequest fault.BadRequest refl
  refresh_refusals_alike _ _ (FailsToRefresh.several us reads h)
      (FailsToRefresh.anothers ts token read names k) = one_of_several Names token names h
  refresh_refusals_alike _ _ (FailsToRefresh.several us reads h)
      (FailsToRefresh.course f ts token read names own k) = one_of_several Names token names h
  refresh_refusals_alike _ _ (FailsToRefresh.anothers us word reads named h)
      FailsToRefresh.memory = inr (inl refl)
  refresh_refusals_alike _ _ (FailsToRefresh.anothers us word reads named h)
      (FailsToRefresh.unread k) = none_some (timeouts_in headers) us k reads
  refresh_refusals_alike _ _ (FailsToRefresh.anothers us word reads named h)
      (FailsToRefresh.none ts read k) = none_of_one Names word k named
  refresh_refusals_alike _ _ (FailsToRefresh.anothers us word reads named h)
      (FailsToRefresh.several ts read k) = one_of_several Names word named k
  refresh_refusals_alike _ _ (FailsToRefresh.anothers us word reads named h)
      (FailsToRefresh.anothers ts token read names k) =
      equal_alike fault.Forbidden fault.Forbidden refl
  refresh_refusals_alike _ _ (FailsToRefresh.anothers us word reads named h)
      (FailsToRefresh.course f ts token read names own k) = apart word token named names h own
  refresh_refusals_alike _ _ (FailsToRefresh.course e us word reads named mine h)
      FailsToRefresh.memory = inr (inl refl)
  refresh_refusals_alike _ _ (FailsToRefresh.course e us word reads named mine h)
      (FailsToRefresh.unread k) = none_some (timeouts_in headers) us k reads
  refresh_refusals_alike _ _ (FailsToRefresh.course e us word reads named mine h)
      (FailsToRefresh.none ts read k) = none_of_one Names word k named
  refresh_refusals_alike _ _ (FailsToRefresh.course e us word reads named mine h)
      (FailsToRefresh.several ts read k) = one_of_several Names word named k
  refresh_refusals_alike _ _ (FailsToRefresh.course e us word reads named mine h)
      (FailsToRefresh.anothers ts token read names k) = apart token word names named k mine
  refresh_refusals_alike _ _ (FailsToRefresh.course e us word reads named mine h)
      (FailsToRefresh.course f ts token read names own k) =
      equal_alike e f (one_error e f (change_course method.Lock s.map p headers) h k)
