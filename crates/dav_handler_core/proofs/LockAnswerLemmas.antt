-- How a LOCK is answered, by what the method does.
use Rattle.std.proofs.Common.{◌≡◌, ◌≢◌, ◌⊎◌, inl, inr, ℕ, ◌<◌, ◌≤◌, Bool, true, false, List, [], ◌∷◌, length, Some, Result, Ok, Err, refl, sym, ◌∙◌, ap, subst}
use Rattle.std.specs.Prelude.{◌==◌, IfErr, IfOk, OnErr}
use Rattle.std.proofs.lemmas.Bool.{true≢false}
use Rattle.http.specs.declared.request.Request.{Request}
use Rattle.http.specs.Request.{body_of, head_of}
use Rattle.dav_path_core.specs.declared.util.DavMethod.TheVariants as method
use Rattle.dav_path_core.specs.PathText.{PathText}
use Rattle.dav_path_core.specs.Segments.{segments}
use Rattle.dav_files_core.specs.Finding.{has_any}
use Rattle.dav_path_core.proofs.lists.MemberLemmas.{In, Contains-In}
use Rattle.dav_guarded_core.specs.Step.{State}
use Rattle.dav_faults_core.specs.declared.faults.Fault.{Fault}
use Rattle.dav_faults_core.specs.declared.faults.Fault.TheVariants as fault
use Rattle.dav_handler_core.specs.MethodAnswers.{Admits, Begins, LockAnswers, Unread, as_found, has_body}
use Rattle.dav_handler_core.specs.Answers.{Leaves, LocksOne, MayDo}
use Rattle.dav_handler_core.specs.Server.{Server}
use Rattle.dav_session_core.specs.Callers.{Asks, Caller, RunBy, Runs, SameLive, live}
use Rattle.dav_session_core.specs.Conditions.{has_token}
use Rattle.dav_fields_core.specs.Fields.{Sent}
use Rattle.dav_methods_core.specs.LockMethod.{FailsToLock, IsAskedBy, IsGranted, LeavesUntold}
use Rattle.dav_handler_core.specs.Private.Begun.{IsHeld}
use Rattle.dav_methods_core.specs.Rooms.{LeavesLock}
use Rattle.dav_methods_core.specs.RefreshMethod.{FailsToRefresh, Refreshes}
use Rattle.dav_session_core.proofs.AnewLemmas.{of_filter}
use Rattle.dav_handler_core.proofs.AnswerLemmas.{admits_on, begins_on, found_as, moves_on}
use Rattle.dav_session_core.proofs.CallerLaws.{runs_by, runs_join, runs_of}
use Rattle.dav_methods_core.proofs.LockLemmas.{untold_by}

-- ---- a request that wasn't begun, or was held off

pub lock_unread : (before after : Server) (request : Request (List ℕ)) (e : Fault) (sent : Sent) (changes : Bool) → changes ≡ has_body request
    → Unread before.options request before.last changes e ⊎ IsHeld before request after e → LockAnswers before request (Err e) sent after
lock_unread before after request e sent changes is (inl h) = inl (subst (λ b. Unread before.options request before.last b e) is h)
lock_unread before after request e sent changes is (inr h) = inr (record { path = h.0; who = h.1.0; begins = h.1.1; why = inl h.1.2 })

-- ---- one that was begun

module _ (before mid after : Server) (request : Request (List ℕ)) (path : PathText) (who : Caller) (same : after.last ≡ mid.last)
    (begins : Begins before request mid path who) (admits : Admits before request mid path) (s : State) (alike : live mid.last s ≡ live mid.last before.state) where
  found : live who.now s ≡ as_found before after
  found = found_as before mid after who s same begins.now alike

  now : who.now ≡ after.last
  now = begins.now ∙ sym same

  pub lock_answered : (result : Result ℕ Fault) (sent : Sent) → before.last < mid.last → (body_of request ≢ [])
      → IfOk result (λ status. IsGranted before.options.longest before.options.prefix (head_of request).headers (body_of request) (live who.now s) who path status sent after.state)
      → IfErr result (λ e. FailsToLock before.options.longest (head_of request).headers (body_of request) (live who.now s) who path e) → LockAnswers before request result sent after
  lock_answered (Ok status) sent later some done err = record {
    path = path;
    who = who;
    begins = begins_on before mid after request path who same begins;
    admits = admits_on before mid after request path same admits;
    locks = inl (
      subst (λ n. before.last < n) (sym same) later,
      subst (λ (t : State). IsGranted before.options.longest before.options.prefix (head_of request).headers (body_of request) t who path status sent after.state) found done,
      some,
    );
  }
  lock_answered (Err e) sent later some done err = inr (record {
    path = path;
    who = who;
    begins = begins_on before mid after request path who same begins;
    why = inr (
      admits_on before mid after request path same admits,
      inl (some, subst (λ (t : State). FailsToLock before.options.longest (head_of request).headers (body_of request) t who path e) found err),
    );
  })

  pub refresh_answered : (result : Result ℕ Fault) (sent : Sent) → (body_of request ≡ [])
      → IfOk result (λ status. Refreshes before.options.longest before.options.prefix (head_of request).headers (live who.now s) who (segments path.bytes) status sent after.state)
      → IfErr result (λ e. FailsToRefresh (head_of request).headers (live who.now s) who (segments path.bytes) e) → LockAnswers before request result sent after
  refresh_answered (Ok status) sent none done err = record {
    path = path;
    who = who;
    begins = begins_on before mid after request path who same begins;
    admits = admits_on before mid after request path same admits;
    locks = inr (
      none,
      subst (λ (t : State). Refreshes before.options.longest before.options.prefix (head_of request).headers t who (segments path.bytes) status sent after.state) found done,
    );
  }
  refresh_answered (Err e) sent none done err = inr (record {
    path = path;
    who = who;
    begins = begins_on before mid after request path who same begins;
    why = inr (
      admits_on before mid after request path same admits,
      inr (none, subst (λ (t : State). FailsToRefresh (head_of request).headers t who (segments path.bytes) e) found err),
    );
  })

  -- what is left where it is refused
  pub lock_leaves : (e : Fault) → LeavesLock (IsAskedBy (body_of request) (live who.now s) who path) who (segments path.bytes) e s after.state → Leaves (Some method.Lock) before request e after
  lock_leaves fault.InsufficientStorage (inl kept) = inl (subst (λ n. SameLive n before.state after.state) now (kept.1 ∙ found ∙ ap (λ n. live n before.state) (sym now)))
  lock_leaves fault.InsufficientStorage (inr untold) =
      inr (path, who, begins_on before mid after request path who same begins, subst (λ (t : State). LeavesUntold (IsAskedBy (body_of request) t who path) t who (segments path.bytes) after.state) found untold.1)
  lock_leaves _ (inl kept) = subst (λ n. SameLive n before.state after.state) now (kept.1 ∙ found ∙ ap (λ n. live n before.state) (sym now))
  lock_leaves _ (inr untold) = absurd (cc (untold.0))

  -- ---- what it asks of the stores

  pub moves_locked : MayDo before request mid → RunBy who before.state mid.state → Runs mid.state after.state → LocksOne (live who.now s) who path after.state
      → after.options ≡ mid.options → after.clock ≡ mid.clock → after.noting ≡ mid.noting → MayDo before request after
  moves_locked moves first more does options clock noting = record {
    by_caller = inr (
      who,
      begins.from,
      now,
      inr (inr (record {
        runs = runs_join before.state mid.state after.state (runs_by who before.state mid.state first) more;
        path = path;
        does = subst (λ (t : State). LocksOne t who path after.state) found does;
      })),
    );
    moments = subst (λ n. before.last ≤ n) (sym same) moves.moments;
    options = options ∙ moves.options;
    clock = clock ∙ moves.clock;
    noting = noting ∙ moves.noting;
  }

  pub moves_granted : (result : Result ℕ Fault) (sent : Sent) → s ≡ mid.state → MayDo before request mid → RunBy who before.state mid.state → Runs mid.state after.state
      → IfOk result (λ status. IsGranted before.options.longest before.options.prefix (head_of request).headers (body_of request) (live who.now s) who path status sent after.state)
      → IfErr result (λ e. LeavesLock (IsAskedBy (body_of request) (live who.now s) who path) who (segments path.bytes) e s after.state) → after.options ≡ mid.options → after.clock ≡ mid.clock → after.noting ≡ mid.noting → MayDo before request after
  moves_granted (Ok status) sent is moves first more done left options clock noting = moves_locked moves first more (LocksOne.grants done.wanted done.lock done.grants) options clock noting
  moves_granted (Err e) sent is moves first more done (inl kept) options clock noting =
      moves_on before mid after request path who begins moves first (subst (λ (t : State). RunBy who t after.state) is kept.0) same options clock noting
  moves_granted (Err e) sent is moves first more done (inr untold) options clock noting = moves_locked moves first more (LocksOne.takes_back (untold_by (live who.now s) after.state who (segments path.bytes) (λ l asked. tt) untold.1)) options clock noting

  pub moves_refreshed : (result : Result ℕ Fault) (sent : Sent) → s ≡ mid.state → MayDo before request mid → RunBy who before.state mid.state → Asks who mid.state after.state
      → IfOk result (λ status. Refreshes before.options.longest before.options.prefix (head_of request).headers (live who.now s) who (segments path.bytes) status sent after.state)
      → OnErr result (RunBy who mid.state after.state) → after.options ≡ mid.options → after.clock ≡ mid.clock → after.noting ≡ mid.noting → MayDo before request after
  moves_refreshed (Ok status) sent is moves first more done looked options clock noting =
      let named = of_filter (has_token (live who.now s) (segments path.bytes)) who.tokens done.token (subst (In done.token) (sym done.names) (inl refl)) in
      moves_locked moves first (runs_of who mid.state after.state more) (LocksOne.refreshes done.token done.timeout (Contains-In who.tokens done.token named.0) done.refreshes) options clock noting
  moves_refreshed (Err e) sent is moves first more done looked options clock noting = moves_on before mid after request path who begins moves first looked same options clock noting

  pub lock_leaves_by : (result : Result ℕ Fault) → IfErr result (λ e. LeavesLock (IsAskedBy (body_of request) (live who.now s) who path) who (segments path.bytes) e s after.state)
      → IfErr result (λ e. Leaves (Some method.Lock) before request e after)
  lock_leaves_by (Ok status) left = tt
  lock_leaves_by (Err e) left = lock_leaves e left

-- ---- bodies

-- a body with something in it
pub some_body : (body : List ℕ) → (length body == 0) ≡ false → (true ≡ has_any body) × (body ≢ [])
some_body [] h = absurd (true≢false h)
some_body (x ∷ body) h = (refl, λ same. absurd (cc))
