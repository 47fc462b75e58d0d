-- What is answered does not depend on the notes that are kept: each answer of a server is one of its bare server.
use Rattle.std.proofs.Common.{◌≡◌, ◌⊎◌, inl, inr, ℕ, Bool, true, false, List, [], Option, Some, Result, Ok, Err, refl}
use Rattle.std.specs.Prelude.{IfErr}
use Rattle.http.specs.declared.request.Request.{Request}
use Rattle.http.specs.Request.{body_of, head_of}
use Rattle.http_server.specs.declared.response.Response.{Response}
use Rattle.dav_path_core.specs.declared.util.DavMethod.{DavMethod}
use Rattle.dav_path_core.specs.declared.util.DavMethod.TheVariants as method
use Rattle.dav_path_core.specs.Fronts.{Path}
use Rattle.dav_path_core.specs.PathText.{PathText}
use Rattle.dav_guarded_core.specs.Step.{State}
use Rattle.dav_faults_core.specs.declared.faults.Fault.{Fault}
use Rattle.dav_faults_core.specs.declared.faults.Fault.TheVariants as fault
use Rattle.dav_fields_core.specs.Fields.{Sent}
use Rattle.dav_session_core.specs.Callers.{Caller, RunBy}
use Rattle.dav_methods_core.specs.CopyMethod.{Copies, FailsToCopy}
use Rattle.dav_methods_core.specs.DeleteMethod.{FailsToRemove, Removes}
use Rattle.dav_safe_methods_core.specs.GetMethod.{FailsToGet}
use Rattle.dav_methods_core.specs.MkcolMethod.{FailsToMake, Makes}
use Rattle.dav_methods_core.specs.MoveMethod.{FailsToMove, Moves}
use Rattle.dav_safe_methods_core.specs.PropfindMethod.{FailsToTell, TellsFound}
use Rattle.dav_methods_core.specs.ProppatchMethod.{FailsToPatch}
use Rattle.dav_methods_core.specs.PutMethod.{FailsToPut}
use Rattle.dav_methods_core.specs.UnlockMethod.{FailsToUnlock, Unlocks}
use Rattle.dav_handler_core.specs.Answers.{Answers, AnswersTo, ByCaller, EndsOne, Leaves, Locks, MayDo, SendsOwn}
use Rattle.dav_handler_core.specs.MethodAnswers.{BareAnswers, Begins, ChangeAnswers, Fails, GetAnswers, IsPut, LockAnswers, PatchAnswers, PutAnswers, RefusesBody, Unread, as_found, has_body}
use Rattle.dav_handler_core.specs.RequestMoments.{Comes, ComesAt}
use Rattle.dav_handler_core.specs.RequestMoments.ComesAt.{begun, unread}
use Rattle.dav_handler_core.specs.Server.{Server, site_for}
use Rattle.dav_kept_core.specs.BareServers.{bare}

module _ (before : Server) (request : Request (List ℕ)) (after : Server) where
  -- ---- a request that is read, or isn't

  bare_request : (path : PathText) (who : Caller) → Begins before request after path who → Begins (bare before) request (bare after) path who
  bare_request path who h = record { names = h.names; from = h.from; now = h.now }

  bare_fails : (e : Fault) (Refuses : Path → Caller → Type 0) → Fails before request after e Refuses → Fails (bare before) request (bare after) e Refuses
  bare_fails e Refuses h = record { path = h.path; who = h.who; begins = bare_request h.path h.who h.begins; why = h.why }

  bare_refused : (changes : Bool) (e : Fault) (Refuses : Path → Caller → Type 0)
      → Unread before.options request before.last changes e ⊎ Fails before request after e Refuses
      → Unread before.options request before.last changes e ⊎ Fails (bare before) request (bare after) e Refuses
  bare_refused changes e Refuses (inl h) = inl h
  bare_refused changes e Refuses (inr h) = inr (bare_fails e Refuses h)

  -- ---- each method

  bare_gets : (m : DavMethod) (result : Result ℕ Fault) (sent : Sent) → GetAnswers m before request result sent after → GetAnswers m (bare before) request result sent (bare after)
  bare_gets m (Ok status) sent h = record { path = h.path; who = h.who; begins = bare_request h.path h.who h.begins; admits = h.admits; gets = h.gets }
  bare_gets m (Err e) sent h = bare_refused false e (λ p who. FailsToGet m before.state.map p (head_of request).headers e) h

  bare_put : (status : ℕ) (sent : Sent) → IsPut before request status sent after → IsPut (bare before) request status sent (bare after)
  bare_put status sent h = record {
    path = h.path;
    who = h.who;
    begins = bare_request h.path h.who h.begins;
    later = h.later;
    admits = h.admits;
    course = h.course;
    free = h.free;
    status_is = h.status_is;
    puts = h.puts;
    tells = h.tells;
  }

  bare_puts : (result : Result ℕ Fault) (sent : Sent) → PutAnswers before request result sent after → PutAnswers (bare before) request result sent (bare after)
  bare_puts (Ok status) sent h = (h.0, bare_put status sent h.1)
  bare_puts (Err e) sent (inl h) = inl h
  bare_puts (Err e) sent (inr h) = inr (h.0, bare_refused true e (λ p who. FailsToPut before.state who p (body_of request) (head_of request).headers e) h.1)

  bare_changes : (changes : Bool) (Does : State → Caller → Path → ℕ → State → Type 0) (Refuses : State → Caller → Path → Fault → Type 0) (result : Result ℕ Fault)
      → ChangeAnswers changes Does Refuses before request result after → ChangeAnswers changes Does Refuses (bare before) request result (bare after)
  bare_changes changes Does Refuses (Ok status) h = record { path = h.path; who = h.who; begins = bare_request h.path h.who h.begins; later = h.later; admits = h.admits; does = h.does }
  bare_changes changes Does Refuses (Err e) h = bare_refused changes e (λ p who. Refuses (as_found before after) who p e) h

  bare_bodiless : (changes : Bool) (Does : State → Caller → Path → ℕ → State → Type 0) (Refuses : State → Caller → Path → Fault → Type 0) (result : Result ℕ Fault)
      → BareAnswers changes Does Refuses before request result after → BareAnswers changes Does Refuses (bare before) request result (bare after)
  bare_bodiless changes Does Refuses result h =
      bare_changes changes (λ s who p status s'. (body_of request ≡ []) × Does s who p status s') (RefusesBody request Refuses) result h

  bare_patches : (result : Result ℕ Fault) (sent : Sent) → PatchAnswers before request result sent after → PatchAnswers (bare before) request result sent (bare after)
  bare_patches (Ok status) sent h = record { path = h.path; who = h.who; begins = bare_request h.path h.who h.begins; admits = h.admits; patches = h.patches }
  bare_patches (Err e) sent h = bare_refused false e (λ p who. FailsToPatch (head_of request).headers (body_of request) (as_found before after) who p e) h

  bare_locks : (result : Result ℕ Fault) (sent : Sent) → LockAnswers before request result sent after → LockAnswers (bare before) request result sent (bare after)
  bare_locks (Ok status) sent h = record { path = h.path; who = h.who; begins = bare_request h.path h.who h.begins; admits = h.admits; locks = h.locks }
  bare_locks (Err e) sent (inl h) = inl h
  bare_locks (Err e) sent (inr h) = inr (record { path = h.path; who = h.who; begins = bare_request h.path h.who h.begins; why = h.why })

  bare_done : (m : Option DavMethod) (result : Result ℕ Fault) (sent : Sent) → AnswersTo m before request result sent after → AnswersTo m (bare before) request result sent (bare after)
  bare_done (Some method.Get) result sent h = (bare_gets method.Get result sent h.0, h.1)
  bare_done (Some method.Head) result sent h = (bare_gets method.Head result sent h.0, h.1)
  bare_done (Some method.PropFind) result sent h = (
    bare_changes false (TellsFound before.options.finite before.options.prefix (head_of request).headers (body_of request) sent)
        (FailsToTell before.options.finite (head_of request).headers (body_of request)) result h.0,
    h.1,
  )
  bare_done (Some method.Put) result sent h = bare_puts result sent h
  bare_done (Some method.Delete) result sent h = bare_bodiless true (Removes (head_of request).headers) (FailsToRemove (head_of request).headers) result h
  bare_done (Some method.Copy) result sent h =
      bare_bodiless true (Copies (site_for before.options request) before.options.prefix (head_of request).headers)
      (FailsToCopy (site_for before.options request) before.options.prefix (head_of request).headers) result h
  bare_done (Some method.Move) result sent h =
      bare_bodiless true (Moves (site_for before.options request) before.options.prefix (head_of request).headers)
      (FailsToMove (site_for before.options request) before.options.prefix (head_of request).headers) result h
  bare_done (Some method.MkCol) result sent h = bare_bodiless true (Makes (head_of request).headers) (FailsToMake (head_of request).headers) result h
  bare_done (Some method.Unlock) result sent h = bare_bodiless false (Unlocks (head_of request).headers) (FailsToUnlock (head_of request).headers) result h
  bare_done (Some method.Lock) result sent h = bare_locks result sent h
  bare_done (Some method.PropPatch) result sent h = bare_patches result sent h
  bare_done (Some method.Options) (Ok status) sent h = h
  bare_done (Some method.Options) (Err e) sent h = h
  bare_done _ result sent h = h

  bare_own : (m : Option DavMethod) (result : Result ℕ Fault) (own : Sent) → SendsOwn m before request result own → SendsOwn m (bare before) request result own
  bare_own (Some method.Copy) result own h = h
  bare_own _ result own h = h

  -- ---- what every answer keeps to

  bare_end : (who : Caller) → EndsOne before request after who → EndsOne (bare before) request (bare after) who
  bare_end who h = record { asks = h.asks; path = h.path; status = h.status; unlocks = h.unlocks }

  bare_lock : (who : Caller) → Locks before after who → Locks (bare before) (bare after) who
  bare_lock who h = record { runs = h.runs; path = h.path; does = h.does }

  bare_run : (who : Caller) → RunBy who before.state after.state ⊎ (EndsOne before request after who ⊎ Locks before after who)
      → RunBy who before.state after.state ⊎ (EndsOne (bare before) request (bare after) who ⊎ Locks (bare before) (bare after) who)
  bare_run who (inl h) = inl h
  bare_run who (inr (inl h)) = inr (inl (bare_end who h))
  bare_run who (inr (inr h)) = inr (inr (bare_lock who h))

  bare_caller : ByCaller before request after → ByCaller (bare before) request (bare after)
  bare_caller (inl h) = inl h
  bare_caller (inr h) = inr (h.0, h.1, h.2, bare_run h.0 h.3)

  bare_moves : MayDo before request after → MayDo (bare before) request (bare after)
  bare_moves h = record { by_caller = bare_caller h.by_caller; moments = h.moments; options = h.options; clock = h.clock; noting = refl }

  -- ---- its moment, and what a refusal leaves

  bare_moment : (changes : Bool) (result : Result ℕ Fault) → ComesAt changes before request result after → ComesAt changes (bare before) request result (bare after)
  bare_moment changes result (begun path who h at) = begun path who (bare_request path who h) at
  bare_moment changes result (unread e is why same) = unread e is why same

  bare_comes : (m : Option DavMethod) (result : Result ℕ Fault) → Comes m before request result after → Comes m (bare before) request result (bare after)
  bare_comes (Some method.Get) result h = bare_moment false result h
  bare_comes (Some method.Head) result h = bare_moment false result h
  bare_comes (Some method.PropFind) result h = bare_moment false result h
  bare_comes (Some method.PropPatch) result h = bare_moment false result h
  bare_comes (Some method.Unlock) result h = bare_moment false result h
  bare_comes (Some method.Put) result (inl h) = inl h
  bare_comes (Some method.Put) result (inr h) = inr (h.0, bare_moment true result h.1)
  bare_comes (Some method.Delete) result h = bare_moment true result h
  bare_comes (Some method.Copy) result h = bare_moment true result h
  bare_comes (Some method.Move) result h = bare_moment true result h
  bare_comes (Some method.MkCol) result h = bare_moment true result h
  bare_comes (Some method.Lock) result h = bare_moment (has_body request) result h
  bare_comes _ result h = h

  bare_leaves : (m : Option DavMethod) (e : Fault) → Leaves m before request e after → Leaves m (bare before) request e (bare after)
  bare_leaves (Some method.Copy) fault.InsufficientStorage (inl h) = inl h
  bare_leaves (Some method.Copy) fault.InsufficientStorage (inr h) = inr (h.0, (h.1.0, h.1.1, bare_request h.1.0 h.1.1 h.1.2, h.1.3))
  bare_leaves (Some method.Move) fault.InsufficientStorage (inl h) = inl h
  bare_leaves (Some method.Move) fault.InsufficientStorage (inr h) = inr (h.0, (h.1.0, h.1.1, bare_request h.1.0 h.1.1 h.1.2, h.1.3))
  bare_leaves (Some method.Lock) fault.InsufficientStorage (inl h) = inl h
  bare_leaves (Some method.Lock) fault.InsufficientStorage (inr h) = inr (h.0, h.1, bare_request h.0 h.1 h.2, h.3)
  bare_leaves _ e h = h

  bare_refusal : (m : Option DavMethod) (result : Result ℕ Fault) → IfErr result (λ e. Leaves m before request e after) → IfErr result (λ e. Leaves m (bare before) request e (bare after))
  bare_refusal m (Ok status) h = h
  bare_refusal m (Err e) h = bare_leaves m e h

  pub bare_answers : (response : Response) → Answers before request response after → Answers (bare before) request response (bare after)
  bare_answers response h = record {
    moves = bare_moves h.moves;
    method = h.method;
    is_method = h.is_method;
    fits = h.fits;
    result = h.result;
    status = h.status;
    own = h.own;
    done = bare_done h.method h.result h.own h.done;
    sends_own = bare_own h.method h.result h.own h.sends_own;
    date = h.date;
    dated = h.dated;
    sends = h.sends;
    comes = bare_comes h.method h.result h.comes;
    refused = bare_refusal h.method h.result h.refused;
    exclusive = h.exclusive;
    shape = h.shape;
  }
