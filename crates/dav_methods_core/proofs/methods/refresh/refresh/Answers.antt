use Rattle.std.proofs.Common.{◌≡◌, ℕ, List, Option, true, string_bytes, refl, ap, ◌∙◌}
use Rattle.std.proofs.lemmas.Result.{err_from_is_err_and}
use Rattle.dav_path_core.specs.PathText.{PathText}
use Rattle.dav_path_core.specs.Segments.{segments}
use Rattle.dav_headers_core.specs.declared.davheaders.timeouts.DavTimeout.{DavTimeout}
use Rattle.dav_locks_core.specs.Lock.{Lock}
use Rattle.dav_locks_core.specs.Locks.{discovered_locks}
use Rattle.dav_guarded_core.specs.Step.{State}
use Rattle.dav_session_core.specs.Callers.{Caller, live}
use Rattle.dav_session_core.specs.Conditions.{has_token}
use Rattle.dav_session_core.specs.Sessions as spec
use Rattle.dav_session_core.specs.Unlocking.{IsAnothers}
use Rattle.dav_session_core.specs.Refreshing.{RefreshesOwn}
use Rattle.dav_safe_methods_core.specs.SentDocuments.{document_sent}
use Rattle.dav_documents_core.specs.LockDocuments.{discovery_pieces}
use Rattle.dav_documents_core.specs.Pieces.{written_pieces}
use Rattle.dav_methods_core.specs.RefreshMethod.{next_timeout, retimed_locks}
use Rattle.dav_session_core.proofs.Looking.{looks_none, looks_on, requests_of}
use Rattle.dav_methods_core.proofs.RefreshMethodLemmas.{fails_short, fails_unread}
use Rattle.dav_session_core.proofs.RefreshLemmas.{first_has}
use Rattle.dav_safe_methods_core.proofs.Acting.{acts_asked, asked_on, held_before, held_behind, looks_act}
use Rattle.dav_locks_core.proofs.answers.LockListLemmas.{on_err}
use Rattle.dav_methods_core.proofs.methods.refresh.refresh.Goals as goal

-- ---- a `Timeout` that isn't read

pub returns-in_err-timeouts-clause-err : goal.returns-in_err-timeouts-clause-err
returns-in_err-timeouts-clause-err g c =
    let q = err_from_is_err_and c.from_residual.result c.from_residual.ensures.1 in
    let who = spec.caller c.args.session.now in
    rw (q.1, q.2) (fails_unread c.args.headers.now (live who.now (spec.state g.R.Rng.stream c.args.session.now)) who (segments c.args.path.bytes)
    c.in_err-timeouts.field-0.0 c.in_err-timeouts.ensures.err)

-- ---- no one token, another's lock, or a condition

pub returns-in_err-token-clause-err : goal.returns-in_err-token-clause-err
returns-in_err-token-clause-err g c =
    let q = err_from_is_err_and c.from_residual-in_err-token.result c.from_residual-in_err-token.ensures.1 in
    rw (q.1, q.2) (c.in_err-token.ensures.err c.in_ok-timeouts.timeouts.items c.in_ok-timeouts.ensures.ok)

-- ---- no memory

pub returns-in_err-copy_of-clause-err : goal.returns-in_err-copy_of-clause-err
returns-in_err-copy_of-clause-err g c =
    let q = err_from_is_err_and c.from_residual-in_err-copy_of.result c.from_residual-in_err-copy_of.ensures.1 in
    let who = spec.caller c.args.session.now in
    rw (q.1) (fails_short c.args.headers.now (live who.now (spec.state g.R.Rng.stream c.args.session.now)) who (segments c.args.path.bytes) q.0 q.2)

pub returns-in_err-locks-clause-err : goal.returns-in_err-locks-clause-err
returns-in_err-locks-clause-err g c =
    let q = err_from_is_err_and c.from_residual-in_err-locks.result c.from_residual-in_err-locks.ensures.1 in
    let who = spec.caller c.args.session.now in
    rw (q.1, q.2) (fails_short c.args.headers.now (live who.now (spec.state g.R.Rng.stream c.args.session.now)) who (segments c.args.path.bytes)
    c.in_err-locks.field-0.0 c.in_err-locks.ensures.err.0)

pub returns-in_err-document-clause-err : goal.returns-in_err-document-clause-err
returns-in_err-document-clause-err g c =
    let q = err_from_is_err_and c.from_residual-in_err-document.result c.from_residual-in_err-document.ensures.1 in
    rw (q.1) (fails_short c.args.headers.now (spec.live_of g.R.Rng.stream c.args.session.now) (spec.caller c.args.session.now) (segments c.args.path.bytes) q.0 q.2)

pub returns-in_err-say_document-clause-err : goal.returns-in_err-say_document-clause-err
returns-in_err-say_document-clause-err g c =
    let q = err_from_is_err_and c.from_residual-in_err-say_document.result c.from_residual-in_err-say_document.ensures.1 in
    let who = spec.caller c.args.session.now in
    rw (q.1) (fails_short c.args.headers.now (live who.now (spec.state g.R.Rng.stream c.args.session.now)) who (segments c.args.path.bytes) q.0 q.2)

-- ---- the lock that is refreshed

-- a lock with the token that is named covers the path
pub refresh-requires-clause-covered : goal.refresh-requires-clause-covered
refresh-requires-clause-covered g c =
    let who = spec.caller c.args.session.now in
    let s = spec.state g.R.Rng.stream c.args.session.now in
    let p = segments c.args.path.bytes in
    let token = string_bytes c.in_ok-token.token in
    let looks = looks_on c.own_token.ensures.looks c.locks_at.ensures.looks in
    held_behind (λ w (t : State). has_token t p token ≡ true) looks
    (first_has (has_token (live who.now s) p) who.tokens token _ c.in_ok-token.ensures.named)

-- each one with the token is the caller's own
pub refresh-requires-clause-own : goal.refresh-requires-clause-own
refresh-requires-clause-own g c =
    held_behind (λ w (t : State). ¬ IsAnothers t w (segments c.args.path.bytes) (string_bytes c.in_ok-token.token))
    (looks_on c.own_token.ensures.looks c.locks_at.ensures.looks) c.in_ok-token.ensures.own

pub returns-in_err-refresh-clause-err : goal.returns-in_err-refresh-clause-err
returns-in_err-refresh-clause-err g c =
    let q = err_from_is_err_and c.from_residual-in_err-refresh.result c.from_residual-in_err-refresh.ensures.1 in
    rw (q.1, q.2) (fails_short c.args.headers.now (spec.live_of g.R.Rng.stream c.args.session.now) (spec.caller c.args.session.now) (segments c.args.path.bytes)
    c.in_err-refresh.field-0.0 c.in_err-refresh.ensures.err)

pub returns-in_err-refresh-clause-looks : goal.returns-in_err-refresh-clause-looks
returns-in_err-refresh-clause-looks g c =
    let q = err_from_is_err_and c.from_residual-in_err-refresh.result c.from_residual-in_err-refresh.ensures.1 in
    let looks = looks_on c.own_token.ensures.looks c.locks_at.ensures.looks in
    rw (q.1) (looks_on looks c.in_err-refresh.ensures.refused)

pub returns-in_err-refresh-clause-asks : goal.returns-in_err-refresh-clause-asks
returns-in_err-refresh-clause-asks g c =
    let looks = looks_on c.own_token.ensures.looks c.locks_at.ensures.looks in
    asked_on (acts_asked (looks_act looks)) c.refresh.ensures.requests

pub returns-clause-asks : goal.returns-clause-asks
returns-clause-asks g c =
    let looks = looks_on c.own_token.ensures.looks c.locks_at.ensures.looks in
    asked_on (acts_asked (looks_act looks)) c.refresh.ensures.requests

pub returns-in_err-say_document-clause-looks : goal.returns-in_err-say_document-clause-looks
returns-in_err-say_document-clause-looks g c =
    let q = err_from_is_err_and c.from_residual-in_err-say_document.result c.from_residual-in_err-say_document.ensures.1 in
    rw (q.1) (looks_on c.own_token.ensures.looks c.locks_at.ensures.looks)

pub returns-clause-done : goal.returns-clause-done
returns-clause-done g c =
    let who = spec.caller c.args.session.now in
    let s = spec.live_of g.R.Rng.stream c.args.session.now in
    let p = segments c.args.path.bytes in
    let timeouts = c.in_ok-timeouts.timeouts.items in
    let token = string_bytes c.in_ok-token.token in
    let timeout = c.next_timeout-timeout.result in
    let most = c.args.longest in
    let looks = looks_on c.own_token.ensures.looks c.locks_at.ensures.looks in
    let asked : c.in_ok-locks.locks.items ≡ discovered_locks (spec.live_of g.R.Rng.stream c.own_token.new.session).locks p =
    c.in_ok-locks.ensures.ok ∙ ap (λ (path : PathText). discovered_locks (spec.live_of g.R.Rng.stream c.own_token.new.session).locks (segments path.bytes)) c.in_ok-copy_of.ensures in
    let found : c.in_ok-locks.locks.items ≡ discovered_locks s.locks p =
    held_before (λ w (t : State). c.in_ok-locks.locks.items ≡ discovered_locks t.locks p) c.own_token.ensures.looks asked in
    let now_is : c.now-now.result.0 ≡ who.now = c.now-now.ensures ∙ ap (λ (w : Caller). w.now) looks.who in
    let retimed : retimed_locks c.now-now.result.0 c.deref-4.result.now timeout c.in_ok-locks.locks.items ≡ retimed_locks c.now-now.result.0 token timeout (discovered_locks s.locks p) =
    ap (λ (t : List ℕ). retimed_locks c.now-now.result.0 t timeout c.in_ok-locks.locks.items) c.deref-4.ensures
    ∙ ap (λ (ls : List Lock). retimed_locks c.now-now.result.0 token timeout ls) found in
    let first = retimed_locks c.now-now.result.0 c.deref-4.result.now timeout c.in_ok-locks.locks.items in (
      document_sent c.in_ok-document.document.items,
      c.in_ok-say_document.ensures.sent,
      record {
        status_is = refl;
        timeouts = timeouts;
        read = c.in_ok-timeouts.ensures.ok;
        token = token;
        names = c.in_ok-token.ensures.named;
        own = c.in_ok-token.ensures.own;
        timeout = timeout;
        timeout_is = c.next_timeout-timeout.ensures
            ∙ ap (λ (asked_for : List DavTimeout). next_timeout most asked_for c.deref-2.result.now c.deref-3.result.now) c.deref.ensures.value
            ∙ ap (λ (t : List ℕ). next_timeout most timeouts t c.deref-3.result.now) c.deref-2.ensures
            ∙ ap (λ (ls : List Lock). next_timeout most timeouts token ls) (c.deref-3.ensures.value ∙ found);
        course = c.in_ok-token.ensures.course;
        refreshes = held_before (λ w (t : State). RefreshesOwn t w p token timeout (spec.state g.R.Rng.stream c.refresh.new.self)) looks c.in_ok-refresh.ensures.ok;
        tells = ap document_sent (c.in_ok-document.ensures
            ∙ ap (λ (principal : Option (List ℕ)). written_pieces (discovery_pieces c.args.prefix.now principal c.now-now.result.0 first))
            (c.principal.ensures ∙ ap (λ (w : Caller). w.principal) looks.who)
            ∙ ap (λ (ls : List Lock). written_pieces (discovery_pieces c.args.prefix.now who.principal c.now-now.result.0 ls)) retimed
            ∙ ap (λ (n : ℕ). written_pieces (discovery_pieces c.args.prefix.now who.principal n (retimed_locks n token timeout (discovered_locks s.locks p)))) now_is);
      },
    )

pub returns-in_err-timeouts-clause-looks : goal.returns-in_err-timeouts-clause-looks
returns-in_err-timeouts-clause-looks g c = on_err c.from_residual.result (looks_none g.R.Rng.stream c.args.session.now)

pub returns-in_err-timeouts-clause-asks : goal.returns-in_err-timeouts-clause-asks
returns-in_err-timeouts-clause-asks g c = requests_of (looks_none g.R.Rng.stream c.args.session.now)

pub returns-in_err-token-clause-looks : goal.returns-in_err-token-clause-looks
returns-in_err-token-clause-looks g c = on_err c.from_residual-in_err-token.result c.own_token.ensures.looks

pub returns-in_err-token-clause-asks : goal.returns-in_err-token-clause-asks
returns-in_err-token-clause-asks g c = requests_of c.own_token.ensures.looks

pub returns-in_err-copy_of-clause-looks : goal.returns-in_err-copy_of-clause-looks
returns-in_err-copy_of-clause-looks g c = on_err c.from_residual-in_err-copy_of.result c.own_token.ensures.looks

pub returns-in_err-copy_of-clause-asks : goal.returns-in_err-copy_of-clause-asks
returns-in_err-copy_of-clause-asks g c = requests_of c.own_token.ensures.looks

pub returns-in_err-locks-clause-looks : goal.returns-in_err-locks-clause-looks
returns-in_err-locks-clause-looks g c = on_err c.from_residual-in_err-locks.result (looks_on c.own_token.ensures.looks c.locks_at.ensures.looks)

pub returns-in_err-locks-clause-asks : goal.returns-in_err-locks-clause-asks
returns-in_err-locks-clause-asks g c = requests_of (looks_on c.own_token.ensures.looks c.locks_at.ensures.looks)

pub returns-in_err-document-clause-looks : goal.returns-in_err-document-clause-looks
returns-in_err-document-clause-looks g c = on_err c.from_residual-in_err-document.result (looks_on c.own_token.ensures.looks c.locks_at.ensures.looks)

pub returns-in_err-document-clause-asks : goal.returns-in_err-document-clause-asks
returns-in_err-document-clause-asks g c = requests_of (looks_on c.own_token.ensures.looks c.locks_at.ensures.looks)

pub returns-in_err-say_document-clause-asks : goal.returns-in_err-say_document-clause-asks
returns-in_err-say_document-clause-asks g c = requests_of (looks_on c.own_token.ensures.looks c.locks_at.ensures.looks)
