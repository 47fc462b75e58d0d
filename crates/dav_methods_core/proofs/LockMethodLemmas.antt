-- A LOCK with a body, from what it finds to what it grants.
use Rattle.std.proofs.Common.{inl, inr, ℕ, ◌<◌, ◌-◌, ◌^◌, Bool, List, Option, Result, Ok, Err, ap, sym, subst, ◌≡◌, ◌∙◌}
use Rattle.std.specs.Prelude.{IfErr, IfOk}
use Rattle.http_header.specs.FieldValue.{FieldValue}
use Rattle.http_header.specs.HeaderMap.{Entries}
use Rattle.rand_core.specs.Stream.{Stream}
use Rattle.dav_path_core.specs.declared.util.DavMethod.TheVariants as method
use Rattle.dav_path_core.specs.Fronts.{Path}
use Rattle.dav_path_core.specs.PathText.{PathText}
use Rattle.dav_path_core.specs.Segments.{segments}
use Rattle.dav_locks_core.specs.Lock.{Lock}
use Rattle.dav_locks_core.specs.Locks.{lock_conflicts}
use Rattle.dav_guarded_core.specs.Step.{State}
use Rattle.dav_faults_core.specs.declared.faults.Fault.{Fault}
use Rattle.http_server.specs.declared.response.Response.{Response}
use Rattle.dav_fields_core.specs.Fields.{SendsMore}
use Rattle.dav_session_core.specs.declared.session.Session.{Session}
use Rattle.dav_session_core.specs.Sessions.{Looks, caller, live_of, state}
use Rattle.dav_session_core.specs.Granting.{AreAbove, HaveTokens, granted_lock}
use Rattle.dav_methods_core.specs.ChangeConditions.{change_course}
use Rattle.dav_methods_core.specs.ToldPaths.{told_path}
use Rattle.dav_methods_core.specs.LockMethod.{FailsToLock, IsAskedBy, IsGranted, LeavesUntold, Wanted, WantsInTime}
use Rattle.dav_methods_core.specs.Rooms.{FoundRoom, IsConflictAt, IsGrantedNow, IsReadyToLock, LeavesLock}
use Rattle.dav_session_core.proofs.Asking.{join_as, live_as}
use Rattle.dav_safe_methods_core.proofs.Acting.{held_before, held_behind}
use Rattle.dav_methods_core.proofs.LockLemmas.{conflict_by, granted_by, lasts, same_path, untold_by}
use Rattle.dav_methods_core.proofs.ToldPathLemmas.{told_twice}

-- what follows from the conditions behind questions followed before them
pub course_before : {R : Type 0} {stream : R → Stream} {old mid : Session R} (p : Path) (headers : Entries FieldValue) → Looks stream old mid
    → change_course method.Lock (state stream mid).map p headers ≡ Ok tt → change_course method.Lock (live_of stream old).map p headers ≡ Ok tt
course_before p headers looks lets = held_before (λ w t. change_course method.Lock t.map p headers ≡ Ok tt) looks lets

-- and the path is told so
pub told_before : {R : Type 0} {stream : R → Stream} {old mid : Session R} (path place : PathText) → Looks stream old mid
    → place ≡ told_path (state stream mid).map path → place ≡ told_path (live_of stream old).map path
told_before path place looks kept = held_before (λ w t. place ≡ told_path t.map path) looks kept

module _ (most : Option ℕ) (headers : Entries FieldValue) (body : List ℕ) (path : PathText) (wanted : Wanted) (missing : Bool)
    {R : Type 0} (stream : R → Stream) (old : Session R) (wants : WantsInTime most headers body (caller old).now wanted) (room : FoundRoom (live_of stream old) (caller old) (segments path.bytes) missing)
    (place : PathText) (kept : place ≡ told_path (live_of stream old).map path) where
  abbrev s : State
  s = live_of stream old

  same : segments place.bytes ≡ segments path.bytes
  same = same_path most headers body s (caller old) path place kept

  pub ready : {mid last : Session R} (above : List (List ℕ)) → Looks stream old mid → Looks stream old last → (caller old).now < 2 ^ 64 - 1
      → HaveTokens (live_of stream mid) (segments place.bytes) above → AreAbove (live_of stream mid) (segments place.bytes) above
      → IsReadyToLock (live_of stream last) (caller last) place wanted missing above
  ready above first second early have only = held_behind (λ w t. IsReadyToLock t w place wanted missing above) second (record {
    room = subst (λ p. FoundRoom s (caller old) p missing) (sym same) room;
    is_told = ap (told_path s.map) kept ∙ told_twice path s.map ∙ sym kept;
    lasts = lasts s (caller old) place wanted.owner wanted.timeout wanted.shared wanted.deep most wants.0.timeouts early wants.0.given;
    have = held_before (λ w t. HaveTokens t (segments place.bytes) above) first have;
    only = held_before (λ w t. AreAbove t (segments place.bytes) above) first only;
  })

  module _ {last : Session R} (s' : State) (looks : Looks stream old last) where
    pub done : (prefix : List ℕ) (result : Result ℕ Fault) (before after : Response) → change_course method.Lock s.map (segments path.bytes) headers ≡ Ok tt
        → IfOk result (λ status. SendsMore before after (λ sent. (lock : Lock) × IsGrantedNow prefix (live_of stream last) (caller last) place wanted missing lock status sent s'))
        → IfOk result (λ status. SendsMore before after (λ sent. IsGranted most prefix headers body s (caller old) path status sent s'))
    done prefix (Ok status) before after course (sent, sends, (lock, h)) = (
      sent,
      sends,
      granted_by most headers body s (caller old) path place kept prefix wanted missing lock status sent s' wants room course
          (held_before (λ w t. IsGrantedNow prefix t w place wanted missing lock status sent s') looks h),
    )
    done prefix (Err e) before after course h = tt

    pub refused : (result : Result ℕ Fault) → change_course method.Lock s.map (segments path.bytes) headers ≡ Ok tt
        → IfErr result (λ e. IsConflictAt (lock_conflicts (live_of stream last).locks (segments place.bytes) wanted.shared wanted.deep) place e)
        → IfErr result (λ e. FailsToLock most headers body s (caller old) path e)
    refused (Ok status) course h = tt
    refused (Err e) course h =
        conflict_by most headers body s (caller old) path place kept e wanted missing wants room course
        (held_before (λ w t. IsConflictAt (lock_conflicts t.locks (segments place.bytes) wanted.shared wanted.deep) place e) looks h)

    asked : (l : Lock) → l ≡ granted_lock s (caller old) place wanted.owner wanted.timeout wanted.shared wanted.deep → IsAskedBy body s (caller old) path l
    asked l is = (
      wants.0.info,
      wants.0.asks,
      (
        wanted.timeout,
        wanted.deep,
        is ∙ ap (λ (q : PathText). granted_lock s (caller old) q wanted.owner wanted.timeout wanted.shared wanted.deep) kept
            ∙ ap (λ (owner : Option (List ℕ)). granted_lock s (caller old) (told_path s.map path) owner wanted.timeout wanted.shared wanted.deep) wants.0.owner_is
            ∙ ap (λ shared. granted_lock s (caller old) (told_path s.map path) wants.0.info.owner wanted.timeout shared wanted.deep) wants.0.shared_is,
      ),
    )

    pub leaves : (result : Result ℕ Fault)
        → IfErr result (λ e. LeavesLock (λ l. l ≡ granted_lock (live_of stream last) (caller last) place wanted.owner wanted.timeout wanted.shared wanted.deep) (caller last) (segments place.bytes) e (state stream last) s')
        → IfErr result (λ e. LeavesLock (IsAskedBy body s (caller old) path) (caller old) (segments path.bytes) e (state stream old) s')
    leaves (Ok status) h = tt
    leaves (Err e) (inl left) = inl (
      join_as (caller old) (caller last) (state stream old) (state stream last) s' looks.who looks.run left.0,
      live_as (caller old) (caller last) (state stream old) (state stream last) s' looks.who looks.live left.1,
    )
    leaves (Err e) (inr untold) = inr (
      untold.0,
      subst (λ p. LeavesUntold (IsAskedBy body s (caller old) path) s (caller old) p s') same
          (untold_by s s' (caller old) (segments place.bytes) asked
          (held_before (λ w t. LeavesUntold (λ l. l ≡ granted_lock t w place wanted.owner wanted.timeout wanted.shared wanted.deep) t w (segments place.bytes) s') looks untold.1)),
    )
