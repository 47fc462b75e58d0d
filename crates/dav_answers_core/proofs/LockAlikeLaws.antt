-- A LOCK with a body is answered in one way.
use Rattle.std.proofs.Common.{◌≡◌, ◌⊎◌, inl, inr, ℕ, false, List, [], ◌∷◌, ◌++◌, Option, None, Some, Result, Ok, Err, refl, sym, ap, ◌∙◌, is_some}
use Rattle.std.specs.Prelude.{IsSome}
use Rattle.std.proofs.lemmas.Bool.{false≢true}
use Rattle.http_header.specs.FieldValue.{FieldValue}
use Rattle.http_header.specs.HeaderMap.{Entries}
use Rattle.dav_path_core.specs.declared.errors.FsError.{FsError}
use Rattle.dav_path_core.specs.declared.util.DavMethod.TheVariants as method
use Rattle.dav_path_core.specs.Fronts.{Path, parent}
use Rattle.dav_path_core.specs.PathText.{PathText}
use Rattle.dav_path_core.specs.Segments.{segments}
use Rattle.dav_path_core.proofs.lists.FinMaps.{none_some, one_some}
use Rattle.dav_files_core.specs.Outcomes.{Outcome, ◌>>=◌, find_folder, new_file, with_new_entry}
use Rattle.dav_files_core.specs.ResourcePutting.{put, put_at}
use Rattle.dav_files_core.specs.Resources.{Resource, ResourceMap, at_path}
use Rattle.dav_files_core.proofs.walks.FoundLemmas.{folder_there}
use Rattle.dav_locks_core.specs.Lock.{Lock}
use Rattle.dav_locks_core.specs.Locks.{discovered_locks, lock_conflicts}
use Rattle.dav_guarded_core.specs.Step.{State}
use Rattle.dav_faults_core.specs.declared.faults.Fault.{Fault}
use Rattle.dav_faults_core.specs.declared.faults.Fault.TheVariants as fault
use Rattle.dav_fields_core.specs.Fields.{Sent}
use Rattle.dav_fields_core.specs.LockTimeouts.{given_of, timeouts_in}
use Rattle.dav_fields_core.specs.Reaches.{reach_in}
use Rattle.dav_fields_core.specs.RequestRefusals.{IsLastMoment}
use Rattle.dav_session_core.specs.Callers.{Caller, live}
use Rattle.dav_session_core.specs.Ends.{HasFolder}
use Rattle.dav_session_core.specs.Granting.{granted_lock, with_lock}
use Rattle.dav_session_core.specs.LocksInTheWay.{IsPathOfOne}
use Rattle.dav_documents_core.specs.LockDocuments.{discovery_pieces}
use Rattle.dav_documents_core.specs.LockInfos.{LockInfo, lock_info_in}
use Rattle.dav_documents_core.specs.Pieces.{written_pieces}
use Rattle.dav_methods_core.specs.ChangeConditions.{change_course}
use Rattle.dav_methods_core.specs.LockMethod.{CantBeRead, FailsToLock, Grants, HasRoom, IsGranted, IsInConflict, IsMadeThere, Wanted, Wants, WantsInTime, lock_sent, refusing_to_make}
use Rattle.dav_methods_core.specs.SameFaults.{shows_refusing_lock}
use Rattle.dav_methods_core.specs.ToldPaths.{told_path}
use Rattle.dav_answers_core.proofs.SameFaultLemmas.{IsShort, both_show, equal_alike, no_lock, one_map_left}
use Rattle.dav_answers_core.proofs.StageLemmas.{AllAlike, InOrder, IsPassed, course_alike, course_passed, order_alike}

-- ---- what is asked for

wanted_once : (most : Option ℕ) (headers : Entries FieldValue) (body : List ℕ) (a b : Wanted)
    → Wants most headers body a → Wants most headers body b → a ≡ b
wanted_once most headers body a b h k =
    let deep = one_some (reach_in headers) a.deep b.deep h.reaches k.reaches in
    let read = one_some (timeouts_in headers) h.timeouts k.timeouts h.read k.read in
    let timeout = h.given ∙ ap (given_of most) read ∙ sym k.given in
    let info = one_some (lock_info_in body) h.info k.info h.asks k.asks in
    let owner = h.owner_is ∙ ap (λ (i : LockInfo). i.owner) info ∙ sym k.owner_is in
    let shared = h.shared_is ∙ ap (λ (i : LockInfo). i.shared) info ∙ sym k.shared_is in
    λ i. record { owner = owner i; timeout = timeout i; shared = shared i; deep = deep i }

-- ---- what is left

-- where a file is made, a folder stands above it
folder_above : (m m' : ResourceMap) (p : Path) (bytes : List ℕ) (now : ℕ) → at_path m p ≡ None
    → put m p bytes now ≡ Ok (tt, m') → HasFolder m (parent p)
folder_above m m' p bytes now none done = by (find_folder m (parent p)) refl
  where
    by : (o : Result Resource FsError) → find_folder m (parent p) ≡ o → HasFolder m (parent p)
    by (Ok f) is = let there = folder_there m (parent p) f is in (f, there.0, there.1)
    by (Err e) is =
        let refused : put m p bytes now ≡ Err e = ap (put_at m p bytes now) none
        ∙ ap (λ (o : Result Resource FsError). o >>= λ (_ : Resource).
        Ok (tt, with_new_entry m p (new_file bytes now))) is in
        let both : ◌≡◌ {A = Outcome (Unit {0})} (Ok (tt, m')) (Err e) = sym done ∙ refused in
        absurd (cc)

nothing_there : {A : Type 0} (m : ResourceMap) (p : Path) → IsSome (at_path m p)
    → at_path m p ≡ None → A
nothing_there m p stands none = absurd (false≢true (sym (ap is_some none) ∙ stands))

map_once : (s : State) (who : Caller) (p : Path) (m n : ResourceMap) → IsMadeThere s who p m
    → IsMadeThere s who p n → m ≡ n
map_once s who p m n (inl h) (inl k) = h.1 ∙ sym k.1
map_once s who p m n (inl h) (inr k) = nothing_there s.map p h.0 k.0
map_once s who p m n (inr h) (inl k) = nothing_there s.map p k.0 h.0
map_once s who p m n (inr h) (inr k) = one_map_left (put s.map p [] who.now) m n h.2 k.2

room_there : (s : State) (who : Caller) (p : Path) (m : ResourceMap) → IsMadeThere s who p m
    → HasRoom s who p
room_there s who p m (inl h) = inl h.0
room_there s who p m (inr h) = inr (h.0, h.1, folder_above s.map m p [] who.now h.0 h.2)

module _ (s : State) (who : Caller) (path : PathText) (a b : Wanted) (same : a ≡ b) (l k : Lock)
    (s' s'' : State) (g : Grants s who path a l s') (h : Grants s who path b k s'') where
  abbrev lock_of : Wanted → Lock
  lock_of w = granted_lock s who (told_path s.map path) w.owner w.timeout w.shared w.deep

  one_lock : l ≡ k
  one_lock = g.lock_is ∙ ap lock_of same ∙ sym h.lock_is

  one_left : live who.now s' ≡ live who.now s''
  one_left =
      g.left ∙ ap (λ x. record (with_lock s x) { map = s'.map }) one_lock
      ∙ ap (λ (m : ResourceMap). record (with_lock s k) { map = m })
      (map_once s who (segments path.bytes) s'.map s''.map g.made h.made)
      ∙ sym h.left

module _ (most : Option ℕ) (prefix : List ℕ) (headers : Entries FieldValue) (body : List ℕ)
    (s : State) (who : Caller) (path : PathText) where
  abbrev told : Lock → Sent
  told l = lock_sent l.token (written_pieces (discovery_pieces prefix who.principal who.now
      (discovered_locks (s.locks ++ l ∷ []) (segments path.bytes))))

  pub grants_once : (status other : ℕ) (sent also : Sent) (s' s'' : State)
      → IsGranted most prefix headers body s who path status sent s'
      → IsGranted most prefix headers body s who path other also s''
      → (status ≡ other) × (sent ≡ also) × (live who.now s' ≡ live who.now s'')
  grants_once status other sent also s' s'' h k =
      let same = wanted_once most headers body h.wanted k.wanted h.wants k.wants in (
        h.status_is ∙ sym k.status_is,
        h.tells ∙ ap told (one_lock s who path h.wanted k.wanted same h.lock k.lock s' s'' h.grants
            k.grants) ∙ sym k.tells,
        one_left s who path h.wanted k.wanted same h.lock k.lock s' s'' h.grants k.grants,
      )

-- ---- refusals, in their order

module _ (most : Option ℕ) (headers : Entries FieldValue) (body : List ℕ) (s : State)
    (who : Caller) (path : PathText) where
  abbrev p : Path
  p = segments path.bytes

  abbrev locks : List Lock
  locks = refusing_to_make s who p

  abbrev course : Result (Unit {0}) Fault
  course = change_course method.Lock s.map p headers

  abbrev Asks : Type 0
  Asks = (wanted : Wanted) × Wants most headers body wanted

  abbrev InTime : Type 0
  InTime = ¬ IsLastMoment who.now

  abbrev Unread : Fault → Type 0
  Unread e = IsShort e ⊎ ((e ≡ fault.BadRequest) × CantBeRead headers body)

  abbrev Late : Fault → Type 0
  Late e = (e ≡ fault.ServiceUnavailable) × IsLastMoment who.now

  record IsKeptOut (e : Fault) : Type 0 where
    nothing : at_path s.map p ≡ None
    at : PathText
    is : e ≡ fault.Locked at
    of_one : IsPathOfOne locks at

  record IsHigh (e : Fault) : Type 0 where
    nothing : at_path s.map p ≡ None
    is : e ≡ fault.Conflict
    free : locks ≡ []
    no_folder : ¬ HasFolder s.map (parent p)

  abbrev Roomless : Fault → Type 0
  Roomless e = IsKeptOut e ⊎ IsHigh e

  record IsConflicting (e : Fault) : Type 0 where
    shows : shows_refusing_lock e ≡ Some false
    wanted : Wanted
    wants : Wants most headers body wanted
    at : PathText
    conflict : IsInConflict s p wanted at

  abbrev Stopped : Fault → Type 0
  Stopped e = InOrder (λ e. course ≡ Err e) (course ≡ Ok tt) IsConflicting e

  abbrev Behind : Fault → Type 0
  Behind e = InOrder Roomless (HasRoom s who p) Stopped e

  abbrev Timed : Fault → Type 0
  Timed e = InOrder Late InTime Behind e

  abbrev Why : Fault → Type 0
  Why e = InOrder Unread Asks Timed e

  behind : (wanted : Wanted) → WantsInTime most headers body who.now wanted → (e : Fault)
      → Behind e → Why e
  behind wanted wants e h = inr ((wanted, wants.0), inr (wants.1, h))

  conflicting : (e : Fault) (wanted : Wanted) (at : PathText)
      → shows_refusing_lock e ≡ Some false → WantsInTime most headers body who.now wanted
      → HasRoom s who p → course ≡ Ok tt → IsInConflict s p wanted at → Why e
  conflicting e wanted at shows wants room lets of_one =
      behind wanted wants e (inr (
        room,
        inr (
          lets,
          record {
            shows = shows;
            wanted = wanted;
            wants = wants.0;
            at = at;
            conflict = of_one;
          },
        ),
      ))

  why : (e : Fault) → FailsToLock most headers body s who path e → Why e
  why _ FailsToLock.memory = inl (inl refl)
  why _ (FailsToLock.unread h) = inl (inr (refl, h))
  why _ (FailsToLock.moment wanted wants last) = inr ((wanted, wants), inl (refl, last))
  why _ (FailsToLock.above wanted at wants none of_one) =
      behind wanted wants (fault.Locked at)
      (inl (inl (record { nothing = none; at = at; is = refl; of_one = of_one })))
  why _ (FailsToLock.nowhere wanted wants none free no_folder) =
      behind wanted wants fault.Conflict (inl (inr
      (record { nothing = none; is = refl; free = free; no_folder = no_folder })))
  why _ (FailsToLock.course e wanted wants room stops) =
      behind wanted wants e (inr (room, inl stops))
  why _ (FailsToLock.conflict wanted at wants room lets of_one apart) =
      conflicting (fault.ConflictingLock at) wanted at refl wants room lets of_one
  why _ (FailsToLock.member wanted at wants room lets of_one below) =
      conflicting (fault.ConflictingMember at (told_path s.map path)) wanted at refl wants room lets
      of_one

  -- ---- two at one place

  unread_alike : AllAlike Unread
  unread_alike e f (inl h) k = inl h
  unread_alike e f (inr h) (inl k) = inr (inl k)
  unread_alike e f (inr h) (inr k) = equal_alike e f (h.0 ∙ sym k.0)

  unread_passed : IsPassed Unread Asks
  unread_passed e (inl h) asks = h
  unread_passed e (inr (is, inl h)) (wanted, wants) =
      none_some (reach_in headers) wanted.deep h wants.reaches
  unread_passed e (inr (is, inr (inl h))) (wanted, wants) =
      none_some (timeouts_in headers) wants.timeouts h wants.read
  unread_passed e (inr (is, inr (inr h))) (wanted, wants) =
      none_some (lock_info_in body) wants.info h wants.asks

  late_alike : AllAlike Late
  late_alike e f h k = equal_alike e f (h.0 ∙ sym k.0)

  late_passed : IsPassed Late InTime
  late_passed e h early = absurd (early h.1)

  roomless_alike : AllAlike Roomless
  roomless_alike e f (inl h) (inl k) = both_show e f h.at k.at h.is k.is
  roomless_alike e f (inl h) (inr k) = no_lock locks h.at h.of_one k.free
  roomless_alike e f (inr h) (inl k) = no_lock locks k.at k.of_one h.free
  roomless_alike e f (inr h) (inr k) = equal_alike e f (h.is ∙ sym k.is)

  roomless_passed : IsPassed Roomless (HasRoom s who p)
  roomless_passed e (inl h) (inl stands) = nothing_there s.map p stands h.nothing
  roomless_passed e (inl h) (inr k) = no_lock locks h.at h.of_one k.1
  roomless_passed e (inr h) (inl stands) = nothing_there s.map p stands h.nothing
  roomless_passed e (inr h) (inr k) = absurd (h.no_folder k.2)

  conflicts_alike : AllAlike IsConflicting
  conflicts_alike e f h k = inr (inr (inr (ap is_some h.shows, h.shows ∙ sym k.shows)))

  -- ---- all of them

  stopped_alike : AllAlike Stopped
  stopped_alike = order_alike (λ e. course ≡ Err e) IsConflicting (course ≡ Ok tt)
      (course_alike course) (course_passed course) conflicts_alike

  behind_alike : AllAlike Behind
  behind_alike = order_alike Roomless Stopped (HasRoom s who p) roomless_alike roomless_passed
      stopped_alike

  timed_alike : AllAlike Timed
  timed_alike = order_alike Late Behind InTime late_alike late_passed behind_alike

  why_alike : AllAlike Why
  why_alike = order_alike Unread Timed Asks unread_alike unread_passed timed_alike

  pub lock_refusals_alike : AllAlike (FailsToLock most headers body s who path)
  lock_refusals_alike e f h k = why_alike e f (why e h) (why f k)

  -- ---- a lock that is granted

  module _ (prefix : List ℕ) (status : ℕ) (sent : Sent) (s' : State)
      (g : IsGranted most prefix headers body s who path status sent s') where
    free_of : (wanted : Wanted) → wanted ≡ g.wanted
        → lock_conflicts s.locks p wanted.shared wanted.deep ≡ []
    free_of wanted same =
        ap (λ (w : Wanted). lock_conflicts s.locks p w.shared w.deep) same ∙ g.grants.free

    conflicts_not : (e : Fault) → IsConflicting e → IsShort e
    conflicts_not e h =
        no_lock (lock_conflicts s.locks p h.wanted.shared h.wanted.deep) h.at h.conflict
        (free_of h.wanted (wanted_once most headers body h.wanted g.wanted h.wants g.wants))

    stopped_not : (e : Fault) → Stopped e → IsShort e
    stopped_not e (inl h) = course_passed course e h g.course
    stopped_not e (inr h) = conflicts_not e h.1

    behind_not : (e : Fault) → Behind e → IsShort e
    behind_not e (inl h) = roomless_passed e h (room_there s who p s'.map g.grants.made)
    behind_not e (inr h) = stopped_not e h.1

    timed_not : (e : Fault) → Timed e → IsShort e
    timed_not e (inl h) = late_passed e h g.in_time
    timed_not e (inr h) = behind_not e h.1

    pub grants_or_not : (e : Fault) → FailsToLock most headers body s who path e → IsShort e
    grants_or_not e h = by (why e h)
      where
        by : Why e → IsShort e
        by (inl k) = unread_passed e k (g.wanted, g.wants)
        by (inr k) = timed_not e k.1
