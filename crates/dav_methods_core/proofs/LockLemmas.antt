-- What a LOCK with a body leaves, and why it is refused.
use Rattle.std.proofs.Common.{◌≡◌, ◌⊎◌, inl, inr, ℕ, ◌+◌, ◌*◌, ◌-◌, ◌^◌, ◌<◌, Bool, true, false, not, cond, List, [], ◌∷◌, ◌++◌, Option, Some, None, Ok, Err, refl, sym, ◌∙◌, ap, subst, arith}
use Rattle.std.specs.Prelude.{min, max, option_map, IsSome, is_some, if◌then◌else◌}
use Rattle.std.proofs.lemmas.Bool.{cases_Bool, lt-leb, true≢false}
use Rattle.std.proofs.lemmas.Bool.Decides.{nat_tests}
use Rattle.std.proofs.lemmas.List.Elements.{filter-append}
use Rattle.std.proofs.Math.Nat.{le-max_right}
use Rattle.http_header.specs.FieldValue.{FieldValue}
use Rattle.http_header.specs.HeaderMap.{Entries}
use Rattle.dav_path_core.specs.declared.util.DavMethod.TheVariants as method
use Rattle.dav_path_core.specs.Fronts.{Path, parent}
use Rattle.dav_path_core.specs.PathText.{PathText}
use Rattle.dav_path_core.specs.Segments.{segments}
use Rattle.dav_headers_core.specs.declared.davheaders.timeouts.DavTimeout.{DavTimeout}
use Rattle.dav_headers_core.specs.declared.davheaders.timeouts.DavTimeout.TheVariants.{Seconds, Infinite}
use Rattle.dav_files_core.specs.Meta.{Meta as Known, meta_at}
use Rattle.dav_files_core.specs.ResourcePutting.{put}
use Rattle.dav_files_core.specs.declared.memfs.Kind.TheVariants.{Folder}
use Rattle.dav_files_core.specs.Resources.{Resource, at_path}
use Rattle.dav_locks_core.specs.Lock.{Lock}
use Rattle.dav_locks_core.specs.Locks.{discovered_locks, end_of, lock_conflicts, lock_path}
use Rattle.dav_locks_core.specs.Stale.{has_come, is_stale, without_stale}
use Rattle.dav_guarded_core.specs.Requests.{Command, Refusal, Reply}
use Rattle.dav_guarded_core.specs.Step.{Serves, State}
use Rattle.dav_guarded_core.proofs.Frame.{change_left}
use Rattle.dav_faults_core.specs.declared.faults.Fault.{Fault}
use Rattle.dav_faults_core.specs.declared.faults.Fault.TheVariants as fault
use Rattle.dav_session_core.specs.Callers.{Caller, SameLive, asking, live, refusing_at}
use Rattle.dav_session_core.specs.Ends.{HasFolder}
use Rattle.dav_fields_core.specs.Fields.{Sent}
use Rattle.dav_fields_core.specs.Marking.{IsNone}
use Rattle.dav_session_core.specs.Granting.{AreAbove, HaveTokens, IsConflictOf, also_naming, granted_lock, stands_above, with_lock, with_token_drawn}
use Rattle.dav_fields_core.specs.IfTokens.{is_among}
use Rattle.dav_documents_core.specs.LockDocuments.{discovery_pieces}
use Rattle.dav_fields_core.specs.LockTimeouts.{can_be_given, given_of, seconds_of}
use Rattle.dav_methods_core.specs.ChangeConditions.{change_course}
use Rattle.dav_methods_core.specs.ToldPaths.{told_path}
use Rattle.dav_methods_core.specs.LockMethod.{CantBeRead, FailsToLock, Grants, HasRoom, IsGranted, IsInConflict, IsMadeThere, LeavesUntold, Wanted, Wants, WantsInTime, lock_sent, lock_status, refusing_to_make}
use Rattle.dav_documents_core.specs.Pieces.{written_pieces}
use Rattle.dav_session_core.specs.StoreRefusals.{put_fault}
use Rattle.dav_session_core.specs.LocksInTheWay.{IsPathOfOne, IsRefusedBy, is_lock_below}
use Rattle.dav_methods_core.specs.Rooms.{FoundRoom, IsConflictAt, IsGrantedNow, IsMadeUnder, IsReadyToLock, IsUnmade, LacksRoom, conflict_at}
use Rattle.dav_fields_core.specs.RequestRefusals.{IsLastMoment}
use Rattle.dav_path_core.proofs.lists.MemberLemmas.{append_none}
use Rattle.dav_session_core.proofs.Asking.{live_once}
use Rattle.dav_session_core.proofs.PutLemmas.{rebuilt}
use Rattle.dav_methods_core.proofs.ToldPathLemmas.{told_twice, segments_told}
use Rattle.dav_methods_core.proofs.UnderLockLemmas.{memory_alone}

-- ---- a lock doesn't end at once

asked_positive : (most : Option ℕ) (wanted : DavTimeout) (n : ℕ) → can_be_given most wanted ≡ true → seconds_of wanted ≡ Some n → 0 < n
asked_positive None (Seconds m) n can is = let same : m ≡ n = cc in grind (arith, nat_tests)
asked_positive (Some most) (Seconds m) n can is = let same : m ≡ n = cc in grind (arith, nat_tests)
asked_positive None Infinite n can is = absurd (cc)
asked_positive (Some most) Infinite n can is = absurd (cc)

given_positive : (most : Option ℕ) (wanted : List DavTimeout) (n : ℕ) → given_of most wanted ≡ Some n → 0 < n
given_positive None [] n is = absurd (cc)
given_positive (Some most) [] n is = let same : max most 1 ≡ n = cc in omega (arith, same, le-max_right most 1)
given_positive most (wanted ∷ others) n is = elim (cases_Bool (can_be_given most wanted)) [
  | inl can ↦ asked_positive most wanted n can (ap (λ b. cond b (seconds_of wanted) (given_of most others)) (sym can) ∙ is)
  | inr cannot ↦ given_positive most others n (ap (λ b. cond b (seconds_of wanted) (given_of most others)) (sym cannot) ∙ is)
]

not_come : (now : ℕ) (timeout : Option ℕ) → now < 2 ^ 64 - 1 → ((n : ℕ) → timeout ≡ Some n → 0 < n) → has_come now (end_of now timeout) ≡ false
not_come now None early some = refl
not_come now (Some n) early some =
    let at_least : 0 < n = some n refl in
    lt-leb (min (now + n * 1000000000) 18446744073709551615) now (grind (arith, nat_tests))

pub lasts : (s : State) (who : Caller) (path : PathText) (owner : Option (List ℕ)) (timeout : Option ℕ) (shared deep : Bool) (most : Option ℕ) (wanted : List DavTimeout)
    → who.now < 2 ^ 64 - 1 → timeout ≡ given_of most wanted → is_stale who.now (granted_lock s who path owner timeout shared deep) ≡ false
lasts s who path owner timeout shared deep most wanted early is = not_come who.now timeout early (λ n some. given_positive most wanted n (sym is ∙ some))

-- the moment before the last is early enough
pub not_last : (now n : ℕ) → n < 2 ^ 64 - 1 → n ≡ now → ¬ IsLastMoment now
not_last now n early is last = omega (arith, early, is, last)

-- so no lock has expired once it is granted
pub lock_stays : (now : ℕ) (s : State) (l : Lock) → live now s ≡ s → is_stale now l ≡ false → live now (with_lock s l) ≡ with_lock s l
lock_stays now s l once fresh =
    let last : without_stale now (l ∷ []) ≡ l ∷ [] = rw fresh refl in
    let all : without_stale now (s.locks ++ l ∷ []) ≡ s.locks ++ l ∷ [] =
    filter-append (λ l. not (is_stale now l)) s.locks (l ∷ []) ∙ ap (λ locks. locks ++ without_stale now (l ∷ [])) (ap (λ (t : State). t.locks) once) ∙ ap (λ locks. s.locks ++ locks) last in
    ap (λ locks. record (with_lock s l) { locks = locks }) all

-- ---- what keeps a file from being made

-- nothing keeps the folder above from being changed, where nothing keeps a file from being made in it
pub above_free : (s : State) (who : Caller) (p : Path) → refusing_to_make s who p ≡ [] → refusing_at s who (parent p) ≡ []
above_free s who p free =
    (append_none (refusing_at s who (parent p)) [] (append_none (refusing_at s who p) (refusing_at s who (parent p) ++ []) free).1).0

-- and nothing the path itself
pub there_free : (s : State) (who : Caller) (p : Path) → refusing_to_make s who p ≡ []
    → refusing_at s who p ≡ []
there_free s who p free =
    (append_none (refusing_at s who p) (refusing_at s who (parent p) ++ []) free).0

-- ---- what is left

module _ (s : State) (who : Caller) (path : PathText) (wanted : Wanted) (lock : Lock) (once : live who.now s ≡ s)
    (kept : told_path s.map path ≡ path) (is : lock ≡ granted_lock s who path wanted.owner wanted.timeout wanted.shared wanted.deep)
    (free : lock_conflicts s.locks (segments path.bytes) wanted.shared wanted.deep ≡ []) (fresh : is_stale who.now lock ≡ false) where
  abbrev p : Path
  p = segments path.bytes

  is_kept : lock ≡ granted_lock s who (told_path s.map path) wanted.owner wanted.timeout wanted.shared wanted.deep
  is_kept = is ∙ ap (λ (q : PathText). granted_lock s who q wanted.owner wanted.timeout wanted.shared wanted.deep) (sym kept)

  stays : live who.now (with_lock s lock) ≡ with_lock s lock
  stays = lock_stays who.now s lock once fresh

  -- all as it was but for the lock
  pub grants_there : (mid s' : State) → live who.now mid ≡ with_lock s lock → IsSome (at_path s.map p) → SameLive who.now mid s' → Grants s who path wanted lock s'
  grants_there mid s' granted here same =
      let left = same ∙ granted in
      let map_is : s'.map ≡ s.map = ap (λ (t : State). t.map) left in
      record {
        lock_is = is_kept;
        free = free;
        made = inl (here, map_is);
        left = left ∙ ap (λ m. record (with_lock s lock) { map = m }) (sym map_is);
      }

  -- and but for an empty file
  pub grants_made : (mid s' : State) (reply : Reply) → live who.now mid ≡ with_lock s lock → at_path s.map p ≡ None → refusing_to_make s who p ≡ []
      → Serves (live who.now mid) (asking (also_naming who lock.token) (Command.Put p [])) (Ok reply) s' → Grants s who path wanted lock s'
  grants_made mid s' reply granted nothing above serves =
      let h = subst (λ t. Serves t (asking (also_naming who lock.token) (Command.Put p [])) (Ok reply) s') granted serves in
      let left : s' ≡ record (with_lock s lock) { map = s'.map } = rebuilt (with_lock s lock) s' h.1.1 in
      record {
        lock_is = is_kept;
        free = free;
        made = inr (nothing, above, change_left (put s.map p [] who.now) reply s'.map h.1.0);
        left = ap (live who.now) left ∙ ap (λ (t : State). record t { map = s'.map }) stays;
      }

  pub grants_by : (mid s' : State) (missing : Bool) → live who.now mid ≡ with_lock s lock → FoundRoom s who p missing → IsMadeUnder mid who lock.token p missing s'
      → Grants s who path wanted lock s'
  grants_by mid s' false granted room made = grants_there mid s' granted room made
  grants_by mid s' true granted room made = grants_made mid s' made.0 granted room.0 room.1 made.1

  -- memory alone is lacking then
  pub lacks_memory : (mid s' : State) (missing : Bool) (e : Fault) → live who.now mid ≡ with_lock s lock → FoundRoom s who p missing → IsUnmade mid who lock.token p missing e s'
      → e ≡ fault.InsufficientStorage
  lacks_memory mid s' missing e granted room (inl short) = short
  lacks_memory mid s' false e granted room (inr h) = absurd (true≢false (sym h.0))
  lacks_memory mid s' true e granted room (inr h) =
      let served = subst (λ t. Serves t (asking (also_naming who lock.token) (Command.Put p [])) (Err h.1.0) s') granted h.1.2 in
      h.1.1 ∙ memory_alone s who p lock (ap (λ (l : Lock). lock_path l) is) (ap (λ (l : Lock). l.principal) is)
      (subst (λ (l : Lock). lock_conflicts s.locks p l.shared l.deep ≡ []) (sym is) free) room.0 (above_free s who p room.1) room.2 s' h.1.0 served

-- ---- what is told

abbrev told_status : Bool → ℕ
told_status there = if there then 200 else 201

status_by : (s : State) (q : Path) (missing : Bool) (who : Caller) → FoundRoom s who q missing → (if missing then 201 else 200) ≡ lock_status s.map q
status_by s q false who room = sym (ap told_status room)
status_by s q true who room = sym (ap (λ (o : Option Resource). told_status (is_some o)) room.0)

-- ---- refusals

module _ (most : Option ℕ) (headers : Entries FieldValue) (body : List ℕ) (s : State) (who : Caller) (path : PathText) where
  pub unread_by : (e : Fault) → (e ≡ fault.InsufficientStorage) ⊎ ((e ≡ fault.BadRequest) × CantBeRead headers body) → FailsToLock most headers body s who path e
  unread_by e (inl short) = subst (FailsToLock most headers body s who path) (sym short) FailsToLock.memory
  unread_by e (inr h) = subst (FailsToLock most headers body s who path) (sym h.0) (FailsToLock.unread h.1)

  pub memory_by : (e : Fault) → e ≡ fault.InsufficientStorage → FailsToLock most headers body s who path e
  memory_by e short = subst (FailsToLock most headers body s who path) (sym short) FailsToLock.memory

  pub moment_by : (e : Fault) (wanted : Wanted) → Wants most headers body wanted → (e ≡ fault.ServiceUnavailable) × IsLastMoment who.now → FailsToLock most headers body s who path e
  moment_by e wanted wants h = subst (FailsToLock most headers body s who path) (sym h.0) (FailsToLock.moment wanted wants h.1)

  pub room_by : (e : Fault) (wanted : Wanted) → WantsInTime most headers body who.now wanted → LacksRoom s who (segments path.bytes) e → FailsToLock most headers body s who path e
  room_by fault.InsufficientStorage wanted wants h = FailsToLock.memory
  room_by (fault.Locked at) wanted wants h = FailsToLock.above wanted at wants h.0 h.1
  room_by fault.Conflict wanted wants h = FailsToLock.nowhere wanted wants h.0 h.1 (λ folder. h.2 folder.0 folder.1 folder.2)
  room_by _ wanted wants h = absurd h

  has_room : (missing : Bool) → FoundRoom s who (segments path.bytes) missing → HasRoom s who (segments path.bytes)
  has_room false room = inl room
  has_room true room = inr room

  pub course_by : (e : Fault) (wanted : Wanted) (missing : Bool) → WantsInTime most headers body who.now wanted → FoundRoom s who (segments path.bytes) missing
      → (e ≡ fault.InsufficientStorage) ⊎ (change_course method.Lock s.map (segments path.bytes) headers ≡ Err e) → FailsToLock most headers body s who path e
  course_by e wanted missing wants room (inl short) = memory_by e short
  course_by e wanted missing wants room (inr withheld) = FailsToLock.course e wanted wants (has_room missing room) withheld

  module _ (place : PathText) (kept : place ≡ told_path s.map path) where
    pub same_path : segments place.bytes ≡ segments path.bytes
    same_path = ap (λ (q : PathText). segments q.bytes) kept ∙ segments_told path s.map

    grants_at : (wanted : Wanted) (lock : Lock) (s' : State) → Grants s who place wanted lock s' → Grants s who path wanted lock s'
    grants_at wanted lock s' h = record {
      lock_is = h.lock_is ∙ ap (λ (q : PathText). granted_lock s who q wanted.owner wanted.timeout wanted.shared wanted.deep) (ap (told_path s.map) kept ∙ told_twice path s.map);
      free = subst (λ p. lock_conflicts s.locks p wanted.shared wanted.deep ≡ []) same_path h.free;
      made = subst (λ p. IsMadeThere s who p s'.map) same_path h.made;
      left = h.left;
    }

    in_way : (wanted : Wanted) (at : PathText) → IsPathOfOne (lock_conflicts s.locks (segments place.bytes) wanted.shared wanted.deep) at → IsInConflict s (segments path.bytes) wanted at
    in_way wanted at h = subst (λ p. IsInConflict s p wanted at) same_path h

    pub conflict_by : (e : Fault) (wanted : Wanted) (missing : Bool) → WantsInTime most headers body who.now wanted → FoundRoom s who (segments path.bytes) missing
        → change_course method.Lock s.map (segments path.bytes) headers ≡ Ok tt
        → IsConflictAt (lock_conflicts s.locks (segments place.bytes) wanted.shared wanted.deep) place e → FailsToLock most headers body s who path e
    conflict_by fault.InsufficientStorage wanted missing wants room course h = FailsToLock.memory
    conflict_by (fault.ConflictingLock at) wanted missing wants room course h =
        FailsToLock.conflict wanted at wants (has_room missing room) course (in_way wanted at h.0) (subst (λ p. is_lock_below p at ≡ false) same_path h.1)
    conflict_by (fault.ConflictingMember at other) wanted missing wants room course h =
        subst (λ p. FailsToLock most headers body s who path (fault.ConflictingMember at p)) (sym (h.2 ∙ kept))
        (FailsToLock.member wanted at wants (has_room missing room) course (in_way wanted at h.0) (subst (λ p. is_lock_below p at ≡ true) same_path h.1))
    conflict_by _ wanted missing wants room course h = absurd h

    -- ---- what is done

    pub granted_by : (prefix : List ℕ) (wanted : Wanted) (missing : Bool) (lock : Lock) (status : ℕ) (sent : Sent) (s' : State) → WantsInTime most headers body who.now wanted
        → FoundRoom s who (segments path.bytes) missing → change_course method.Lock s.map (segments path.bytes) headers ≡ Ok tt
        → IsGrantedNow prefix s who place wanted missing lock status sent s' → IsGranted most prefix headers body s who path status sent s'
    granted_by prefix wanted missing lock status sent s' wants room course h = record {
      wanted = wanted;
      wants = wants.0;
      in_time = wants.1;
      course = course;
      lock = lock;
      grants = grants_at wanted lock s' h.grants;
      status_is = h.status_is ∙ status_by s (segments path.bytes) missing who room;
      tells = h.tells ∙ ap (λ p. lock_sent lock.token (written_pieces (discovery_pieces prefix who.principal who.now (discovered_locks (s.locks ++ lock ∷ []) p)))) same_path;
    }

-- ---- what is taken back

module _ (s : State) (who : Caller) (p : Path) (once : live who.now s ≡ s) where
  pub back : {Is : Lock → Type 0} (s' : State) → s' ≡ with_token_drawn s → LeavesUntold Is s who p s'
  back s' is = inl (ap (live who.now) is ∙ ap with_token_drawn once)

pub untold_by : {P Q : Lock → Type 0} (s s' : State) (who : Caller) (p : Path) → ((l : Lock) → P l → Q l) → LeavesUntold P s who p s' → LeavesUntold Q s who p s'
untold_by s s' who p weaker (inl left) = inl left
untold_by s s' who p weaker (inr kept) = inr (kept.0, kept.1, kept.2, weaker kept.0 kept.3)

-- ---- what stands there

nothing_at : {A B C : Type 0} (f : A → C) (g : B → C) (known : Option A) (o : Option B) → option_map f known ≡ option_map g o → is_some known ≡ false → o ≡ None
nothing_at f g (Some x) o h none = absurd (true≢false none)
nothing_at f g None (Some y) h none = absurd (cc)
nothing_at f g None None h none = refl

-- nothing does, and a file can be made, by what is looked at one after another
pub room_found : {A : Type 0} (view : A → Known) (known : Option A) (who mid : Caller) (s m m' : State) (p : Path) → option_map view known ≡ option_map (λ (r : Resource). meta_at r.node) (at_path s.map p)
    → is_some known ≡ false → mid ≡ who → SameLive who.now s m → refusing_to_make (live mid.now m) mid p ≡ [] → SameLive mid.now m m' → HasFolder m'.map (parent p)
    → FoundRoom (live who.now s) who p true
room_found view known who mid s m m' p found none same still free still' folder = (
  nothing_at view (λ (r : Resource). meta_at r.node) known (at_path s.map p) found none,
  subst (λ (t : State). refusing_to_make t who p ≡ []) still (subst (λ (w : Caller). refusing_to_make (live w.now m) w p ≡ []) same free),
  subst (λ map. HasFolder map (parent p)) (ap (λ (t : State). t.map) still' ∙ ap (λ (t : State). t.map) still) folder,
)

-- nothing stands there, by what is known
pub nothing_known : {A : Type 0} (view : A → Known) (known : Option A) (s : State) (p : Path) → option_map view known ≡ option_map (λ (r : Resource). meta_at r.node) (at_path s.map p) → is_some known ≡ false
    → at_path s.map p ≡ None
nothing_known view known s p found none = nothing_at view (λ (r : Resource). meta_at r.node) known (at_path s.map p) found none

-- a lock stands in the way of a file there
pub lacks_by_lock : (s : State) (who : Caller) (p : Path) (e : Fault) → at_path s.map p ≡ None → IsRefusedBy (refusing_to_make s who p) e → LacksRoom s who p e
lacks_by_lock s who p fault.InsufficientStorage none h = tt
lacks_by_lock s who p (fault.Locked at) none h = (none, h)
lacks_by_lock s who p _ none h = absurd h

-- no folder stands above
pub lacks_above : (s : State) (who : Caller) (p : Path) (e : Fault) → at_path s.map p ≡ None → refusing_to_make s who p ≡ []
    → (e ≡ fault.InsufficientStorage) ⊎ ((e ≡ fault.Conflict) × IsNone s.map (parent p) Folder) → LacksRoom s who p e
lacks_above s who p e none free (inl short) = subst (LacksRoom s who p) (sym short) tt
lacks_above s who p e none free (inr h) = subst (LacksRoom s who p) (sym h.0) (none, free, h.1)

-- ---- what follows a look of the same caller

pub at_start : (who mid : Caller) (s m : State) (a b : List ℕ) (p q : Path) (Q : State → Caller → List ℕ → Path → Type 0) → mid ≡ who → SameLive who.now s m → b ≡ a → q ≡ p
    → Q (live mid.now m) mid b q → Q (live who.now s) who a p
at_start who mid s m a b p q Q same still token path h =
    subst (Q (live who.now s) who a) path (subst (λ b. Q (live who.now s) who b q) token
    (subst (λ t. Q t who b q) still (subst (λ (w : Caller). Q (live w.now m) w b q) same h)))

pub made_as : (s : State) (who : Caller) (token : List ℕ) (p : Path) (missing : Bool) (s' : State) → missing ≡ true
    → (reply : Reply) × Serves (live who.now s) (asking (also_naming who token) (Command.Put p [])) (Ok reply) s' → IsMadeUnder s who token p missing s'
made_as s who token p true s' is h = h
made_as s who token p false s' is h = absurd (true≢false (sym is))

pub unmade_as : (s : State) (who : Caller) (token : List ℕ) (p : Path) (missing : Bool) (e : Fault) (s' : State) → missing ≡ true
    → (e ≡ fault.InsufficientStorage) ⊎ ((r : Refusal) × (e ≡ put_fault false r) × Serves (live who.now s) (asking (also_naming who token) (Command.Put p [])) (Err r) s')
    → IsUnmade s who token p missing e s'
unmade_as s who token p missing e s' is (inl short) = inl short
unmade_as s who token p missing e s' is (inr h) = inr (is, h)

-- ---- a lock that was granted right before

module _ (s0 mid : State) (who asker : Caller) (path : PathText) (wanted : Wanted) (missing : Bool) (above : List (List ℕ)) (lock : Lock) (same : asker ≡ who)
    (ready : IsReadyToLock (live who.now s0) who path wanted missing above)
    (is : lock ≡ granted_lock (live who.now s0) who path wanted.owner wanted.timeout wanted.shared wanted.deep)
    (left : mid ≡ with_lock (live who.now s0) lock) where
  fresh_now : is_stale who.now lock ≡ false
  fresh_now = ap (is_stale who.now) is ∙ ready.lasts

  still_there : live who.now mid ≡ with_lock (live who.now s0) lock
  still_there = ap (live who.now) left ∙ lock_stays who.now (live who.now s0) lock (live_once who.now s0) fresh_now

  module _ (free : lock_conflicts (live who.now s0).locks (segments path.bytes) wanted.shared wanted.deep ≡ []) (token : List ℕ) (named : token ≡ lock.token) where
    pub granted_now : (prefix : List ℕ) (status : ℕ) (sent : Sent) (s' : State) → status ≡ (if missing then 201 else 200)
        → sent ≡ lock_sent token (written_pieces (discovery_pieces prefix asker.principal asker.now (discovered_locks (live asker.now mid).locks (segments path.bytes))))
        → IsMadeUnder mid asker token (segments path.bytes) missing s' → IsGrantedNow prefix (live who.now s0) who path wanted missing lock status sent s'
    granted_now prefix status sent s' status_is told made =
        let made_by = subst (λ w. IsMadeUnder mid w lock.token (segments path.bytes) missing s') same
        (subst (λ t. IsMadeUnder mid asker t (segments path.bytes) missing s') named made) in
        record {
          grants = grants_by (live who.now s0) who path wanted lock (live_once who.now s0) ready.is_told is free fresh_now mid s' missing still_there ready.room made_by;
          status_is = status_is;
          tells = told ∙ ap (λ t. lock_sent t (written_pieces (discovery_pieces prefix asker.principal asker.now (discovered_locks (live asker.now mid).locks (segments path.bytes))))) named
              ∙ ap (λ (w : Caller). lock_sent lock.token (written_pieces (discovery_pieces prefix w.principal w.now (discovered_locks (live w.now mid).locks (segments path.bytes))))) same
              ∙ ap (λ (t : State). lock_sent lock.token (written_pieces (discovery_pieces prefix who.principal who.now (discovered_locks t.locks (segments path.bytes))))) still_there;
        }

    pub short_of : (e : Fault) (s' : State) → IsUnmade mid asker token (segments path.bytes) missing e s' → e ≡ fault.InsufficientStorage
    short_of e s' unmade =
        lacks_memory (live who.now s0) who path wanted lock (live_once who.now s0) ready.is_told is free fresh_now mid s' missing e still_there ready.room
        (subst (λ w. IsUnmade mid w lock.token (segments path.bytes) missing e s') same
        (subst (λ t. IsUnmade mid asker t (segments path.bytes) missing e s') named unmade))

  -- it is taken back
  pub untold_left : (last : Caller) (fin after : State) (token : List ℕ) → last ≡ asker → SameLive asker.now mid fin → lock.token ≡ token
      → ((s : State) (l : Lock) → live last.now s ≡ s → live last.now fin ≡ with_lock s l → lock_path l ≡ segments path.bytes → l.token ≡ token
      → HaveTokens s (segments path.bytes) above → AreAbove s (segments path.bytes) above → LeavesUntold (λ k. k ≡ l) s last (segments path.bytes) after)
      → LeavesUntold (λ k. k ≡ granted_lock (live who.now s0) who path wanted.owner wanted.timeout wanted.shared wanted.deep) (live who.now s0) who (segments path.bytes) after
  untold_left last fin after token by kept named h =
      let own : last ≡ who = by ∙ same in
      let there : live who.now fin ≡ with_lock (live who.now s0) lock = subst (λ (w : Caller). SameLive w.now mid fin) same kept ∙ still_there in
      untold_by (live who.now s0) after who (segments path.bytes) (λ l same_lock. same_lock ∙ is)
      (subst (λ w. LeavesUntold (λ k. k ≡ lock) (live who.now s0) w (segments path.bytes) after) own
      (h (live who.now s0) lock (ap (λ (w : Caller). live w.now (live who.now s0)) own ∙ live_once who.now s0) (ap (λ (w : Caller). live w.now fin) own ∙ there)
      (ap (λ (l : Lock). lock_path l) is) named ready.have ready.only))

-- a conflict is told as one at the path or above, or below it
pub conflict_placed : (locks : List Lock) (path : PathText) (e : Fault) → IsConflictOf locks e → IsConflictAt locks path (conflict_at path e)
conflict_placed locks path fault.InsufficientStorage h = tt
conflict_placed locks path (fault.ConflictingLock at) h = by (is_lock_below (segments path.bytes) at) refl
  where
    by : (below : Bool) → is_lock_below (segments path.bytes) at ≡ below
        → IsConflictAt locks path (if below then fault.ConflictingMember at path else fault.ConflictingLock at)
    by true is = (h, is, refl)
    by false is = (h, is)
conflict_placed locks path _ h = absurd h

-- no conflict is told where memory is lacking
pub no_conflict_told : (locks : List Lock) (path : PathText) (e : Fault) → e ≡ fault.InsufficientStorage → IsConflictAt locks path e
no_conflict_told locks path e short = subst (IsConflictAt locks path) (sym short) tt
