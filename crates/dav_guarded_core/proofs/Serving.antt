-- What a refused check, and a refused call on locks or on files, are in a step.
use Rattle.std.proofs.Common.{◌≡◌, inl, inr, ℕ, Bool, true, List, [], ◌∷◌, ◌++◌, Option, Result, Ok, Err, refl, sym, ap, ◌∙◌, subst, append-nil, append_assoc}
use Rattle.std.specs.Prelude.{Contains, IsOk}
use Rattle.std.proofs.lemmas.Bool.{false≢true}
use Rattle.std.proofs.lemmas.List.Elements.{Contains-append_left}
use Rattle.dav_path_core.proofs.lists.MemberLemmas.{append_none}
use Rattle.dav_path_core.specs.StoreAnswers.{AnswersAs, AnswersWithRoom, Refused}
use Rattle.dav_path_core.specs.declared.errors.FsError.{FsError}
use Rattle.dav_path_core.specs.Fronts.{Path}
use Rattle.dav_path_core.specs.PathText.{PathText}
use Rattle.dav_path_core.specs.Segments.{segments}
use Rattle.dav_files_core.specs.Describing.{metadata}
use Rattle.dav_files_core.specs.Finding.{find}
use Rattle.dav_files_core.specs.Meta.{meta_at}
use Rattle.dav_files_core.specs.Outcomes.{Outcome, ◌>>=◌, with_other_node}
use Rattle.dav_files_core.specs.Properties.{patch_answers, patch_props, patched_properties}
use Rattle.dav_files_core.specs.Resources.{Property, Resource, ResourceMap}
use Rattle.dav_locks_core.specs.Lock.{Lock}
use Rattle.dav_locks_core.specs.Locks.{LockCaller, check_conflicts, lock_conflicts}
use Rattle.dav_locks_core.specs.Calls.{Shows, ShowsOnly}
use Rattle.dav_locks_core.specs.declared.ls.LockError.{LockError}
use Rattle.dav_locks_core.specs.declared.ls.LockError.TheVariants.{Conflict, OutOfMemory as NoRoom}
use Rattle.dav_guarded_core.specs.declared.guarded.requests.Reply.{Reply}
use Rattle.dav_guarded_core.specs.declared.guarded.requests.Refusal.{Refusal}
use Rattle.dav_guarded_core.specs.declared.guarded.requests.Refusal.TheVariants.{Fs, Locked, NoLock, OutOfMemory}
use Rattle.dav_guarded_core.specs.Requests as plain
use Rattle.dav_guarded_core.specs.Checks.{Check, refusing, reach_check, MayLack}
use Rattle.dav_guarded_core.specs.ResourceStep.{Does, DoesAs, changes, patches, tells, takes_map_memory, takes_memory_early, MayLackOnMap}
use Rattle.dav_guarded_core.specs.Step.{State, Same, Serves}
use Rattle.dav_guarded_core.specs.Served.{refusal_of}
use Rattle.dav_guarded_core.specs.Private.RequestServing.{refused_by, with_nothing, DoesOnMap, RefusedBy}

-- ---- checks

-- a refused check of one path
pub refused_path : (locks : List Lock) (who : LockCaller) (p : Path) (deep : Bool) (e : LockError) (x : Refusal) → x ≡ refused_by e → ShowsOnly (check_conflicts locks p deep who) e
    → RefusedBy locks who (reach_check p deep ∷ []) x
refused_path locks who p deep (Conflict lock) x is shown = rw is (subst (λ zs. Contains zs lock) (sym (append-nil (check_conflicts locks p deep who))) shown)
refused_path locks who p deep NoRoom x is shown = rw is (λ none. shown (sym (append-nil (check_conflicts locks p deep who)) ∙ none))

refusing-append : (locks : List Lock) (who : LockCaller) (ks ls : List Check) → refusing locks who (ks ++ ls) ≡ refusing locks who ks ++ refusing locks who ls
refusing-append locks who [] ls = refl
refusing-append locks who (k ∷ ks) ls =
    let first : List Lock = check_conflicts locks k.path k.deep who in
    ap (λ zs. first ++ zs) (refusing-append locks who ks ls) ∙ sym (append_assoc first (refusing locks who ks) (refusing locks who ls))

lack_more : (locks : List Lock) (who : LockCaller) (ks ls : List Check) → MayLack locks who ks → MayLack locks who (ks ++ ls)
lack_more locks who ks ls h none = h (append_none (refusing locks who ks) (refusing locks who ls) (sym (refusing-append locks who ks ls) ∙ none)).0

-- what refuses the first checks refuses them all
pub refused_more : (locks : List Lock) (who : LockCaller) (ks ls : List Check) (e : Refusal) → RefusedBy locks who ks e → RefusedBy locks who (ks ++ ls) e
refused_more locks who ks ls (Locked lock) h =
    subst (λ zs. Contains zs lock) (sym (refusing-append locks who ks ls)) (Contains-append_left (refusing locks who ks) (refusing locks who ls) lock h)
refused_more locks who ks ls OutOfMemory h = lack_more locks who ks ls h
refused_more locks who ks ls (Fs e) h = absurd h
refused_more locks who ks ls NoLock h = absurd h

refusing-rest : (locks : List Lock) (who : LockCaller) (ks ls : List Check) → refusing locks who ks ≡ [] → refusing locks who (ks ++ ls) ≡ refusing locks who ls
refusing-rest locks who ks ls none = refusing-append locks who ks ls ∙ ap (λ zs. zs ++ refusing locks who ls) none

-- where none refuses the first checks, what refuses the others refuses them all
pub refused_later : (locks : List Lock) (who : LockCaller) (ks ls : List Check) (e : Refusal) → refusing locks who ks ≡ [] → RefusedBy locks who ls e → RefusedBy locks who (ks ++ ls) e
refused_later locks who ks ls (Locked lock) none h = subst (λ zs. Contains zs lock) (sym (refusing-rest locks who ks ls none)) h
refused_later locks who ks ls OutOfMemory none h = λ all. h (sym (refusing-rest locks who ks ls none) ∙ all)
refused_later locks who ks ls (Fs e) none h = absurd h
refused_later locks who ks ls NoLock none h = absurd h

-- ---- locks

-- a refused lock
pub refused_lock : (s s' : State) (r : plain.Request) (path : PathText) (owner : Option (List ℕ)) (timeout : Option ℕ) (shared deep : Bool) (e : LockError) (x : Refusal)
    → x ≡ refused_by e → r.command ≡ plain.Command.Lock path owner timeout shared deep
    → Shows (lock_conflicts s.locks (segments path.bytes) shared deep) e → Same s s' → Serves s r (Err (refusal_of x)) s'
refused_lock s s' r path owner timeout shared deep (Conflict lock) x is c shown same = rw (is, c) (shown, same)
refused_lock s s' r path owner timeout shared deep NoRoom x is c shown same = rw (is, c) (tt, same)

-- ---- the map

-- what is done where nothing on the map refuses
change_done : (f : Outcome (Unit {0})) → IsOk f → (reply : plain.Reply) × (n : ResourceMap) × (changes f ≡ Ok (reply, n))
change_done (Ok x) is = (plain.Done, x.1, refl)
change_done (Err e) is = absurd (false≢true is)

patch_done : (f : Outcome (List (ℕ × Property))) → IsOk f → (reply : plain.Reply) × (n : ResourceMap) × (patches f ≡ Ok (reply, n))
patch_done (Ok x) is = (plain.Patched x.0, x.1, refl)
patch_done (Err e) is = absurd (false≢true is)

tell_done : {A : Type 0} (m : ResourceMap) (tell : A → plain.Reply) (f : Result A FsError) → IsOk f → (reply : plain.Reply) × (n : ResourceMap) × (tells m tell f ≡ Ok (reply, n))
tell_done m tell (Ok x) is = (tell x, m, refl)
tell_done m tell (Err e) is = absurd (false≢true is)

-- what the answer of a call on files is as that of a command
module _ (m m' : ResourceMap) (c : plain.Command) (now : ℕ) where
  abbrev DoesSo : Outcome plain.Reply → Type 0
  DoesSo outcome = (r : Result plain.Reply FsError) (n : ResourceMap) → DoesAs outcome m r n → Does m c now r n

  -- a change
  pub change_answer : (f : Outcome (Unit {0})) → DoesSo (changes f) → takes_map_memory c ≡ true → (x : Result (Unit {0}) FsError) (result : Result Reply FsError) → result ≡ with_nothing x
      → AnswersAs (λ _. tt {0}) x f m m' → DoesOnMap m c now result m'
  unfolding MayLackOnMap
  change_answer f to takes x result is h = subst (λ r. DoesOnMap m c now r m') (sym is) (by x h)
    where
      by : (x : Result (Unit {0}) FsError) → AnswersAs (λ _. tt {0}) x f m m' → DoesOnMap m c now (with_nothing x) m'
      by (Ok y) h = to (Ok plain.Done) m' (ap changes h)
      by (Err e) h = (
        h.0,
        elim h.1 [
          | inl lacks ↦ let done = change_done f lacks.1 in inl (lacks.0, (takes, inr (done.0, done.1, to (Ok done.0) done.1 done.2)))
          | inr refused ↦ inr (to (Err e) m (ap changes refused, refl))
        ],
      )

  -- the same of a change that takes memory early
  pub early_answer : (f : Outcome (Unit {0})) → DoesSo (changes f) → takes_map_memory c ≡ true → takes_memory_early c ≡ true → (x : Result (Unit {0}) FsError) (result : Result Reply FsError)
      → result ≡ with_nothing x → AnswersWithRoom (λ _. tt {0}) x f m m' → DoesOnMap m c now result m'
  unfolding MayLackOnMap
  early_answer f to takes early x result is h = subst (λ r. DoesOnMap m c now r m') (sym is) (by x h)
    where
      by : (x : Result (Unit {0}) FsError) → AnswersWithRoom (λ _. tt {0}) x f m m' → DoesOnMap m c now (with_nothing x) m'
      by (Ok y) h = to (Ok plain.Done) m' (ap changes h)
      by (Err e) h = (
        h.0,
        elim h.1 [
          | inl lacks ↦ inl (lacks, (takes, inl early))
          | inr refused ↦ inr (to (Err e) m (ap changes refused, refl))
        ],
      )

  -- a refusal of a call that changes nothing
  pub tell_refused : {A : Type 0} (tell : A → plain.Reply) (f : Result A FsError) → DoesSo (tells m tell f) → takes_map_memory c ≡ true → (e : FsError) (result : Result Reply FsError) → result ≡ Err e
      → m' ≡ m → Refused f e → DoesOnMap m c now result m'
  unfolding MayLackOnMap
  tell_refused tell f to takes e result is same h = subst (λ r. DoesOnMap m c now r m') (sym is) (
    same,
    elim h [
      | inl lacks ↦ let done = tell_done m tell f lacks.1 in inl (lacks.0, (takes, inr (done.0, done.1, to (Ok done.0) done.1 done.2)))
      | inr refused ↦ inr (to (Err e) m (ap (tells m tell) refused, refl))
    ],
  )

  -- a refused patch
  pub patch_refused : (f : Outcome (List (ℕ × Property))) → DoesSo (patches f) → takes_map_memory c ≡ true → (e : FsError) (result : Result Reply FsError) → result ≡ Err e
      → m' ≡ m → Refused f e → DoesOnMap m c now result m'
  unfolding MayLackOnMap
  patch_refused f to takes e result is same h = subst (λ r. DoesOnMap m c now r m') (sym is) (
    same,
    elim h [
      | inl lacks ↦ let done = patch_done f lacks.1 in inl (lacks.0, (takes, inr (done.0, done.1, to (Ok done.0) done.1 done.2)))
      | inr refused ↦ inr (to (Err e) m (ap patches refused, refl))
    ],
  )

-- a patch goes through where something stands at the path
pub patch_there : (m : ResourceMap) (p : Path) (patch : List (Bool × Property)) → IsOk (metadata m p) → IsOk (patch_props m p patch)
patch_there m p patch h = by (find m p) h
  where
    patched_at : Resource → Outcome (List (ℕ × Property))
    patched_at r = Ok (patch_answers patch, with_other_node m p r (record r.node { props = patched_properties r.node.props patch }))

    by : (o : Result Resource FsError) → IsOk (o >>= λ (r : Resource). Ok (meta_at r.node)) → IsOk (o >>= patched_at)
    by (Ok r) h = refl
    by (Err e) h = absurd (false≢true h)
