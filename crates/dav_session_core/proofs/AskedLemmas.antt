-- What requests leave that may lack room for their note: what was not done is a run of no request.
use Rattle.std.proofs.Common.{◌≡◌, ◌⊎◌, inl, inr, ℕ, Bool, true, false, List, [], ◌∷◌, Option, Result, Ok, Err, refl, sym, ◌∙◌, ap, subst}
use Rattle.std.specs.Prelude.{OnErr}
use Rattle.std.proofs.lemmas.Bool.{true≢false}
use Rattle.rand_core.specs.Stream.{Stream}
use Rattle.dav_path_core.specs.Fronts.{Path}
use Rattle.dav_path_core.specs.PathText.{PathText}
use Rattle.dav_path_core.specs.Segments.{segments}
use Rattle.dav_documents_core.specs.PropertyUpdates.{Update}
use Rattle.dav_locks_core.specs.Exclusive.{Exclusive}
use Rattle.dav_locks_core.specs.Lock.{Lock}
use Rattle.dav_locks_core.specs.Locks.{lock_conflicts}
use Rattle.dav_guarded_core.specs.Requests.{Answer, Command, Locked, Refusal, OutOfMemory}
use Rattle.dav_guarded_core.specs.Served.{answer_of, refusal_of}
use Rattle.dav_guarded_core.specs.Step.{Serves, State, Step}
use Rattle.dav_guarded_core.specs.declared.guarded.requests.Refusal as served_refusal
use Rattle.dav_guarded_core.specs.declared.guarded.requests.Reply as served
use Rattle.dav_guarded_core.proofs.StepLaws.{Same-refl}
use Rattle.dav_faults_core.specs.declared.faults.Fault.TheVariants as fault
use Rattle.dav_session_core.specs.declared.session.Session.{Session}
use Rattle.dav_session_core.specs.Callers.{Asked, AskedNaming, Asks, Caller, KeepsApart, RunBy, Runs, SameLive, also_naming, asking, changes_locks, is_look, live}
use Rattle.dav_session_core.specs.Copying.{NotCopied}
use Rattle.dav_session_core.specs.Granting.{IsConflictOf, PutsUnder}
use Rattle.dav_session_core.specs.Moving.{CanMove}
use Rattle.dav_session_core.specs.Patching.{KeepsProperties}
use Rattle.dav_session_core.specs.PatchRefusals.{patch_fault}
use Rattle.dav_session_core.specs.Sessions.{Acts, Looks, Requests, caller, noting, state}
use Rattle.dav_session_core.specs.StoreRefusals.{put_fault}
use Rattle.dav_session_core.proofs.Asking.{asks_one, looks_live, refused_live}
use Rattle.dav_session_core.proofs.CallerLaws.{asks_of, by_none, by_one, grant_apart, keeps_apart, no_runs}
use Rattle.dav_session_core.proofs.GrantLemmas.{conflict_shown}
use Rattle.dav_session_core.proofs.Looking.{look_keeps}
use Rattle.dav_session_core.proofs.MoveLemmas.{move_lacks}
use Rattle.dav_session_core.proofs.PatchLemmas.{not_patched}
use Rattle.dav_session_core.proofs.PutLemmas.{after_look}
use Rattle.dav_session_core.proofs.RefreshLemmas.{refused_run}

-- ---- of states

module _ (who : Caller) (c : Command) (s s' : State) where
  -- what is made is asked
  pub asked_of : (a : Answer) → Step s (asking who c) a s' → Asked s who c a s'
  asked_of (Ok reply) h = h
  asked_of (Err e) h = inl h

  -- a question is always made
  pub asked_looked : (a : Answer) → is_look c ≡ true → Asked s who c a s' → Step s (asking who c) a s'
  asked_looked (Ok reply) look h = h
  asked_looked (Err e) look (inl h) = h
  asked_looked (Err e) look (inr undone) = absurd (true≢false (sym look ∙ undone.changes))

  pub asked_by : (a : Answer) → changes_locks c ≡ false → Asked s who c a s' → RunBy who s s'
  asked_by (Ok reply) keeps h = by_one who s s' c (Ok reply) keeps h
  asked_by (Err e) keeps (inl h) = by_one who s s' c (Err e) keeps h
  asked_by (Err e) keeps (inr undone) = subst (RunBy who s) (sym undone.same) (by_none who s)

  pub asked_all : (a : Answer) → Asked s who c a s' → Asks who s s'
  asked_all (Ok reply) h = asks_one who who s s s' c (Ok reply) refl (by_none who s) h
  asked_all (Err e) (inl h) = asks_one who who s s s' c (Err e) refl (by_none who s) h
  asked_all (Err e) (inr undone) = asks_of who s s' (subst (RunBy who s) (sym undone.same) (by_none who s))

  -- a refusal leaves what a question leaves
  pub unmade_run : (e : Refusal) → Asked s who c (Err e) s' → RunBy who s s'
  unmade_run e (inl h) = refused_run who c [] s s' e h
  unmade_run e (inr undone) = subst (RunBy who s) (sym undone.same) (by_none who s)

  pub unmade_live : (e : Refusal) → Asked s who c (Err e) s' → SameLive who.now s s'
  unmade_live e (inl h) = refused_live who c s s' e h
  unmade_live e (inr undone) = ap (live who.now) undone.same

-- what is refused behind a look
pub behind_look : (who asker : Caller) (s mid s' : State) (c : Command) (e : Refusal) → asker ≡ who → SameLive who.now s mid → Asked mid asker c (Err e) s'
    → Serves (live who.now s) (asking who c) (Err e) s' ⊎ (e ≡ OutOfMemory)
behind_look who asker s mid s' c e same still (inl h) = inl (after_look who asker s mid s' c (Err e) same still h)
behind_look who asker s mid s' c e same still (inr undone) = inr undone.lacks

-- ---- of sessions

module _ {R : Type 0} (stream : R → Stream) (old new : Session R) (c : Command) (who : caller new ≡ caller old) (notes : noting new ≡ noting old) where
  pub asked_acts : (a : Answer) → Asked (state stream old) (caller old) c a (state stream new) → changes_locks c ≡ false → Acts stream old new
  asked_acts a h keeps = record {
    run = asked_by (caller old) c (state stream old) (state stream new) a keeps h;
    who = who;
    noting = notes;
  }

  pub asked_requests : (a : Answer) → Asked (state stream old) (caller old) c a (state stream new) → Requests stream old new
  asked_requests a h = record {
    run = asked_all (caller old) c (state stream old) (state stream new) a h;
    who = who;
    noting = notes;
  }

  pub looked : (a : Answer) → Step (state stream old) (asking (caller old) c) a (state stream new) → is_look c ≡ true → Looks stream old new
  looked a h look = record {
    run = by_one (caller old) (state stream old) (state stream new) c a (look_keeps c look) h;
    live = looks_live (caller old) c (state stream old) (state stream new) a look h;
    who = who;
    noting = notes;
  }

  pub unmade : (e : Refusal) → Asked (state stream old) (caller old) c (Err e) (state stream new) → Looks stream old new
  unmade e h = record {
    run = unmade_run (caller old) c (state stream old) (state stream new) e h;
    live = unmade_live (caller old) c (state stream old) (state stream new) e h;
    who = who;
    noting = notes;
  }

  pub unmade_looks : (result : Result served.Reply served_refusal.Refusal) → Asked (state stream old) (caller old) c (answer_of result) (state stream new)
      → OnErr result (Looks stream old new)
  unmade_looks (Ok reply) h = tt
  unmade_looks (Err e) h = unmade (refusal_of e) h

-- ---- of commands

module _ (who : Caller) (s s' : State) (path : PathText) (owner : Option (List ℕ)) (timeout : Option ℕ) (shared deep : Bool) where
  pub granted_apart : (a : Answer) → Exclusive s.locks → Asked s who (Command.Lock path owner timeout shared deep) a s' → KeepsApart who s s'
  granted_apart (Ok reply) x h = grant_apart who path owner timeout shared deep s s' (Ok reply) x h
  granted_apart (Err e) x (inl h) = grant_apart who path owner timeout shared deep s s' (Err e) x h
  granted_apart (Err e) x (inr undone) = keeps_apart who s s' x (subst (RunBy who s) (sym undone.same) (by_none who s))

  pub conflict_told : (l : Lock) → Asked s who (Command.Lock path owner timeout shared deep) (Err (Locked l)) s'
      → IsConflictOf (lock_conflicts (live who.now s).locks (segments path.bytes) shared deep) (fault.ConflictingLock l.path)
  conflict_told l (inl h) = conflict_shown who s s' path owner timeout shared deep l h
  conflict_told l (inr undone) = absurd (let no : Locked l ≡ OutOfMemory = undone.lacks in cc)

module _ (who : Caller) (s s' : State) (from to : Path) where
  pub not_copied : (e : Refusal) → Asked s who (Command.Copy from to) (Err e) s' → NotCopied who s from to (put_fault false e) s'
  not_copied e (inl h) = inr (e, h, refl)
  not_copied e (inr undone) = inl (ap (put_fault false) undone.lacks, undone.same)

  pub not_moved : CanMove (live who.now s) who from to → (e : Refusal) → Asked s who (Command.Move from to) (Err e) s' → put_fault false e ≡ fault.InsufficientStorage
  not_moved can e (inl h) = ap (put_fault false) (move_lacks (live who.now s) who from to can s' e h).0
  not_moved can e (inr undone) = ap (put_fault false) undone.lacks

pub unpatched : (who : Caller) (s s' : State) (p : Path) (updates : List Update) (e : Refusal) → Asked s who (Command.PatchProps p updates) (Err e) s'
    → KeepsProperties (live who.now s) who p (patch_fault e)
unpatched who s s' p updates e (inl h) = not_patched who (live who.now s) s' p updates e h
unpatched who s s' p updates e (inr undone) = subst (λ r. KeepsProperties (live who.now s) who p (patch_fault r)) (sym undone.lacks) tt

-- ---- with one token more

module _ (who : Caller) (s s' : State) (token : List ℕ) (c : Command) where
  pub asked_named : (a : Answer) → Step s (asking (also_naming who token) c) a s' → AskedNaming s who token c a s'
  asked_named (Ok reply) h = h
  asked_named (Err e) h = inl h

  one_run : (a : Answer) → Step s (asking (also_naming who token) c) a s' → Runs s s'
  one_run a h = record { requests = asking (also_naming who token) c ∷ []; answers = a ∷ []; run = (s', h, Same-refl s') }

  pub named_run : (a : Answer) → AskedNaming s who token c a s' → Runs s s'
  named_run (Ok reply) h = one_run (Ok reply) h
  named_run (Err e) (inl h) = one_run (Err e) h
  named_run (Err e) (inr undone) = subst (Runs s) (sym undone.1) (no_runs s)

  pub named_live : (e : Refusal) → AskedNaming s who token c (Err e) s' → SameLive who.now s s'
  named_live e (inl h) = refused_live (also_naming who token) c s s' e h
  named_live e (inr undone) = ap (live who.now) undone.1

-- an empty file that is not made under a lock
pub not_made_under : (who : Caller) (s s' : State) (p : Path) (token : List ℕ) (e : Refusal) → AskedNaming s who token (Command.Put p []) (Err e) s'
    → (put_fault false e ≡ fault.InsufficientStorage) ⊎ ((r : Refusal) × (put_fault false e ≡ put_fault false r) × PutsUnder (live who.now s) who p token (Err r) s')
not_made_under who s s' p token e (inl h) = inr (e, refl, h)
not_made_under who s s' p token e (inr undone) = inl (ap (put_fault false) undone.0)
