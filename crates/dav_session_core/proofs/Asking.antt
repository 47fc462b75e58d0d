-- What a caller's requests are answered, and what they leave.
use Rattle.std.proofs.Common.{true, ◌≡◌, ◌⊎◌, inl, inr, ℕ, [], ◌∷◌, ◌++◌, map, Some, None, Result, Ok, Err, refl, sym, ◌∙◌, ap, subst}
use Rattle.std.proofs.lemmas.Bool.{false≢true, or_from}
use Rattle.std.proofs.lemmas.List.{map-append}
use Rattle.std.proofs.lemmas.List.Folds.{list_any-append}
use Rattle.dav_path_core.specs.declared.errors.FsError.{FsError}
use Rattle.dav_path_core.specs.declared.errors.FsError.TheVariants.{InsufficientStorage}
use Rattle.dav_path_core.specs.Fronts.{Path}
use Rattle.dav_path_core.proofs.lists.MemberLemmas.{In-Contains}
use Rattle.dav_files_core.specs.declared.memfs.Kind.TheVariants.{Folder}
use Rattle.dav_files_core.specs.Describing.{metadata}
use Rattle.dav_files_core.specs.Finding.{refusal_at}
use Rattle.dav_files_core.specs.Listing.{read_dir}
use Rattle.dav_files_core.specs.ContentParts.{read_at}
use Rattle.dav_files_core.specs.Properties.{get_props, get_prop}
use Rattle.dav_files_core.specs.Resources.{Resource, ResourceMap, at_path}
use Rattle.dav_locks_core.proofs.laws.StaleLemmas.{stale_once}
use Rattle.dav_guarded_core.specs.Requests.{Command, Reply, Meta, Bytes, Entries, Props, Value, Answer, Refusal, Fs, Locked, NoLock, OutOfMemory}
use Rattle.dav_guarded_core.specs.ResourceStep.{tells, MayLackOnMap}
use Rattle.dav_guarded_core.specs.Step.{State, Same, Effect, Step, Run}
use Rattle.dav_guarded_core.proofs.Frame.{told_left}
use Rattle.dav_guarded_core.proofs.RunLaws.{run_join}
use Rattle.dav_guarded_core.proofs.StepLaws.{Same-equal, Same-refl, outcome}
use Rattle.dav_faults_core.specs.declared.faults.Fault.{Fault}
use Rattle.dav_faults_core.specs.declared.faults.Fault.TheVariants as fault
use Rattle.dav_session_core.specs.StoreRefusals.{list_fault}
use Rattle.dav_session_core.specs.Callers.{Asks, Caller, RunBy, asking, changes_locks, is_look, live, SameLive}
use Rattle.dav_session_core.proofs.CallerLaws.{asks_of}
use Rattle.dav_guarded_core.proofs.Telling.{list_refused, meta_missing}

-- ---- runs that follow one another

pub by_join : (who : Caller) (s mid s' : State) → RunBy who s mid → RunBy who mid s' → RunBy who s s'
by_join who s mid s' h k = record {
  commands = h.commands ++ k.commands;
  answers = h.answers ++ k.answers;
  run = subst (λ rs. Run s rs (h.answers ++ k.answers) s') (sym (map-append (asking who) h.commands k.commands))
      (run_join s mid s' (map (asking who) h.commands) (map (asking who) k.commands) h.answers k.answers h.run k.run);
  keeps = list_any-append changes_locks h.commands k.commands ∙ or_from _ _ h.keeps k.keeps;
}

pub asks_join : (who : Caller) (s mid s' : State) → Asks who s mid → Asks who mid s' → Asks who s s'
asks_join who s mid s' h k = record {
  commands = h.commands ++ k.commands;
  answers = h.answers ++ k.answers;
  run = subst (λ rs. Run s rs (h.answers ++ k.answers) s') (sym (map-append (asking who) h.commands k.commands))
      (run_join s mid s' (map (asking who) h.commands) (map (asking who) k.commands) h.answers k.answers h.run k.run);
}

-- a run, and one request behind it
pub asks_one : (who asker : Caller) (s mid s' : State) (c : Command) (a : Answer) → asker ≡ who → RunBy who s mid → Step mid (asking asker c) a s' → Asks who s s'
asks_one who asker s mid s' c a same h step =
    asks_join who s mid s' (asks_of who s mid h) (record { commands = c ∷ []; answers = a ∷ []; run = (s', subst (λ w. Step mid (asking w c) a s') same step, Same-refl s') })

-- the second by the same caller
pub join_as : (who asker : Caller) (s mid s' : State) → asker ≡ who → RunBy who s mid → RunBy asker mid s' → RunBy who s s'
join_as who asker s mid s' same h k = by_join who s mid s' h (subst (λ w. RunBy w mid s') same k)

-- ---- what stays

-- what stays in two steps of the same caller
pub live_as : (who asker : Caller) (s mid s' : State) → asker ≡ who → SameLive who.now s mid → SameLive asker.now mid s' → SameLive who.now s s'
live_as who asker s mid s' same h k = subst (λ (w : Caller). SameLive w.now mid s') same k ∙ h

pub live_once : (now : ℕ) (s : State) → live now (live now s) ≡ live now s
live_once now s = ap (λ locks. record s { locks = locks }) (stale_once now s.locks)

-- what leaves the state without the locks that have expired
pub same_live : (now : ℕ) (s s' : State) → Same (live now s) s' → SameLive now s s'
same_live now s s' h = ap (live now) (Same-equal (live now s) s' h) ∙ live_once now s

-- a command that leaves the stores as they are
asks_same : (who : Caller) (c : Command) (s s' : State) (a : Answer) → ((reply : Reply) → Effect c (live who.now s) (asking who c) reply s' → Same (live who.now s) s')
    → Step s (asking who c) a s' → SameLive who.now s s'
asks_same who c s s' a leaves h = same_live who.now s s' (elim (outcome (live who.now s) s' (asking who c) a h) [
  | inl same ↦ same
  | inr done ↦ leaves done.0 done.3
])

-- a look, told from the map
looks_same : {A : Type 0} (who : Caller) (c : Command) (s s' : State) (a : Answer) (tell : A → Reply) (f : Result A FsError)
    → ((reply : Reply) → Effect c (live who.now s) (asking who c) reply s' → tells s.map tell f ≡ Ok (reply, s'.map) × Same (record (live who.now s) { map = s'.map }) s')
    → Step s (asking who c) a s' → SameLive who.now s s'
looks_same who c s s' a tell f told h = same_live who.now s s' (elim (outcome (live who.now s) s' (asking who c) a h) [
  | inl same ↦ same
  | inr done ↦
      let effect = told done.0 done.3 in
      record {
        map_is = told_left s.map tell f done.0 s'.map effect.0;
        locks_are = effect.1.locks_are;
        rng_is = effect.1.rng_is;
      }
])

pub looks_live : (who : Caller) (c : Command) (s s' : State) (a : Answer) → is_look c ≡ true → Step s (asking who c) a s' → SameLive who.now s s'
looks_live who (Command.Read path at count) s s' a look = looks_same who (Command.Read path at count) s s' a Bytes (read_at s.map path at count) (λ reply e. e)
looks_live who (Command.List path) s s' a look = looks_same who (Command.List path) s s' a Entries (read_dir s.map path) (λ reply e. e)
looks_live who (Command.Meta path) s s' a look = looks_same who (Command.Meta path) s s' a Meta (metadata s.map path) (λ reply e. e)
looks_live who (Command.GetProps path content) s s' a look = looks_same who (Command.GetProps path content) s s' a Props (get_props s.map path content) (λ reply e. e)
looks_live who (Command.GetProp path wanted) s s' a look = looks_same who (Command.GetProp path wanted) s s' a Value (get_prop s.map path wanted) (λ reply e. e)
looks_live who (Command.Discover path) s s' a look = asks_same who (Command.Discover path) s s' a (λ reply e. e.1)
looks_live who (Command.Check path deep) s s' a look = asks_same who (Command.Check path deep) s s' a (λ reply e. e.1)
looks_live who _ s s' a look = absurd (false≢true look)

pub refused_live : (who : Caller) (c : Command) (s s' : State) (e : Refusal) → Step s (asking who c) (Err e) s' → SameLive who.now s s'
refused_live who c s s' (Fs e) h = same_live who.now s s' h.1
refused_live who c s s' (Locked l) h = same_live who.now s s' h.1
refused_live who c s s' NoLock h = same_live who.now s s' h.1
refused_live who c s s' OutOfMemory h = same_live who.now s s' h.1

-- ---- what a `List` tells

-- why a folder isn't listed
abbrev pub Unlisted : ResourceMap → Path → Fault → Type 0
Unlisted m p e = (e ≡ fault.InsufficientStorage) ⊎ ((e ≡ fault.NotFound) × ((r : Resource) → at_path m p ≡ Some r → ¬ (r.node.kind ≡ Folder)))

pub unlisted : (who : Caller) (p : Path) (s s' : State) (e : Refusal) → Step s (asking who (Command.List p)) (Err e) s' → Unlisted s.map p (list_fault e)
unlisted who p s s' (Fs InsufficientStorage) h = inl refl
unlisted who p s s' (Fs _) h = elim h.0.2 [
  | inl lacks ↦ absurd (cc)
  | inr refused ↦ inr (refl, λ r here kind. list_refused s.map p r _ here kind refused.0)
]
unlisted who p s s' (Locked l) h = absurd (In-Contains [] l h.0)
unlisted who p s s' NoLock h = absurd h.0
unlisted who p s s' OutOfMemory h = absurd (h.0 refl)

-- ---- what a `Meta` tells

-- it is refused only where nothing is there
pub meta_refused : (who : Caller) (p : Path) (s s' : State) (e : Refusal) → Step s (asking who (Command.Meta p)) (Err e) s' → at_path s.map p ≡ None
unfolding MayLackOnMap
meta_refused who p s s' (Fs e) h = elim h.0.2 [
  | inl lacks ↦ absurd (false≢true lacks.1.0)
  | inr refused ↦ meta_missing s.map (at_path s.map p) (refusal_at s.map p) e refused.0
]
meta_refused who p s s' (Locked l) h = absurd (In-Contains [] l h.0)
meta_refused who p s s' NoLock h = absurd h.0
meta_refused who p s s' OutOfMemory h = absurd (h.0 refl)
