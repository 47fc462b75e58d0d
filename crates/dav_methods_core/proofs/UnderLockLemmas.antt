-- What a lock that was granted right before lets its holder make.
use Rattle.std.proofs.Common.{◌≡◌, inl, inr, ℕ, Bool, true, false, not, ◌&&◌, ◌||◌, List, [], ◌∷◌, ◌++◌, Option, Some, None, Ok, Err, refl, sym, ◌∙◌, ap, subst}
use Rattle.std.specs.Prelude.{bytes_eq, cond, is_some, option_map, Contains}
use Rattle.std.specs.List.{list_any}
use Rattle.std.proofs.lemmas.Bool.{and_from, and_parts}
use Rattle.std.proofs.lemmas.List.Folds.{list_any-append}
use Rattle.dav_path_core.specs.declared.errors.FsError.TheVariants as fs
use Rattle.dav_path_core.specs.Fronts.{Path, parent}
use Rattle.dav_path_core.proofs.lists.EachLemmas.{filter_none, none_passes}
use Rattle.dav_path_core.proofs.lists.MemberLemmas.{In-Contains, all_in, find_any}
use Rattle.dav_files_core.specs.ResourcePutting.{put}
use Rattle.dav_files_core.specs.Meta.{meta_at}
use Rattle.dav_files_core.specs.Resources.{Resource, ResourceMap, at_path}
use Rattle.dav_locks_core.specs.Lock.{Lock}
use Rattle.dav_locks_core.specs.Locks.{LockCaller as LocksCaller, any_held, check_conflicts, covers, is_held_by, is_at_or_below, lock_conflicts, lock_path, refuses_change, refuses_lock, same_text}
use Rattle.dav_guarded_core.specs.Checks.{member, refusing, shallow, target}
use Rattle.dav_guarded_core.specs.Requests.{Command, Refusal, Fs, Locked, NoLock, OutOfMemory}
use Rattle.dav_guarded_core.specs.Step.{Serves, State, conflicts}
use Rattle.dav_faults_core.specs.declared.faults.Fault.TheVariants as fault
use Rattle.dav_session_core.specs.Callers.{Caller, as_caller, asking, refusing_at}
use Rattle.dav_session_core.specs.Ends.{HasFolder}
use Rattle.dav_session_core.specs.Granting.{also_naming, with_lock}
use Rattle.dav_session_core.specs.StoreRefusals.{put_fault}
use Rattle.dav_path_core.proofs.paths.SubtreePaths.{any_of}
use Rattle.dav_session_core.proofs.GrantLemmas.{text_same}
use Rattle.dav_session_core.proofs.OwnLemmas.{at_covers}
use Rattle.dav_session_core.proofs.PutLemmas.{change_err}
use Rattle.dav_methods_core.proofs.PutMethodLemmas.{has_place}
use Rattle.dav_locks_core.proofs.laws.WithLock.{refuse_less, shared_passes, compatible_shared, all_with, in_front, in_last, or_more, or_last}

-- ---- locks that refuse a change

module _ (locks : List Lock) (new : Lock) (who more : LocksCaller) (p : Path) (grows : (l : Lock) → is_held_by l who ≡ true → is_held_by l more ≡ true) (own : is_held_by new more ≡ true) where
  own_passes : refuses_change (locks ++ new ∷ []) p false more new ≡ false
  own_passes =
      ap (λ h. not h && ((covers new p && (not new.shared || not (any_held (locks ++ new ∷ []) p more))) || (false && is_at_or_below new p))) own

  any_more : any_held locks p who ≡ true → any_held (locks ++ new ∷ []) p more ≡ true
  any_more any =
      let found = find_any (λ l. covers l p && is_held_by l who) locks any in
      let parts = and_parts (covers found.0 p) (is_held_by found.0 who) found.2 in
      any_of (λ l. covers l p && is_held_by l more) (locks ++ new ∷ []) found.0 (in_front locks (new ∷ []) found.0 found.1)
      (and_from (covers found.0 p) (is_held_by found.0 more) parts.0 (grows found.0 parts.1))

  -- what nothing refused before is refused by nothing now
  pub still_free : check_conflicts locks p false who ≡ [] → check_conflicts (locks ++ new ∷ []) p false more ≡ []
  still_free none =
      let each = none_passes (refuses_change locks p false who) locks none in
      filter_none (refuses_change (locks ++ new ∷ []) p false more) (locks ++ new ∷ [])
      (all_with locks new (λ l i.
      refuse_less (is_held_by l who) (is_held_by l more) (covers l p) l.shared (any_held locks p who) (any_held (locks ++ new ∷ []) p more) (is_at_or_below l p) (grows l) any_more
      (all_in (λ l. refuses_change locks p false who l ≡ false) locks l each i)) own_passes)

  -- nothing refuses a change at the path of the new lock, which no lock stood in the way of
  pub free_there : (deep : Bool) → covers new p ≡ true → lock_conflicts locks p new.shared deep ≡ [] → check_conflicts (locks ++ new ∷ []) p false more ≡ []
  free_there deep covered none =
      let each = none_passes (refuses_lock p new.shared deep) locks none in
      let any = any_of (λ l. covers l p && is_held_by l more) (locks ++ new ∷ []) new (in_last locks new) (and_from (covers new p) (is_held_by new more) covered own) in
      filter_none (refuses_change (locks ++ new ∷ []) p false more) (locks ++ new ∷ [])
      (all_with locks new (λ l i.
      shared_passes (is_held_by l more) (covers l p) l.shared (any_held (locks ++ new ∷ []) p more) (is_at_or_below l p)
      (compatible_shared l.shared new.shared (covers l p) (deep && is_at_or_below l p) (all_in (λ l. refuses_lock p new.shared deep l ≡ false) locks l each i)) any) own_passes)

-- ---- a caller who names one token more

same_principal : (principal : Option (List ℕ)) → same_text principal principal ≡ true
same_principal None = refl
same_principal (Some text) = text_same text

names_more : (who : Caller) (token : List ℕ) (l : Lock) → is_held_by l (as_caller who) ≡ true → is_held_by l (as_caller (also_naming who token)) ≡ true
names_more who token l h =
    let parts = and_parts (list_any (λ t. bytes_eq t l.token) who.tokens) (same_text l.principal who.principal) h in
    let named : list_any (λ t. bytes_eq t l.token) (who.tokens ++ token ∷ []) ≡ true =
    list_any-append (λ t. bytes_eq t l.token) who.tokens (token ∷ []) ∙ or_more _ _ parts.0 in
    and_from _ _ named parts.1

names_own : (who : Caller) (l : Lock) → l.principal ≡ who.principal → is_held_by l (as_caller (also_naming who l.token)) ≡ true
names_own who l same =
    let named : list_any (λ t. bytes_eq t l.token) (who.tokens ++ l.token ∷ []) ≡ true =
    list_any-append (λ t. bytes_eq t l.token) who.tokens (l.token ∷ []) ∙ or_last _ _ (text_same l.token) in
    and_from _ _ named (ap (λ p. same_text p who.principal) same ∙ same_principal who.principal)

-- ---- an empty file under a new lock

module _ (s : State) (who : Caller) (p : Path) (lock : Lock) (path : lock_path lock ≡ p) (own : lock.principal ≡ who.principal)
    (free : lock_conflicts s.locks p lock.shared lock.deep ≡ []) (nothing : at_path s.map p ≡ None) (above_free : refusing_at s who (parent p) ≡ [])
    (above : HasFolder s.map (parent p)) where
  abbrev Named : Caller
  Named = also_naming who lock.token

  no_conflict : conflicts (with_lock s lock) (asking Named (Command.Put p [])) ≡ []
  no_conflict =
      let more = as_caller Named in
      let here = free_there s.locks lock (as_caller who) more p (names_more who lock.token) (names_own who lock own) lock.deep (at_covers lock p path) free in
      let there = still_free s.locks lock (as_caller who) more (parent p) (names_more who lock.token) (names_own who lock own) above_free in
      let target_is : refusing (s.locks ++ lock ∷ []) more (target s.map p)
      ≡ check_conflicts (s.locks ++ lock ∷ []) p false more ++ (check_conflicts (s.locks ++ lock ∷ []) (parent p) false more ++ []) =
      ap (λ (o : Option Resource). refusing (s.locks ++ lock ∷ []) more (cond (is_some o) (shallow p ∷ []) (member p false))) nothing in
      target_is ∙ rw (here, there) refl

  can_be_put : (m' : ResourceMap) × (put s.map p [] who.now ≡ Ok (tt, m'))
  can_be_put = has_place s.map p [] who.now None (sym (ap (option_map (λ (r : Resource). meta_at r.node)) nothing)) above

  pub memory_alone : (s' : State) (e : Refusal) → Serves (with_lock s lock) (asking Named (Command.Put p [])) (Err e) s' → put_fault false e ≡ fault.InsufficientStorage
  memory_alone s' (Fs fs.InsufficientStorage) h = refl
  memory_alone s' (Fs _) h = elim h.0.2 [
    | inl lacks ↦ absurd (cc)
    | inr refused ↦
        let can = can_be_put in
        let wrong = change_err (put s.map p [] who.now) _ refused.0 in
        absurd (cc)
  ]
  memory_alone s' (Locked l) h = absurd (In-Contains [] l (subst (λ (locks : List Lock). Contains locks l) no_conflict h.0))
  memory_alone s' NoLock h = absurd h.0
  memory_alone s' OutOfMemory h = refl
