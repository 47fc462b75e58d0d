-- What goes from the target of a COPY or a MOVE, what is asked before, and what is left.
use Rattle.std.proofs.Common.{◌≡◌, ◌≢◌, inl, inr, ℕ, false, ◌==◌, List, [], ◌∷◌, ◌++◌, length, map, Some, is_some, Result, Ok, Err, refl, sym, ap, ◌∙◌, subst}
use Rattle.std.specs.Prelude.{IfErr, IfOk, IsSome, OnOk}
use Rattle.std.proofs.lemmas.Bool.{true≢false}
use Rattle.std.proofs.lemmas.List.Elements.{Contains-append_left, Contains-append_right}
use Rattle.dav_path_core.specs.Fronts.{Path}
use Rattle.dav_path_core.specs.PathText.{PathText}
use Rattle.dav_path_core.specs.Segments.{segments}
use Rattle.dav_path_core.proofs.lists.MemberLemmas.{In-Contains, append_none}
use Rattle.dav_path_core.proofs.paths.FrontLemmas.{is_front-refl}
use Rattle.dav_files_core.specs.declared.memfs.Kind.TheVariants.{Folder}
use Rattle.dav_files_core.specs.Meta.{Meta}
use Rattle.dav_files_core.specs.Resources.{ResourceMap, at_path}
use Rattle.dav_locks_core.specs.Stale.{without_stale}
use Rattle.dav_guarded_core.specs.Step.{State}
use Rattle.dav_faults_core.specs.declared.faults.Fault.{Fault}
use Rattle.dav_session_core.specs.Callers.{Caller, SameLive, live}
use Rattle.dav_session_core.specs.Clearing.{IsCleared, refusing_anew, refusing_clearing}
use Rattle.dav_session_core.specs.Ends.{GoesFrom, HasFolder, known_at}
use Rattle.dav_session_core.specs.LocksInTheWay.{IsRefusedBy}
use Rattle.dav_session_core.specs.Removing.{IsRemoved, refusing_removal}
use Rattle.dav_session_core.specs.Subtrees.{IsSubtreeWalk}
use Rattle.dav_fields_core.proofs.ReadMarks.{known_entry}
use Rattle.dav_session_core.proofs.PutLemmas.{more_refused, same_look}
use Rattle.dav_session_core.proofs.RemovalLemmas.{fresh_below}

-- ---- whether a folder stands there

module _ (m : ResourceMap) (path copy : PathText) (same : copy ≡ path) where
  abbrev p : Path
  p = segments path.bytes

  at_copy : at_path m p ≡ at_path m (segments copy.bytes)
  at_copy = ap (λ (q : PathText). at_path m (segments q.bytes)) (sym same)

  pub folder_there : (known : Meta) → Some known ≡ known_at m (segments copy.bytes) → known.kind ≡ Folder → HasFolder m p
  folder_there known found kind =
      let entry = known_entry m (segments copy.bytes) known found in (entry.0, at_copy ∙ entry.1, sym (ap (λ (k : Meta). k.kind) entry.2) ∙ kind)

  -- the walk of a folder is what goes
  pub walk_goes : {A : Type 0} (result : Result A Fault) (view : A → List Path) (m' : ResourceMap) → m' ≡ m → HasFolder m p
      → IfOk result (λ x. IsSubtreeWalk m' (segments copy.bytes) (view x)) → IfOk result (λ x. GoesFrom m p (view x))
  walk_goes (Ok x) view m' still folder h =
      inl (folder, subst (λ n. IsSubtreeWalk n p (view x)) still (subst (λ (q : PathText). IsSubtreeWalk m' (segments q.bytes) (view x)) same h))
  walk_goes (Err e) view m' still folder h = tt

-- ---- what is asked before it goes

module _ {A : Type 0} (view : A → Path) (xs : List A) (to : Path) where
  some_go : (s : State) (who : Caller) → (length xs == 0) ≡ false → refusing_removal s who (map view xs) ++ refusing_anew s who to ≡ refusing_clearing s who to (map view xs)
  some_go s who h = by xs h
    where
      by : (xs : List A) → (length xs == 0) ≡ false → refusing_removal s who (map view xs) ++ refusing_anew s who to ≡ refusing_clearing s who to (map view xs)
      by [] h = absurd (true≢false h)
      by (x ∷ xs) h = refl

  pub removal_refuses : (s : State) (who : Caller) (e : Fault) → (length xs == 0) ≡ false → IsRefusedBy (refusing_removal s who (map view xs)) e
      → IsRefusedBy (refusing_clearing s who to (map view xs)) e
  removal_refuses s who e some h =
      subst (λ ls. IsRefusedBy ls e) (some_go s who some)
      (more_refused (refusing_removal s who (map view xs)) (refusing_removal s who (map view xs) ++ refusing_anew s who to) e
      (Contains-append_left (refusing_removal s who (map view xs)) (refusing_anew s who to)) h)

  module _ {B : Type 0} (result : Result B Fault) (who asker : Caller) (s mid : State) (same : asker ≡ who) (still : SameLive who.now s mid) (some : (length xs == 0) ≡ false) where
    pub anew_fails : IfErr result (λ e. IsRefusedBy (refusing_anew (live asker.now mid) asker to) e)
        → IfErr result (λ e. IsRefusedBy (refusing_clearing (live who.now s) who to (map view xs)) e)
    anew_fails h = by result h
      where
        by : (result : Result B Fault) → IfErr result (λ e. IsRefusedBy (refusing_anew (live asker.now mid) asker to) e)
            → IfErr result (λ e. IsRefusedBy (refusing_clearing (live who.now s) who to (map view xs)) e)
        by (Ok x) h = tt
        by (Err e) h =
            let removal = refusing_removal (live who.now s) who (map view xs) in
            let anew = refusing_anew (live who.now s) who to in
            subst (λ ls. IsRefusedBy ls e) (some_go (live who.now s) who some)
            (more_refused anew (removal ++ anew) e (Contains-append_right removal anew)
            (subst (λ w. IsRefusedBy (refusing_anew (live who.now s) w to) e) same
            (subst (λ t. IsRefusedBy (refusing_anew t asker to) e) (same_look who asker s mid same still) h)))

    pub clears : refusing_removal (live who.now s) who (map view xs) ≡ [] → OnOk result (refusing_anew (live asker.now mid) asker to ≡ [])
        → OnOk result (refusing_clearing (live who.now s) who to (map view xs) ≡ [])
    clears free h = by result h
      where
        by : (result : Result B Fault) → OnOk result (refusing_anew (live asker.now mid) asker to ≡ []) → OnOk result (refusing_clearing (live who.now s) who to (map view xs) ≡ [])
        by (Ok x) h =
            let start = live who.now s in
            let mine = subst (λ w. refusing_anew start w to ≡ []) same (subst (λ t. refusing_anew t asker to ≡ []) (same_look who asker s mid same still) h) in
            sym (some_go start who some) ∙ ap (λ ls. ls ++ refusing_anew start who to) free ∙ mine
        by (Err e) h = tt

-- ---- what is left

-- locks that have expired play no part
fresh_removed : (now : ℕ) (p : Path) (s s' : State) → IsRemoved now p (live now s) s' → IsRemoved now p (live now s) (live now s')
fresh_removed now p s s' h = record {
  gone = h.gone;
  above = h.above;
  others = h.others;
  next = h.next;
  locks = ap (without_stale now) h.locks ∙ fresh_below now p s.locks;
  rng = h.rng;
}

module _ {A : Type 0} (view : A → Path) (xs : List A) (who : Caller) (p : Path) (s s' : State) (goes : GoesFrom s.map p (map view xs)) where
  -- where nothing goes, no folder stood there
  pub stays : xs ≡ [] → live who.now s' ≡ live who.now s → IsCleared who.now p (live who.now s) (live who.now s')
  stays none same = elim goes [
    | inl there ↦ absurd (In-Contains [] p (((subst (λ ys. IsSubtreeWalk s.map p (map view ys)) none there.1).members p).1 (is_front-refl p, ap is_some there.0.1)))
    | inr h ↦ inr (h.0, same)
  ]

  -- where something does, a folder stood there, and it is gone
  pub goes_away : (length xs == 0) ≡ false → refusing_clearing (live who.now s) who p (map view xs) ≡ [] → p ≢ []
      → (p ≢ [] → IsSome (at_path s.map p) → IsSubtreeWalk s.map p (map view xs) → refusing_removal (live who.now s) who (map view xs) ≡ []
      → IsRemoved who.now p (live who.now s) s') → IsCleared who.now p (live who.now s) (live who.now s')
  goes_away some free no_root removed = elim goes [
    | inl there ↦ inl (
      there.0,
      fresh_removed who.now p s s' (removed no_root (ap is_some there.0.1) there.1
          (append_none (refusing_removal (live who.now s) who (map view xs)) (refusing_anew (live who.now s) who p) (some_go view xs p (live who.now s) who some ∙ free)).0),
    )
    | inr h ↦ absurd (by xs some h.1)
  ]
    where
      by : (xs : List A) → (length xs == 0) ≡ false → map view xs ≡ [] → ⊥
      by [] some none = true≢false some
      by (x ∷ xs) some none = cc
