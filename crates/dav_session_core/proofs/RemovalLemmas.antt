-- What stays of a map and of a list of locks where all at or below a path is taken away, one place after another.
use Rattle.std.proofs.Common.{◌≡◌, ◌≢◌, ◌⊎◌, inl, inr, ℕ, Bool, true, false, cond, not, ◌&&◌, ◌||◌, ◌↔◌, List, [], ◌∷◌, ◌++◌, map, Option, Some, None, is_some, Ok, Err, refl, sym, ap, ◌∙◌, subst}
use Rattle.std.specs.Prelude.{Contains, IsSome, ok_or, option_map}
use Rattle.std.specs.List.{flat_map}
use Rattle.std.proofs.lemmas.Bool.{and_parts, cases_Bool, false≢true, true≢false, false_from_ne_true}
use Rattle.std.proofs.lemmas.List.{map-append}
use Rattle.std.proofs.lemmas.List.Elements.{filter_agree}
use Rattle.std.proofs.lemmas.Map.Views.{any-filter_same}
use Rattle.dav_path_core.specs.declared.errors.FsError.TheVariants.{Forbidden}
use Rattle.dav_path_core.specs.Fronts.{Path, is_front, parent}
use Rattle.dav_path_core.proofs.lists.EachLemmas.{all_filter, filter_none, none_passes}
use Rattle.dav_path_core.proofs.lists.FinMaps.{dec, get_gone, get_left, get_same}
use Rattle.dav_path_core.proofs.lists.MemberLemmas.{In, In-Contains, Contains-In, append_none}
use Rattle.dav_path_core.proofs.lists.Orders.{path_exact, path_total}
use Rattle.dav_path_core.proofs.lists.PlaceLemmas.{filter-again, filter-filter}
use Rattle.dav_path_core.proofs.lists.Snoc.{snoc_not_empty}
use Rattle.dav_path_core.proofs.paths.FrontLemmas.{is_front-refl, is_front-trans}
use Rattle.dav_files_core.specs.Finding.{has_members, refusal_at}
use Rattle.dav_files_core.specs.Folders.{is_root, remove}
use Rattle.dav_files_core.specs.Following.{dated_entry}
use Rattle.dav_files_core.specs.Outcomes.{◌>>=◌, with_modified_time, touched_at, without}
use Rattle.dav_files_core.specs.Resources.{Resource, ResourceMap, at_path}
use Rattle.dav_files_core.proofs.laws.DoneLemmas.{touched_none, touched_other}
use Rattle.dav_locks_core.specs.Lock.{Lock}
use Rattle.dav_locks_core.specs.Locks.{LockCaller as LocksCaller, any_held, check_conflicts, covers, is_held_by, is_at_or_below, lock_path, refuses_change, without_below}
use Rattle.dav_locks_core.specs.Stale.{is_stale, without_stale}
use Rattle.dav_guarded_core.specs.Checks.{member, refusing}
use Rattle.dav_guarded_core.specs.Requests.{Answer, Command, Fs, Locked, NoLock, OutOfMemory}
use Rattle.dav_guarded_core.specs.ResourceStep.{MayLackOnMap, changes}
use Rattle.dav_guarded_core.specs.Step.{Serves, State, Step}
use Rattle.dav_guarded_core.proofs.Frame.{change_left}
use Rattle.dav_session_core.specs.Callers.{Caller, as_caller, asking, live}
use Rattle.dav_session_core.specs.Removing.{IsRemoved, refusing_removal}
use Rattle.dav_session_core.proofs.WalkOrderLemmas.{not_above}
use Rattle.dav_session_core.specs.Subtrees.{ComesBefore, IsSubtreeWalk}
use Rattle.dav_session_core.proofs.MakeLemmas.{done, left_by}
use Rattle.dav_session_core.proofs.OwnLemmas.{covers_here}
use Rattle.dav_path_core.proofs.paths.AbovePaths.{parent_front}
use Rattle.dav_path_core.proofs.paths.SubtreePaths.{in_left, in_one, in_right, pair_at}
use Rattle.dav_session_core.proofs.SubtreeLemmas.{last_bare, walk_left}
use Rattle.dav_files_core.proofs.paths.RemovedMaps.{above_other, above_out, front_none, folder_inside}

-- ---- one place of a map that is taken away

-- the next number stays where a time changes
pub dated_next : (m : ResourceMap) (p : Path) (now : ℕ) → (with_modified_time m p now).next ≡ m.next
dated_next m p now = by (at_path m p)
  where
    by : (o : Option Resource) → (touched_at m p now o).next ≡ m.next
    by None = refl
    by (Some r) = refl

module _ (m : ResourceMap) (q : Path) (now : ℕ) where
  abbrev bare : ResourceMap
  bare = without m q

  abbrev taken : ResourceMap
  taken = with_modified_time bare (parent q) now

  pub can_remove : IsSome (at_path m q) → q ≢ [] → has_members m q ≡ false → remove m q now ≡ done taken
  can_remove there no_root alone = by (at_path m q) there (no_root_test q no_root)
    where
      no_root_test : (q : Path) → q ≢ [] → is_root q ≡ false
      no_root_test [] h = absurd (h refl)
      no_root_test (s ∷ q) h = refl

      by : (o : Option Resource) → IsSome o → is_root q ≡ false
          → (ok_or o (refusal_at m q) >>= λ (_ : Resource). cond (is_root q || has_members m q) (Err Forbidden) (done taken)) ≡ done taken
      by (Some r) some test = rw (test, alone) refl
      by None some test = absurd (false≢true some)

  taken_here : at_path taken q ≡ None
  taken_here = touched_none bare (parent q) now q (get_gone path_total path_exact m.entries q)

  taken_other : (p : Path) → p ≢ q → p ≢ parent q → at_path taken p ≡ at_path m p
  taken_other p other above = touched_other bare (parent q) now p above ∙ get_left path_total path_exact m.entries q p other

  taken_above : q ≢ [] → at_path taken (parent q) ≡ option_map (dated_entry now) (at_path m (parent q))
  taken_above no_root =
      by (at_path bare (parent q)) refl ∙ ap (option_map (dated_entry now)) (get_left path_total path_exact m.entries q (parent q) (above_other q no_root))
    where
      by : (o : Option Resource) → at_path bare (parent q) ≡ o → at_path (touched_at bare (parent q) now o) (parent q) ≡ option_map (dated_entry now) o
      by None here = here
      by (Some r) here = get_same path_total path_exact bare.entries (parent q) (dated_entry now r)

  -- something stands elsewhere exactly where it stood
  taken_stands : q ≢ [] → (p : Path) → p ≢ q → IsSome (at_path taken p) ↔ IsSome (at_path m p)
  taken_stands no_root p other = elim (dec path_total path_exact p (parent q)) [
    | inl same ↦
        let e : is_some (at_path taken p) ≡ is_some (at_path m p) =
        ap (λ x. is_some (at_path taken x)) same ∙ ap is_some (taken_above no_root) ∙ still (at_path m (parent q)) ∙ ap (λ x. is_some (at_path m x)) (sym same) in
        ((λ h. sym e ∙ h), λ h. e ∙ h)
    | inr above ↦
        let e = ap is_some (taken_other p other above) in ((λ h. sym e ∙ h), λ h. e ∙ h)
  ]
    where
      still : (o : Option Resource) → is_some (option_map (dated_entry now) o) ≡ is_some o
      still None = refl
      still (Some r) = refl

-- ---- locks that go with it

module _ (last : Path) (locks : List Lock) where
  -- what covers a path elsewhere doesn't stand there
  covering_stays : (q : Path) → is_front last q ≡ false → (l : Lock) → covers l q ≡ true → not (is_at_or_below l last) ≡ true
  covering_stays q out l covered = ap not (false_from_ne_true (is_at_or_below l last)
      (λ below. true≢false (sym (is_front-trans last (lock_path l) q below (covers_here l q covered)) ∙ out)))

  held_stays : (q : Path) (who : LocksCaller) → is_front last q ≡ false → any_held (without_below last locks) q who ≡ any_held locks q who
  held_stays q who out = any-filter_same (λ l. covers l q && is_held_by l who) (λ l. not (is_at_or_below l last)) true
      (λ l h. covering_stays q out l (and_parts (covers l q) (is_held_by l who) h).0) locks

  pub free_stays : (q : Path) (deep : Bool) (who : LocksCaller) → is_front last q ≡ false → check_conflicts locks q deep who ≡ []
      → check_conflicts (without_below last locks) q deep who ≡ []
  free_stays q deep who out free =
      filter_agree (refuses_change (without_below last locks) q deep who) (refuses_change locks q deep who)
      (λ l. ap (λ b. not (is_held_by l who) && ((covers l q && (not l.shared || not b)) || (deep && is_at_or_below l q))) (held_stays q who out)) (without_below last locks)
      ∙ filter_none (refuses_change locks q deep who) (without_below last locks)
      (all_filter (λ l. refuses_change locks q deep who l ≡ false) (λ l. not (is_at_or_below l last)) locks (none_passes (refuses_change locks q deep who) locks free))

  pub removal_stays : (who : LocksCaller) (places : List Path) → ((q : Path) → In q places → is_front last q ≡ false)
      → refusing locks who (flat_map (λ q. member q true) places) ≡ [] → refusing (without_below last locks) who (flat_map (λ q. member q true) places) ≡ []
  removal_stays who [] out free = refl
  removal_stays who (q ∷ places) out free =
      let first = append_none (check_conflicts locks q true who) _ free in
      let second = append_none (check_conflicts locks (parent q) false who) _ first.1 in
      let here = out q (inl refl) in
      let above : is_front last (parent q) ≡ false = false_from_ne_true _ (λ h. true≢false (sym (is_front-trans last (parent q) q h (parent_front q)) ∙ here)) in
      rw (free_stays q true who here first.0, free_stays (parent q) false who above second.0) (removal_stays who places (λ x i. out x (inr i)) second.1)

-- what is free of all places is free of the last
removal_last : (locks : List Lock) (who : LocksCaller) (before : List Path) (last : Path)
    → refusing locks who (flat_map (λ q. member q true) (before ++ (last ∷ []))) ≡ []
    → (refusing locks who (flat_map (λ q. member q true) before) ≡ []) × (refusing locks who (member last true) ≡ [])
removal_last locks who [] last free = (refl, free)
removal_last locks who (q ∷ before) last free =
    let first = append_none (check_conflicts locks q true who) _ free in
    let second = append_none (check_conflicts locks (parent q) false who) _ first.1 in
    let rest = removal_last locks who before last second.1 in
    ((rw (first.0, second.0) rest.0), rest.1)

-- locks of which none has expired, without those there
pub fresh_below : (now : ℕ) (p : Path) (locks : List Lock) → without_stale now (without_below p (without_stale now locks)) ≡ without_below p (without_stale now locks)
fresh_below now p locks = filter-again (λ l. not (is_stale now l)) (λ l. not (is_at_or_below l p)) locks

-- those below a place that is itself below the path
below_absorbs : (p last : Path) (locks : List Lock) → is_front p last ≡ true → without_below p (without_below last locks) ≡ without_below p locks
below_absorbs p last locks inside =
    filter-filter (λ l. not (is_at_or_below l p)) (λ l. not (is_at_or_below l last)) locks ∙ filter_agree _ _ both locks
  where
    both : (l : Lock) → (not (is_at_or_below l last) && not (is_at_or_below l p)) ≡ not (is_at_or_below l p)
    both l = elim (cases_Bool (is_at_or_below l last)) [
      | inl below ↦ rw (below) (sym (ap not (is_front-trans p last (lock_path l) inside below)))
      | inr out ↦ rw (out) refl
    ]

-- ---- a request that takes a place away

-- what it leaves
record IsTaken (now : ℕ) (last : Path) (s s' : State) : Type 0 where
  map_is : s'.map ≡ taken s.map last now
  locks_are : s'.locks ≡ without_below last s.locks
  rng_is : s'.rng ≡ s.rng

-- where nothing refuses it, it is done
removal_done : (who : Caller) (s s' : State) (last : Path) (a : Answer) → refusing s.locks (as_caller who) (member last true) ≡ []
    → remove s.map last who.now ≡ done (taken s.map last who.now) → Serves s (asking who (Command.Remove last)) a s' → IsTaken who.now last s s'
unfolding MayLackOnMap
removal_done who s s' last (Ok reply) free can h = record {
  map_is = left_by (taken s.map last who.now) s'.map (sym can ∙ change_left (remove s.map last who.now) reply s'.map h.1.0);
  locks_are = h.1.1.locks_are;
  rng_is = h.1.1.rng_is;
}
removal_done who s s' last (Err (Fs e)) free can h = elim h.0.2 [
  | inl lacks ↦ absurd (false≢true lacks.1.0)
  | inr refused ↦ absurd (let no : changes (done (taken s.map last who.now)) ≡ Err e = sym (ap changes can) ∙ refused.0 in cc)
]
removal_done who s s' last (Err (Locked l)) free can h = absurd (In-Contains [] l (subst (λ locks. Contains locks l) free h.0))
removal_done who s s' last (Err NoLock) free can h = absurd h.0
removal_done who s s' last (Err OutOfMemory) free can h = absurd (h.0 free)

-- ---- one place after another

-- something is left to be taken away, and all else stands as it did
pub record IsLeft (who : Caller) (p : Path) (s : State) (left : List Path) (t : State) : Type 0 where
  pub stands : IsSome (at_path t.map p)
  pub walk : IsSubtreeWalk t.map p left
  pub free : refusing_removal (live who.now t) who left ≡ []
  pub above : at_path t.map (parent p) ≡ at_path s.map (parent p)
  pub others : (q : Path) → is_front p q ≡ false → at_path t.map q ≡ at_path s.map q
  pub next : t.map.next ≡ s.map.next
  pub locks : without_below p (live who.now t).locks ≡ without_below p s.locks
  pub rng : t.rng ≡ s.rng

abbrev pub Removing : Caller → Path → State → List Path → State → Type 0
Removing who p s left t = IsLeft who p s left t ⊎ ((left ≡ []) × IsRemoved who.now p s t)

pub removing_begun : (who : Caller) (p : Path) (start : State) (places : List Path) → IsSome (at_path start.map p) → IsSubtreeWalk start.map p places
    → refusing_removal (live who.now start) who places ≡ [] → Removing who p (live who.now start) places start
removing_begun who p start places stood walk free =
    inl (record {
      stands = stood;
      walk = walk;
      free = free;
      above = refl;
      others = λ q out. refl;
      next = refl;
      locks = refl;
      rng = refl;
    })

pub removing_ended : (who : Caller) (p : Path) (s t : State) → Removing who p s [] t → IsRemoved who.now p s t
removing_ended who p s t (inl h) = absurd (In-Contains [] p ((h.walk.members p).1 (is_front-refl p, h.stands)))
removing_ended who p s t (inr h) = h.1

module _ (who : Caller) (p : Path) (s t t' : State) (before : List Path) (last : Path) (no_root : p ≢ []) (h : IsLeft who p s (before ++ (last ∷ [])) t) where
  abbrev locks : List Lock
  locks = (live who.now t).locks

  is_place : (is_front p last ≡ true) × IsSome (at_path t.map last)
  is_place = (h.walk.members last).0 (Contains-In _ _ (in_right last before (last ∷ []) (inl refl)))

  last_no_root : last ≢ []
  last_no_root none = no_root (front_none p (subst (λ x. is_front p x ≡ true) none is_place.0))

  parts : (refusing_removal (live who.now t) who before ≡ []) × (refusing locks (as_caller who) (member last true) ≡ [])
  parts = removal_last locks (as_caller who) before last h.free

  taken_so : (a : Answer) → Serves (live who.now t) (asking who (Command.Remove last)) a t' → IsTaken who.now last (live who.now t) t'
  taken_so a step = removal_done who (live who.now t) t' last a parts.1
      (can_remove t.map last who.now is_place.1 last_no_root (last_bare t.map p last before h.walk)) step

  module _ (k : IsTaken who.now last (live who.now t) t') where
    elsewhere : (q : Path) → q ≢ last → q ≢ parent last → at_path t'.map q ≡ at_path t.map q
    elsewhere q other above = ap (λ (n : ResourceMap). at_path n q) k.map_is ∙ taken_other t.map last who.now q other above

    -- nothing below the path is touched but what goes, and its folder
    out_last : (q : Path) → is_front p q ≡ false → q ≢ last
    out_last q out same = true≢false (sym (subst (λ x. is_front p x ≡ true) (sym same) is_place.0) ∙ out)

    kept : without_below last locks ≡ (live who.now t').locks
    kept = sym (ap (without_stale who.now) k.locks_are ∙ fresh_below who.now last t.locks)

    -- the path itself was the last
    gone_all : last ≡ p → before ≡ [] → IsRemoved who.now p s t'
    gone_all same none = record {
      gone = gone;
      above = ap (λ x. at_path t'.map (parent x)) (sym same) ∙ ap (λ (n : ResourceMap). at_path n (parent last)) k.map_is ∙ taken_above t.map last who.now last_no_root
          ∙ ap (λ x. option_map (dated_entry who.now) (at_path t.map (parent x))) same ∙ ap (option_map (dated_entry who.now)) h.above;
      others = λ q out above. elsewhere q (out_last q out) (λ e. above (e ∙ ap parent same)) ∙ h.others q out;
      next = ap (λ (n : ResourceMap). n.next) k.map_is
          ∙ dated_next (without t.map last) (parent last) who.now ∙ h.next;
      locks = k.locks_are ∙ ap (λ x. without_below x locks) same ∙ h.locks;
      rng = k.rng_is ∙ h.rng;
    }
      where
        nothing : (q : Path) → is_front p q ≡ true → q ≢ last → (o : Option Resource) → at_path t.map q ≡ o → o ≡ None
        nothing q inside other None e = refl
        nothing q inside other (Some r) e = absurd (other (sym (in_one q last
            (In-Contains (last ∷ []) q (subst (λ xs. Contains (xs ++ (last ∷ [])) q) none ((h.walk.members q).1 (inside, ap is_some e)))))))

        gone : (q : Path) → is_front p q ≡ true → at_path t'.map q ≡ None
        gone q inside = elim (dec path_total path_exact q last) [
          | inl is ↦ ap (λ (n : ResourceMap). at_path n q) k.map_is ∙ ap (at_path (taken t.map last who.now)) is ∙ taken_here t.map last who.now
          | inr other ↦
              elsewhere q other (λ e. true≢false (sym inside ∙ ap (is_front p) (e ∙ ap parent same) ∙ above_out p no_root))
              ∙ nothing q inside other (at_path t.map q) refl
        ]

    -- it wasn't
    gone_one : last ≢ p → IsLeft who p s before t'
    gone_one other = record {
      stands = subst (λ (n : ResourceMap). IsSome (at_path n p)) (sym k.map_is) ((taken_stands t.map last who.now last_no_root p (λ e. other (sym e))).1 h.stands);
      walk = subst (λ n. IsSubtreeWalk n p before) (sym k.map_is)
          (walk_left t.map (taken t.map last who.now) p last before h.walk (taken_here t.map last who.now) (taken_stands t.map last who.now last_no_root));
      free = subst (λ ls. refusing ls (as_caller who) (flat_map (λ q. member q true) before) ≡ []) kept
          (removal_stays last locks (as_caller who) before
          (λ q i. not_above q last
          (pair_at ComesBefore before last q h.walk.sorted i)) parts.0);
      above = elsewhere (parent p) (out_last (parent p) out_above) (out_folder (parent p) out_above) ∙ h.above;
      others = λ q out. elsewhere q (out_last q out) (out_folder q out) ∙ h.others q out;
      next = ap (λ (n : ResourceMap). n.next) k.map_is
          ∙ dated_next (without t.map last) (parent last) who.now ∙ h.next;
      locks = ap (without_below p) (sym kept) ∙ below_absorbs p last locks is_place.0 ∙ h.locks;
      rng = k.rng_is ∙ h.rng;
    }
      where
        out_above : is_front p (parent p) ≡ false
        out_above = above_out p no_root

        out_folder : (q : Path) → is_front p q ≡ false → q ≢ parent last
        out_folder q out same = true≢false (sym (subst (λ x. is_front p x ≡ true) (sym same) (folder_inside p last is_place.0 other)) ∙ out)

  -- where the path itself goes, nothing is before it in the list
  none_before : last ≡ p → before ≡ []
  none_before same = by before refl
    where
      by : (xs : List Path) → before ≡ xs → before ≡ []
      by [] e = e
      by (x ∷ xs) e =
          let i : In x before = subst (In x) (sym e) (inl refl) in
          let inside = ((h.walk.members x).0 (Contains-In _ _ (in_left x before (last ∷ []) i))).0 in
          absurd (true≢false (sym inside ∙ ap (λ y. is_front y x) (sym same) ∙ not_above x last
          (pair_at ComesBefore before last x h.walk.sorted i)))

  left_on : IsTaken who.now last (live who.now t) t' → Removing who p s before t'
  left_on k = elim (dec path_total path_exact last p) [
    | inl same ↦ inr (none_before same, gone_all k same (none_before same))
    | inr other ↦ inl (gone_one k other)
  ]

pub removing_on : (who : Caller) (p : Path) (s t t' : State) (before : List Path) (last : Path) (a : Answer) → p ≢ [] → Removing who p s (before ++ (last ∷ [])) t
    → Serves (live who.now t) (asking who (Command.Remove last)) a t' → Removing who p s before t'
removing_on who p s t t' before last a no_root (inl h) step = left_on who p s t t' before last no_root h (taken_so who p s t t' before last no_root h a step)
removing_on who p s t t' before last a no_root (inr h) step = absurd (snoc_not_empty before last h.0)

-- the last of the places that are left goes, by a request of the same caller
pub removing_as : {A : Type 0} (view : A → Path) (who asker : Caller) (p : Path) (s t t' : State) (items rest : List A) (x : A) (a : Answer) → p ≢ [] → asker ≡ who
    → items ≡ rest ++ (x ∷ []) → Removing who p s (map view items) t → Step t (asking asker (Command.Remove (view x))) a t' → Removing who p s (map view rest) t'
removing_as view who asker p s t t' items rest x a no_root same split h step =
    removing_on who p s t t' (map view rest) (view x) a no_root
    (subst (λ xs. Removing who p s xs t) (ap (map view) split ∙ map-append view rest (x ∷ [])) h)
    (subst (λ w. Step t (asking w (Command.Remove (view x))) a t') same step)
