-- What a MOVE leaves of a map and of a list of locks, and that only a lack of memory refuses it.
use Rattle.std.proofs.Common.{◌≡◌, ◌≢◌, inl, inr, ℕ, Bool, true, false, cond, ◌||◌, List, [], ◌∷◌, ◌++◌, Option, Some, None, is_some, Result, Ok, Err, refl, sym, ap, ◌∙◌, subst}
use Rattle.std.specs.Prelude.{Contains, IsSome, option_map}
use Rattle.std.proofs.lemmas.Bool.{false≢true, false_from_ne_true, or_parts, true≢false}
use Rattle.dav_path_core.specs.declared.errors.FsError.{FsError}
use Rattle.dav_path_core.specs.declared.errors.FsError.TheVariants.{InsufficientStorage}
use Rattle.dav_path_core.specs.Fronts.{Segment, Path, behind, is_front, is_same_path, parent}
use Rattle.dav_path_core.proofs.lists.FinMaps.{dec, get_same, test_false}
use Rattle.dav_path_core.proofs.lists.MemberLemmas.{In, In-Contains, append_none}
use Rattle.dav_path_core.proofs.lists.Orders.{path_exact, path_total}
use Rattle.dav_path_core.proofs.lists.Snoc.{by_last}
use Rattle.dav_path_core.proofs.paths.FrontLemmas.{fronts_of_one, is_front-refl, is_front-trans, is_same_path-refl}
use Rattle.dav_files_core.specs.declared.memfs.Kind.TheVariants.{Folder}
use Rattle.dav_files_core.specs.Finding.{has_members}
use Rattle.dav_files_core.specs.Folders.{is_root}
use Rattle.dav_files_core.specs.Following.{dated_entry, dated_folder}
use Rattle.dav_files_core.specs.Moved.{moved_map}
use Rattle.dav_files_core.specs.Outcomes.{Outcome, ◌>>=◌, find_folder, with_modified_time, touched_at}
use Rattle.dav_files_core.specs.Renaming.{relocated_map, rename}
use Rattle.dav_files_core.specs.Resources.{IsResourceMap, Resource, ResourceMap, at_path}
use Rattle.dav_files_core.proofs.changes.MakingLemmas.{folder_found}
use Rattle.dav_files_core.proofs.laws.DoneLemmas.{touched_none, touched_other}
use Rattle.dav_files_core.proofs.moves.MovedLemmas.{moved_from, moved_other, moved_to}
use Rattle.dav_files_core.proofs.walks.FoundLemmas.{find_there, parent-snoc}
use Rattle.dav_files_core.proofs.walks.HasMembersLemmas.{has_none}
use Rattle.dav_guarded_core.specs.Requests.{Command, Reply, Refusal, Fs, Locked, NoLock, OutOfMemory}
use Rattle.dav_guarded_core.specs.Step.{Same, Serves, State}
use Rattle.dav_guarded_core.proofs.Frame.{change_left}
use Rattle.dav_session_core.specs.Callers.{Caller, asking}
use Rattle.dav_session_core.specs.Clearing.{refusing_clearing}
use Rattle.dav_session_core.specs.Ends.{HasFolder, is_related}
use Rattle.dav_session_core.specs.Moving.{CanMove, IsMoved, refusing_move}
use Rattle.dav_session_core.specs.Removing.{refusing_removal}
use Rattle.dav_session_core.specs.Subtrees.{IsSubtreeWalk}
use Rattle.dav_session_core.proofs.MakeLemmas.{done, left_by}
use Rattle.dav_path_core.proofs.paths.AbovePaths.{parent_front}
use Rattle.dav_session_core.proofs.PutLemmas.{change_err}
use Rattle.dav_session_core.proofs.RemovalCheckLemmas.{removal_split}
use Rattle.dav_session_core.proofs.RemovalLemmas.{dated_next}
use Rattle.dav_files_core.proofs.paths.RemovedMaps.{above_out}
use Rattle.dav_path_core.proofs.paths.SubtreePaths.{front_of, rest_of, some_of}

-- ---- two ends of which neither is at or below the other

nothing_behind : (a q : Path) → is_front a q ≡ false → behind a q ≡ None
nothing_behind a q h = by (behind a q) refl h
  where
    by : (o : Option Path) → behind a q ≡ o → is_some o ≡ false → behind a q ≡ None
    by None e h = e
    by (Some s) e h = absurd (true≢false h)

-- nothing is above the root
no_root_behind : (a q : Path) → is_front a q ≡ false → a ≢ []
no_root_behind a q out none = true≢false (sym (ap (λ x. is_front x q) none) ∙ out)

no_root_test : (q : Path) → q ≢ [] → is_root q ≡ false
no_root_test [] h = absurd (h refl)
no_root_test (s ∷ q) h = refl

module _ (from to : Path) (apart : is_related false from to ≡ false) where
  pub out_to : is_front to from ≡ false
  out_to = (or_parts (is_front to from) (is_front from to) apart).0

  out_from : is_front from to ≡ false
  out_from = (or_parts (is_front to from) (is_front from to) apart).1

  pub target_no_root : to ≢ []
  target_no_root = no_root_behind to from out_to

  pub source_no_root : from ≢ []
  source_no_root = no_root_behind from to out_from

  -- neither folder above is at or below the target
  pub own_above : is_front to (parent to) ≡ false
  own_above = above_out to target_no_root

  source_above : is_front to (parent from) ≡ false
  source_above = false_from_ne_true _ (λ h. true≢false (sym (is_front-trans to (parent from) from h (parent_front from)) ∙ out_to))

  pub source_apart : from ≢ parent to
  source_apart same = true≢false (sym (subst (λ q. is_front q to ≡ true) (sym same) (parent_front to)) ∙ out_from)

  -- what is behind the source isn't behind the target
  out_behind : (s : Path) → is_front to (from ++ s) ≡ false
  out_behind s = false_from_ne_true _ (λ h. elim (fronts_of_one to from (from ++ s) h (front_of from s)) [
    | inl k ↦ true≢false (sym k ∙ out_to)
    | inr k ↦ true≢false (sym k ∙ out_from)
  ])

-- ---- a modified time that is set, at each path

abbrev dated_by : Bool → ℕ → Resource → Resource
dated_by b now r = cond b (dated_entry now r) r

touched_once : (n : ResourceMap) (a : Path) (now : ℕ) (q : Path) → at_path (with_modified_time n a now) q ≡ option_map (dated_by (is_same_path q a) now) (at_path n q)
touched_once n a now q = elim (dec path_total path_exact q a) [
  | inl same ↦ subst (λ p. at_path (with_modified_time n a now) p ≡ option_map (dated_by (is_same_path p a) now) (at_path n p)) (sym same) (own (at_path n a) refl)
  | inr other ↦ touched_other n a now q other ∙ sym (kept (at_path n q) (test_false path_total path_exact q a other))
]
  where
    own : (o : Option Resource) → at_path n a ≡ o → at_path (touched_at n a now o) a ≡ option_map (dated_by (is_same_path a a) now) o
    own None e = e
    own (Some r) e = get_same path_total path_exact n.entries a (dated_entry now r) ∙ ap (λ b. Some (dated_by b now r)) (sym (is_same_path-refl a))

    kept : (o : Option Resource) → is_same_path q a ≡ false → option_map (dated_by (is_same_path q a) now) o ≡ o
    kept None e = refl
    kept (Some r) e = ap (λ b. Some (dated_by b now r)) e

twice : (a b : Bool) (now : ℕ) (o : Option Resource) → option_map (dated_by b now) (option_map (dated_by a now) o) ≡ option_map (dated_by (a || b) now) o
twice a b now None = refl
twice true true now (Some r) = refl
twice true false now (Some r) = refl
twice false true now (Some r) = refl
twice false false now (Some r) = refl

-- ---- a map in which the source stands at the target

module _ (m : ResourceMap) (from to : Path) (now : ℕ) where
  abbrev put : ResourceMap
  put = moved_map m from to

  abbrev finish : ResourceMap → Outcome (Unit {0})
  finish n = Ok (tt, with_modified_time (with_modified_time n (parent from) now) (parent to) now)

  abbrev left : ResourceMap
  left = with_modified_time (with_modified_time put (parent from) now) (parent to) now

  -- where nothing refuses it
  relocated_so : is_root to ≡ false → has_members m to ≡ false → is_root from ≡ false → behind from to ≡ None → relocated_map m from to ≡ Ok put
  relocated_so target bare source apart = rw (target, bare, source, apart) refl

  renamed : (r f : Resource) → at_path m from ≡ Some r → at_path m (parent to) ≡ Some f → f.node.kind ≡ Folder → relocated_map m from to ≡ Ok put → rename m from to now ≡ done left
  renamed r f here above kind away =
      ap (λ (o : Result Resource FsError). o >>= λ (_ : Resource). find_folder m (parent to) >>= λ (_ : Resource). relocated_map m from to >>= finish) (find_there m from r here)
      ∙ ap (λ (o : Result Resource FsError). o >>= λ (_ : Resource). relocated_map m from to >>= finish) (folder_found m (parent to) f above kind)
      ∙ ap (λ (o : Result ResourceMap FsError). o >>= finish) away

  left_next : left.next ≡ m.next
  left_next =
      dated_next (with_modified_time put (parent from) now) (parent to) now
      ∙ dated_next put (parent from) now

  module _ (apart : is_related false from to ≡ false) where
    left_there : (rest : Path) → at_path left (to ++ rest) ≡ at_path m (from ++ rest)
    left_there rest =
        touched_other (with_modified_time put (parent from) now) (parent to) now (to ++ rest) (not_at (parent to) (own_above from to apart))
        ∙ touched_other put (parent from) now (to ++ rest) (not_at (parent from) (source_above from to apart)) ∙ moved_to m from to rest
      where
        not_at : (q : Path) → is_front to q ≡ false → to ++ rest ≢ q
        not_at q out same = true≢false (sym (front_of to rest) ∙ ap (is_front to) same ∙ out)

    left_gone : (q : Path) → is_front from q ≡ true → at_path left q ≡ None
    left_gone q inside =
        let r = rest_of from q inside in
        touched_none (with_modified_time put (parent from) now) (parent to) now q (touched_none put (parent from) now q
        (ap (at_path put) r.1 ∙ moved_from m from to r.0 (nothing_behind to (from ++ r.0) (out_behind from to apart r.0))))

    left_others : (q : Path) → is_front from q ≡ false → is_front to q ≡ false → at_path left q ≡ option_map (dated_folder from to now q) (at_path m q)
    left_others q f t =
        touched_once (with_modified_time put (parent from) now) (parent to) now q
        ∙ ap (option_map (dated_by (is_same_path q (parent to)) now)) (touched_once put (parent from) now q
        ∙ ap (option_map (dated_by (is_same_path q (parent from)) now)) (moved_other m from to q (nothing_behind from q f) (nothing_behind to q t)))
        ∙ twice (is_same_path q (parent from)) (is_same_path q (parent to)) now (at_path m q)

-- ---- a request that moves

some_there : {A : Type 0} (o : Option A) → IsSome o → (x : A) × (o ≡ Some x)
some_there (Some x) h = (x, refl)
some_there None h = absurd (false≢true h)

module _ (s : State) (who : Caller) (from to : Path) (can : CanMove s who from to) where
  no_members : has_members s.map to ≡ false
  no_members = has_none s.map to (λ name. by name (at_path s.map (to ++ (name ∷ []))) refl)
    where
      by : (name : Segment) (o : Option Resource) → at_path s.map (to ++ (name ∷ [])) ≡ o → o ≡ None
      by name None e = refl
      by name (Some r) e = absurd (can.no_folder (can.shape.parents to name r e))

  move_done : rename s.map from to who.now ≡ done (left s.map from to who.now)
  move_done =
      let source = some_there (at_path s.map from) can.stands in
      renamed s.map from to who.now source.0 can.above.0 source.1 can.above.1 can.above.2
      (relocated_so s.map from to who.now (no_root_test to (target_no_root from to can.apart)) no_members (no_root_test from (source_no_root from to can.apart))
      (nothing_behind from to (out_from from to can.apart)))

  pub is_moved : (s' : State) (reply : Reply) → Serves s (asking who (Command.Move from to)) (Ok reply) s' → IsMoved who.now from to s s'
  is_moved s' reply h =
      let is : s'.map ≡ left s.map from to who.now =
      left_by (left s.map from to who.now) s'.map (sym move_done ∙ change_left (rename s.map from to who.now) reply s'.map h.1.0) in
      record {
        there = λ rest. ap (λ (n : ResourceMap). at_path n (to ++ rest)) is ∙ left_there s.map from to who.now can.apart rest;
        gone = λ q inside. ap (λ (n : ResourceMap). at_path n q) is ∙ left_gone s.map from to who.now can.apart q inside;
        others = λ q f t. ap (λ (n : ResourceMap). at_path n q) is ∙ left_others s.map from to who.now can.apart q f t;
        next = ap (λ (n : ResourceMap). n.next) is ∙ left_next s.map from to who.now;
        locks = h.1.1.locks_are;
        rng = h.1.1.rng_is;
      }

  -- it is refused for memory alone
  pub move_lacks : (s' : State) (e : Refusal) → Serves s (asking who (Command.Move from to)) (Err e) s' → (e ≡ Fs InsufficientStorage) × Same s s'
  move_lacks s' (Fs e) h = elim h.0.2 [
    | inl lacks ↦ (ap Fs lacks.0, h.1)
    | inr refused ↦ absurd (let no : done (left s.map from to who.now) ≡ Err e = sym move_done ∙ change_err (rename s.map from to who.now) e refused.0 in cc)
  ]
  move_lacks s' (Locked l) h = absurd (In-Contains [] l (subst (λ locks. Contains locks l) can.free h.0))
  move_lacks s' NoLock h = absurd h.0
  move_lacks s' OutOfMemory h = absurd (h.0 can.free)

-- ---- its source and its target

-- what is free of all places is free of each
pub removal_of : (s : State) (who : Caller) (places : List Path) (p : Path) → In p places → refusing_removal s who places ≡ [] → refusing_removal s who (p ∷ []) ≡ []
removal_of s who [] p i free = absurd i
removal_of s who (q ∷ places) p i free =
    let parts = append_none (refusing_removal s who (q ∷ [])) (refusing_removal s who places) (sym (removal_split s who q places) ∙ free) in
    elim i [
      | inl same ↦ subst (λ x. refusing_removal s who (x ∷ []) ≡ []) same parts.0
      | inr j ↦ removal_of s who places p j parts.1
    ]

pub target_in : (m : ResourceMap) (to : Path) (places : List Path) → HasFolder m to → IsSubtreeWalk m to places → In to places
target_in m to places folder walk = In-Contains places to ((walk.members to).1 (is_front-refl to, ap is_some folder.1))

-- what stands elsewhere than at the root stands in a folder
pub stands_in : (m : ResourceMap) (p : Path) → IsResourceMap m → IsSome (at_path m p) → p ≢ [] → HasFolder m (parent p)
stands_in m p is_map stands no_root = elim (by_last p) [
  | inl none ↦ absurd (no_root none)
  | inr last ↦
      let entry = some_of (at_path m p) stands in
      subst (HasFolder m) (sym (ap parent last.2 ∙ parent-snoc last.0 last.1)) (is_map.parents last.0 last.1 entry.0 (ap (at_path m) (sym last.2) ∙ entry.1))
]

-- what refuses no move refuses no clearing
pub clearing_free : (s : State) (who : Caller) (from to : Path) (gone : List Path) → refusing_move s who from to gone ≡ [] → refusing_clearing s who to gone ≡ []
clearing_free s who from to [] free = refl
clearing_free s who from to (q ∷ gone) free = (append_none (refusing_removal s who (from ∷ [])) (refusing_clearing s who to (q ∷ gone)) free).1
