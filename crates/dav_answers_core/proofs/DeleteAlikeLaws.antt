-- A DELETE is answered in one way.
use Rattle.std.proofs.Common.{◌≡◌, ◌≢◌, ◌⊎◌, inl, inr, ℕ, true, List, [], ◌∷◌, Some, None, is_some, refl, sym, ap, ◌∙◌}
use Rattle.std.specs.FinMap.{FinMap, same_map}
use Rattle.std.proofs.lemmas.Bool.{cases_Bool, false≢true}
use Rattle.http_header.specs.FieldValue.{FieldValue}
use Rattle.http_header.specs.HeaderMap.{Entries}
use Rattle.dav_path_core.specs.declared.util.DavMethod.TheVariants as method
use Rattle.dav_path_core.specs.Fronts.{Path, is_front, parent, path_cmp}
use Rattle.dav_path_core.specs.PathText.{PathText}
use Rattle.dav_path_core.proofs.lists.FinMaps.{dec, none_some}
use Rattle.dav_path_core.proofs.lists.MemberLemmas.{Contains-In}
use Rattle.dav_path_core.proofs.lists.Orders.{path_exact, path_total}
use Rattle.dav_path_core.proofs.paths.SubtreePaths.{rest_of, some_of}
use Rattle.dav_files_core.specs.Resources.{IsResourceMap, Resource, ResourceMap, at_path}
use Rattle.dav_files_core.proofs.moves.MovingLemmas.{front_there}
use Rattle.dav_locks_core.specs.Lock.{Lock}
use Rattle.dav_guarded_core.specs.Step.{State}
use Rattle.dav_faults_core.specs.declared.faults.Fault.{Fault}
use Rattle.dav_faults_core.specs.declared.faults.Fault.TheVariants as fault
use Rattle.dav_session_core.specs.Callers.{Caller}
use Rattle.dav_session_core.specs.Removing.{IsRemoved, refusing_removal}
use Rattle.dav_session_core.specs.Subtrees.{HasOddName, IsSubtreeWalk}
use Rattle.dav_session_core.proofs.SubtreeLemmas.{walks_are_equal}
use Rattle.dav_methods_core.specs.ChangeConditions.{change_course}
use Rattle.dav_methods_core.specs.DeleteMethod.{CanRemove, CantRemove, FailsToRemove, IsLockedIn, Removes}
use Rattle.dav_methods_core.specs.Reaching.{ReachesDown}
use Rattle.dav_methods_core.specs.SameFaults.{AreAlike, IsDetermined, shows_refusing_lock}
use Rattle.dav_answers_core.proofs.OddNameLemmas.{odd_nowhere}
use Rattle.dav_answers_core.proofs.SameFaultLemmas.{IsShort, equal_alike, never_stopped, no_lock, stopped_alike}

-- ---- one state is left

-- where the same stands at each place, the next number is the same, and so are locks and generator
pub one_state : (s' s'' : State) → ((q : Path) → at_path s'.map q ≡ at_path s''.map q)
    → s'.map.next ≡ s''.map.next → s'.locks ≡ s''.locks → s'.rng ≡ s''.rng → s' ≡ s''
one_state s' s'' places next locks rng =
    ap (λ (es : FinMap path_cmp Resource). record {
      map = record {
        entries = es;
        next = s'.map.next;
      };
      locks = s'.locks;
      rng = s'.rng;
    })
    (same_map path_total path_exact s'.map.entries s''.map.entries places)
    ∙ ap (λ (n : ℕ). record {
      map = record { entries = s''.map.entries; next = n };
      locks = s'.locks;
      rng = s'.rng;
    }) next
    ∙ ap (λ (ls : List Lock). record { map = s''.map; locks = ls; rng = s'.rng }) locks
    ∙ ap (λ r. record { map = s''.map; locks = s''.locks; rng = r }) rng

module _ (now : ℕ) (p : Path) (s s' s'' : State) (h : IsRemoved now p s s')
    (k : IsRemoved now p s s'') where
  one_place : (q : Path) → at_path s'.map q ≡ at_path s''.map q
  one_place q = elim (cases_Bool (is_front p q)) [
    | inl inside ↦ h.gone q inside ∙ sym (k.gone q inside)
    | inr out ↦ elim (dec path_total path_exact q (parent p)) [
      | inl same ↦ ap (at_path s'.map) same ∙ h.above ∙ sym k.above
          ∙ ap (at_path s''.map) (sym same)
      | inr other ↦ h.others q out other ∙ sym (k.others q out other)
    ]
  ]

  pub one_removal : s' ≡ s''
  one_removal =
      one_state s' s'' one_place (h.next ∙ sym k.next) (h.locks ∙ sym k.locks) (h.rng ∙ sym k.rng)

-- ---- a walk of nothing

no_places : (m : ResourceMap) (p : Path) (places : List Path) → IsResourceMap m → at_path m p ≡ None
    → IsSubtreeWalk m p places → places ≡ []
no_places m p [] is_map nothing walk = refl
no_places m p (q ∷ places) is_map nothing walk =
    let here = (walk.members q).0 (Contains-In (q ∷ places) q (inl refl)) in
    let rest = rest_of p q here.0 in
    let r = some_of (at_path m q) here.1 in
    let above = front_there m is_map p rest.0 r.0 (ap (at_path m) (sym rest.1) ∙ r.1) in
    none_some (at_path m p) above.0 nothing above.1

-- ---- refusals

module _ (headers : Entries FieldValue) (s : State) (who : Caller) (p : Path)
    (is_map : IsResourceMap s.map) where
  abbrev Reaches : Type 0
  Reaches = ReachesDown s.map p headers

  record IsRoot (e : Fault) : Type 0 where
    is : e ≡ fault.Forbidden
    reaches : Reaches
    root : p ≡ []

  record IsMissing (e : Fault) : Type 0 where
    is : e ≡ fault.NotFound
    reaches : Reaches
    no_root : p ≢ []
    nothing : at_path s.map p ≡ None

  record IsKept (e : Fault) : Type 0 where
    shows : shows_refusing_lock e ≡ Some true
    reaches : Reaches
    no_root : p ≢ []
    path : PathText
    locked : IsLockedIn s who p path

  record IsBad (e : Fault) : Type 0 where
    is : e ≡ fault.BadRequest
    either : (¬ Reaches) ⊎ (Reaches × (p ≢ []) × HasOddName s.map p)

  abbrev Why : Fault → Type 0
  Why e = IsShort e ⊎ (IsBad e ⊎ (IsRoot e ⊎ (IsMissing e ⊎ IsKept e)))

  bad_root : {A : Type 0} (e f : Fault) → IsBad e → IsRoot f → A
  bad_root e f h k = elim h.either [
    | inl short ↦ absurd (short k.reaches)
    | inr odd ↦ absurd
        (odd.1 k.root)
  ]

  bad_missing : {A : Type 0} (e f : Fault) → IsBad e → IsMissing f → A
  bad_missing e f h k = elim h.either [
    | inl short ↦ absurd (short k.reaches)
    | inr odd ↦
        odd_nowhere s.map p is_map odd.2 k.nothing
  ]

  bad_kept : {A : Type 0} (e f : Fault) → IsBad e → IsKept f → A
  bad_kept e f h k = elim h.either [
    | inl short ↦ absurd (short k.reaches)
    | inr odd ↦ absurd
        (k.locked.walk.plain odd.2)
  ]

  why : (e : Fault) → CantRemove headers s who p e → Why e
  why fault.InsufficientStorage h = inl refl
  why fault.BadRequest h = inr (inl (record { is = refl; either = h }))
  why fault.Forbidden h = inr (inr (inl (record { is = refl; reaches = h.0; root = h.1 })))
  why fault.NotFound h = inr (inr (inr (inl (record {
    is = refl;
    reaches = h.0;
    no_root = h.1;
    nothing = h.2;
  }))))
  why (fault.Locked path) h = inr (inr (inr (inr (record {
    shows = refl;
    reaches = h.0;
    no_root = h.1;
    path = path;
    locked = h.2;
  }))))
  why (fault.MemberLocked path) h = inr (inr (inr (inr
      (record { shows = refl; reaches = h.0; no_root = h.1; path = path; locked = h.2 }))))
  why _ h = absurd h

  -- a lock that refuses some place of a walk
  unlocked : {A : Type 0} (path : PathText) → IsLockedIn s who p path → (places : List Path)
      → IsSubtreeWalk s.map p places → refusing_removal s who places ≡ [] → A
  unlocked path h places walk free =
      no_lock (refusing_removal s who h.places) path h.refused
      (ap (refusing_removal s who) (walks_are_equal s.map p h.places places h.walk walk) ∙ free)

  nowhere_locked : {A : Type 0} (path : PathText) → IsLockedIn s who p path → at_path s.map p ≡ None
      → A
  nowhere_locked path h nothing =
      no_lock (refusing_removal s who h.places) path h.refused
      (ap (refusing_removal s who) (no_places s.map p h.places is_map nothing h.walk))

  both_kept : (e f : Fault) → IsKept e → IsKept f → AreAlike e f
  both_kept e f h k = inr (inr (inr (ap is_some h.shows, h.shows ∙ sym k.shows)))

  alike : (e f : Fault) → Why e → Why f → AreAlike e f
  alike e f (inl h) k = inl h
  alike e f (inr h) (inl k) = inr (inl k)
  alike e f (inr (inl h)) (inr (inl k)) = equal_alike e f (h.is ∙ sym k.is)
  alike e f (inr (inl h)) (inr (inr (inl k))) = bad_root e f h k
  alike e f (inr (inl h)) (inr (inr (inr (inl k)))) = bad_missing e f h k
  alike e f (inr (inl h)) (inr (inr (inr (inr k)))) = bad_kept e f h k
  alike e f (inr (inr (inl h))) (inr (inl k)) = bad_root f e k h
  alike e f (inr (inr (inr (inl h)))) (inr (inl k)) = bad_missing f e k h
  alike e f (inr (inr (inr (inr h)))) (inr (inl k)) = bad_kept f e k h
  alike e f (inr (inr (inl h))) (inr (inr (inl k))) = equal_alike e f (h.is ∙ sym k.is)
  alike e f (inr (inr (inl h))) (inr (inr (inr (inl k)))) = absurd (k.no_root h.root)
  alike e f (inr (inr (inl h))) (inr (inr (inr (inr k)))) = absurd (k.no_root h.root)
  alike e f (inr (inr (inr (inl h)))) (inr (inr (inl k))) = absurd (h.no_root k.root)
  alike e f (inr (inr (inr (inr h)))) (inr (inr (inl k))) = absurd (h.no_root k.root)
  alike e f (inr (inr (inr (inl h)))) (inr (inr (inr (inl k)))) = equal_alike e f (h.is ∙ sym k.is)
  alike e f (inr (inr (inr (inl h)))) (inr (inr (inr (inr k)))) =
      nowhere_locked k.path k.locked h.nothing
  alike e f (inr (inr (inr (inr h)))) (inr (inr (inr (inl k)))) =
      nowhere_locked h.path h.locked k.nothing
  alike e f (inr (inr (inr (inr h)))) (inr (inr (inr (inr k)))) = both_kept e f h k

  abbrev Can : Type 0
  Can = (places : List Path) × CanRemove headers s who p places

  never : (e : Fault) → Why e → Can → IsShort e
  never e (inl h) can = h
  never e (inr (inl h)) can =
      elim h.either [
        | inl short ↦ absurd (short can.1.reaches)
        | inr odd ↦
            absurd (can.1.walk.plain odd.2)
      ]
  never e (inr (inr (inl h))) can = absurd (can.1.no_root h.root)
  never e (inr (inr (inr (inl h)))) can = absurd (false≢true
      (sym (ap is_some h.nothing) ∙ can.1.stood))
  never e (inr (inr (inr (inr h)))) can = unlocked h.path h.locked can.0 can.1.walk can.1.free

  pub removes_once : IsDetermined (Removes headers s who p) (FailsToRemove headers s who p)
  removes_once = record {
    done = λ status other s' s'' h k. (
      h.status_is
          ∙ sym k.status_is,
      one_removal who.now p s s' s'' h.removed k.removed,
    );
    either = λ status s' e h k.
        never_stopped (CantRemove headers s who p) Can (change_course method.Delete s.map p headers)
        (λ e c. never e (why e c)) (h.places, h.can) h.course e k;
    refused = λ e f h k.
        stopped_alike (CantRemove headers s who p) Can (change_course method.Delete s.map p headers)
        (λ e f h k. alike e f (why e h) (why f k)) (λ e c. never e (why e c)) e f h k;
  }
