-- A MKCOL is answered in one way.
use Rattle.std.proofs.Common.{◌≡◌, ◌⊎◌, inl, inr, List, [], Some, None, Result, Ok, Err, refl, sym, ap, ◌∙◌}
use Rattle.http_header.specs.FieldValue.{FieldValue}
use Rattle.http_header.specs.HeaderMap.{Entries}
use Rattle.dav_path_core.specs.declared.errors.FsError.{FsError}
use Rattle.dav_path_core.specs.declared.util.DavMethod.TheVariants as method
use Rattle.dav_path_core.specs.Fronts.{Path}
use Rattle.dav_path_core.specs.PathText.{PathText}
use Rattle.dav_path_core.proofs.lists.FinMaps.{none_some, one_some}
use Rattle.dav_files_core.specs.Folders.{create_dir}
use Rattle.dav_files_core.specs.Resources.{Resource, ResourceMap, at_path, is_folder}
use Rattle.dav_locks_core.specs.Lock.{Lock}
use Rattle.dav_guarded_core.specs.Step.{State}
use Rattle.dav_faults_core.specs.declared.faults.Fault.{Fault}
use Rattle.dav_faults_core.specs.declared.faults.Fault.TheVariants as fault
use Rattle.dav_session_core.specs.Callers.{Caller}
use Rattle.dav_session_core.specs.LocksInTheWay.{IsPathOfOne}
use Rattle.dav_methods_core.specs.ChangeConditions.{change_course}
use Rattle.dav_methods_core.specs.MkcolMethod.{CanMake, CantMake, FailsToMake, Makes, locks_against_making}
use Rattle.dav_methods_core.specs.SameFaults.{AreAlike, IsDetermined}
use Rattle.dav_methods_core.proofs.MkcolLemmas.{made_nowhere}
use Rattle.dav_answers_core.proofs.SameFaultLemmas.{IsShort, both_show, equal_alike, never_stopped, no_lock, one_map_left, stopped_alike}

module _ (headers : Entries FieldValue) (s : State) (who : Caller) (p : Path) where
  abbrev locks : List Lock
  locks = locks_against_making s who p

  record IsKeptOut (e : Fault) : Type 0 where
    path : PathText
    is : e ≡ fault.Locked path
    of_one : IsPathOfOne locks path

  record IsTaken (e : Fault) : Type 0 where
    free : locks ≡ []
    resource : Resource
    here : at_path s.map p ≡ Some resource
    is : e ≡ fault.MethodNotAllowed (is_folder resource.node.kind)

  record IsHigh (e : Fault) : Type 0 where
    free : locks ≡ []
    nothing : at_path s.map p ≡ None
    is : e ≡ fault.Conflict
    error : FsError
    refused : create_dir s.map p who.now ≡ Err error

  abbrev Why : Fault → Type 0
  Why e = IsShort e ⊎ (IsKeptOut e ⊎ (IsTaken e ⊎ IsHigh e))

  why : (e : Fault) → CantMake s who p e → Why e
  why fault.InsufficientStorage h = inl refl
  why (fault.Locked path) h = inr (inl (record { path = path; is = refl; of_one = h }))
  why (fault.MethodNotAllowed folder) h = inr (inr
      (inl (record {
        free = h.0;
        resource = h.1.0;
        here = h.1.1;
        is = ap fault.MethodNotAllowed h.1.2;
      })))
  why fault.Conflict h = inr (inr (inr (record {
    free = h.0;
    nothing = h.1;
    is = refl;
    error = h.2.0;
    refused = h.2.1;
  })))
  why _ h = absurd h

  alike : (e f : Fault) → Why e → Why f → AreAlike e f
  alike e f (inl h) k = inl h
  alike e f (inr h) (inl k) = inr (inl k)
  alike e f (inr (inl h)) (inr (inl k)) = both_show e f h.path k.path h.is k.is
  alike e f (inr (inl h)) (inr (inr (inl k))) = no_lock locks h.path h.of_one k.free
  alike e f (inr (inl h)) (inr (inr (inr k))) = no_lock locks h.path h.of_one k.free
  alike e f (inr (inr (inl h))) (inr (inl k)) = no_lock locks k.path k.of_one h.free
  alike e f (inr (inr (inr h))) (inr (inl k)) = no_lock locks k.path k.of_one h.free
  alike e f (inr (inr (inl h))) (inr (inr (inl k))) =
      equal_alike e f (h.is ∙ ap (λ (r : Resource). fault.MethodNotAllowed (is_folder r.node.kind))
      (one_some (at_path s.map p) h.resource k.resource h.here k.here) ∙ sym k.is)
  alike e f (inr (inr (inl h))) (inr (inr (inr k))) =
      none_some (at_path s.map p) h.resource k.nothing h.here
  alike e f (inr (inr (inr h))) (inr (inr (inl k))) =
      none_some (at_path s.map p) k.resource h.nothing k.here
  alike e f (inr (inr (inr h))) (inr (inr (inr k))) = equal_alike e f (h.is ∙ sym k.is)

  never : (e : Fault) → Why e → CanMake s who p → IsShort e
  never e (inl h) can = h
  never e (inr (inl h)) can = no_lock locks h.path h.of_one can.0
  never e (inr (inr (inl h))) can = none_some (at_path s.map p) h.resource
      (made_nowhere s.map can.1.0 p who.now can.1.1) h.here
  never e (inr (inr (inr h))) can =
      let both : ◌≡◌ {A = Result (Unit {0} × ResourceMap) FsError} (Err h.error)
      (Ok (tt, can.1.0)) = sym h.refused ∙ can.1.1 in absurd (cc)

  pub makes_once : IsDetermined (Makes headers s who p) (FailsToMake headers s who p)
  makes_once = record {
    done = λ status other s' s'' h k. (
      h.status_is ∙ sym k.status_is,
      h.left ∙ ap (λ (m : ResourceMap). record s { map = m })
          (one_map_left (create_dir s.map p who.now) s'.map s''.map h.made k.made) ∙ sym k.left,
    );
    either = λ status s' e h k.
        never_stopped (CantMake s who p) (CanMake s who p)
        (change_course method.MkCol s.map p headers) (λ e c. never e (why e c))
        (h.free, (s'.map, h.made)) h.course e k;
    refused = λ e f h k.
        stopped_alike (CantMake s who p) (CanMake s who p)
        (change_course method.MkCol s.map p headers) (λ e f h k. alike e f (why e h) (why f k))
        (λ e c. never e (why e c)) e f h k;
  }
