-- A PUT is answered in one way.
use Rattle.std.proofs.Common.{◌≡◌, ◌⊎◌, inl, inr, ℕ, true, List, [], Some, None, Result, Ok, Err, refl, sym, ap, ◌∙◌}
use Rattle.http_header.specs.FieldValue.{FieldValue}
use Rattle.http_header.specs.HeaderMap.{Entries}
use Rattle.dav_path_core.specs.declared.errors.FsError.{FsError}
use Rattle.dav_path_core.specs.declared.errors.FsError.TheVariants as fs
use Rattle.dav_path_core.specs.declared.util.DavMethod.TheVariants as method
use Rattle.dav_path_core.specs.Fronts.{Path}
use Rattle.dav_path_core.specs.PathText.{PathText}
use Rattle.dav_path_core.proofs.lists.FinMaps.{none_some}
use Rattle.dav_files_core.specs.declared.memfs.Kind.{Kind}
use Rattle.dav_files_core.specs.declared.memfs.Kind.TheVariants.{Folder, File}
use Rattle.dav_files_core.specs.Outcomes.{Outcome, ◌>>=◌, with_other_node}
use Rattle.dav_files_core.specs.ResourcePutting.{put, put_at}
use Rattle.dav_files_core.specs.Resources.{Resource, ResourceMap, at_path}
use Rattle.dav_locks_core.specs.Lock.{Lock}
use Rattle.dav_guarded_core.specs.Step.{State}
use Rattle.dav_faults_core.specs.declared.faults.Fault.{Fault}
use Rattle.dav_faults_core.specs.declared.faults.Fault.TheVariants as fault
use Rattle.dav_session_core.specs.Callers.{Caller, live}
use Rattle.dav_session_core.specs.LocksInTheWay.{IsPathOfOne}
use Rattle.dav_methods_core.specs.ChangeConditions.{change_course}
use Rattle.dav_methods_core.specs.PutMethod.{CanPut, CantPut, FailsToPut, Writes, locks_against_putting}
use Rattle.dav_methods_core.specs.SameFaults.{AreAlike, IsDetermined}
use Rattle.dav_answers_core.proofs.SameFaultLemmas.{IsShort, both_show, equal_alike, never_stopped, no_lock, one_map_left, stopped_alike}

-- nothing is put in the place of a folder
no_folder : {A : Type 0} (m m' : ResourceMap) (p : Path) (bytes : List ℕ) (now : ℕ) (r : Resource)
    → at_path m p ≡ Some r → r.node.kind ≡ Folder → put m p bytes now ≡ Ok (tt, m') → A
no_folder {A = A} m m' p bytes now r here kind h =
    by r.node.kind kind (sym (ap (put_at m p bytes now) here) ∙ h)
  where
    left : Resource → Outcome (Unit {0})
    left x = Ok (tt, with_other_node m p x (record x.node { bytes = bytes; modified = now }))

    done : Outcome (Unit {0})
    done = Ok (tt, m')

    by : (k : Kind) → k ≡ Folder → (elim k [ Folder ↦ Err fs.Forbidden | File ↦ Ok r ] >>= left)
        ≡ done → A
    by Folder is h = absurd (cc)
    by File is h = absurd (cc)

module _ (headers : Entries FieldValue) (s : State) (who : Caller) (p : Path) (bytes : List ℕ) where
  abbrev locks : List Lock
  locks = locks_against_putting s who p bytes

  record IsKeptOut (e : Fault) : Type 0 where
    path : PathText
    is : e ≡ fault.Locked path
    of_one : IsPathOfOne locks path

  record IsFolderThere (e : Fault) : Type 0 where
    is : e ≡ fault.MethodNotAllowed true
    free : locks ≡ []
    resource : Resource
    here : at_path s.map p ≡ Some resource
    kind : resource.node.kind ≡ Folder

  record IsHigh (e : Fault) : Type 0 where
    is : e ≡ fault.Conflict
    free : locks ≡ []
    nothing : at_path s.map p ≡ None
    error : FsError
    refused : put s.map p bytes who.now ≡ Err error

  abbrev Why : Fault → Type 0
  Why e = IsShort e ⊎ (IsKeptOut e ⊎ (IsFolderThere e ⊎ IsHigh e))

  why : (e : Fault) → CantPut s who p bytes e → Why e
  why fault.InsufficientStorage h = inl refl
  why (fault.Locked path) h = inr (inl (record { path = path; is = refl; of_one = h }))
  why (fault.MethodNotAllowed folder) h = inr (inr
      (inl (record {
        is = ap fault.MethodNotAllowed h.0;
        free = h.1;
        resource = h.2.0;
        here = h.2.1;
        kind = h.2.2;
      })))
  why fault.Conflict h = inr (inr (inr (record {
    is = refl;
    free = h.0;
    nothing = h.1;
    error = h.2.0;
    refused = h.2.1;
  })))
  why _ h = absurd h

  alike : (e f : Fault) → Why e → Why f → AreAlike e f
  alike e f (inl h) k = inl h
  alike e f (inr h) (inl k) = inr (inl k)
  alike e f (inr (inl h)) (inr (inl k)) = both_show e f h.path k.path h.is k.is
  alike e f (inr (inl h)) (inr (inr (inl k))) = no_lock locks h.path h.of_one k.free
  alike e f (inr (inl h)) (inr (inr (inr k))) = no_lock locks h.path h.of_one k.free
  alike e f (inr (inr (inl h))) (inr (inl k)) = no_lock locks k.path k.of_one h.free
  alike e f (inr (inr (inr h))) (inr (inl k)) = no_lock locks k.path k.of_one h.free
  alike e f (inr (inr (inl h))) (inr (inr (inl k))) = equal_alike e f (h.is ∙ sym k.is)
  alike e f (inr (inr (inl h))) (inr (inr (inr k))) =
      none_some (at_path s.map p) h.resource k.nothing h.here
  alike e f (inr (inr (inr h))) (inr (inr (inl k))) =
      none_some (at_path s.map p) k.resource h.nothing k.here
  alike e f (inr (inr (inr h))) (inr (inr (inr k))) = equal_alike e f (h.is ∙ sym k.is)

  never : (e : Fault) → Why e → CanPut s who p bytes → IsShort e
  never e (inl h) can = h
  never e (inr (inl h)) can = no_lock locks h.path h.of_one can.0
  never e (inr (inr (inl h))) can =
      no_folder s.map can.1.0 p bytes who.now h.resource h.here h.kind can.1.1
  never e (inr (inr (inr h))) can =
      let both : ◌≡◌ {A = Result (Unit {0} × ResourceMap) FsError} (Err h.error)
      (Ok (tt, can.1.0)) = sym h.refused ∙ can.1.1 in absurd (cc)

  pub puts_once : IsDetermined (Writes headers s who p bytes) (FailsToPut s who p bytes headers)
  puts_once = record {
    done = λ status other s' s'' h k. (
      h.status_is ∙ sym k.status_is,
      h.puts.left ∙ ap (λ (m : ResourceMap). record (live who.now s) { map = m })
          (one_map_left (put s.map p bytes who.now) s'.map s''.map h.puts.did k.puts.did) ∙ sym k.puts.left,
    );
    either = λ status s' e h k.
        never_stopped (CantPut s who p bytes) (CanPut s who p bytes)
        (change_course method.Put s.map p headers) (λ e c. never e (why e c))
        (h.free, (s'.map, h.puts.did)) h.course e k;
    refused = λ e f h k.
        stopped_alike (CantPut s who p bytes) (CanPut s who p bytes)
        (change_course method.Put s.map p headers) (λ e f h k. alike e f (why e h) (why f k))
        (λ e c. never e (why e c)) e f h k;
  }
