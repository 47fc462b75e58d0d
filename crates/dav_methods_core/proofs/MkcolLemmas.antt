-- What a MKCOL leaves in a resource map, and why it is refused.
use Rattle.std.proofs.Common.{◌≡◌, ◌⊎◌, inl, inr, ℕ, false, cond, [], Option, Some, None, Result, Ok, Err, refl, sym, ap, ◌∙◌, subst}
use Rattle.http_header.specs.FieldValue.{FieldValue}
use Rattle.http_header.specs.HeaderMap.{Entries}
use Rattle.dav_path_core.specs.declared.util.DavMethod.TheVariants as method
use Rattle.std.specs.Prelude.{is_some, ok_or, option_map, IfErr, OnOk}
use Rattle.dav_path_core.specs.declared.errors.FsError.{FsError}
use Rattle.dav_path_core.specs.declared.errors.FsError.TheVariants as fs
use Rattle.dav_path_core.specs.Fronts.{Path, parent}
use Rattle.dav_files_core.specs.declared.memfs.Kind.{Kind}
use Rattle.dav_files_core.specs.declared.memfs.Kind.TheVariants.{Folder, File}
use Rattle.dav_files_core.specs.Finding.{refusal_at}
use Rattle.dav_files_core.specs.Folders.{create_dir}
use Rattle.dav_files_core.specs.Outcomes.{Outcome, ◌>>=◌, only_folder, with_new_entry, with_modified_time, new_folder}
use Rattle.dav_files_core.specs.Resources.{Resource, ResourceMap, at_path, is_folder}
use Rattle.dav_files_core.specs.Meta.{Meta, meta_at}
use Rattle.dav_fields_core.proofs.ReadMarks.{known_entry}
use Rattle.dav_guarded_core.specs.Requests.{Command, Reply, Refusal, Fs, Locked, NoLock, OutOfMemory}
use Rattle.dav_guarded_core.specs.Step.{State, Serves}
use Rattle.dav_guarded_core.proofs.Frame.{change_left}
use Rattle.dav_session_core.specs.Callers.{Caller, asking}
use Rattle.dav_session_core.specs.Ends.{HasFolder, known_at}
use Rattle.dav_session_core.specs.LocksInTheWay.{IsRefusedBy}
use Rattle.dav_fields_core.specs.Marking.{IsNone}
use Rattle.dav_faults_core.specs.declared.faults.Fault.{Fault}
use Rattle.dav_faults_core.specs.declared.faults.Fault.TheVariants as fault
use Rattle.dav_methods_core.specs.ChangeConditions.{change_course}
use Rattle.dav_methods_core.specs.MkcolMethod.{CanMake, CantMake, Makes, locks_against_making}
use Rattle.dav_session_core.specs.StoreRefusals.{put_fault}
use Rattle.dav_session_core.proofs.PutLemmas.{change_err, rebuilt}
use Rattle.dav_session_core.proofs.MakeLemmas.{done, left_by}
use Rattle.dav_files_core.proofs.changes.MadeFolders.{Placed, made_here, made_above, made_others}

-- ---- what is left

create_placed : (m m' : ResourceMap) (p : Path) (now : ℕ) → create_dir m p now ≡ done m' → Placed m p now m'
create_placed m m' p now h = by (at_path m (parent p)) refl h
  where
    rest : Outcome (Unit {0})
    rest = cond (is_some (at_path m p)) (Err fs.Exists) (done (with_modified_time (with_new_entry m p (new_folder now)) (parent p) now))

    by_place : (r : Resource) → at_path m (parent p) ≡ Some r → r.node.kind ≡ Folder → (o : Option Resource) → at_path m p ≡ o
        → cond (is_some o) (Err fs.Exists) (done (with_modified_time (with_new_entry m p (new_folder now)) (parent p) now)) ≡ done m' → Placed m p now m'
    by_place r there kind (Some x) is h = absurd (cc)
    by_place r there kind None is h = record { above = r; stands = there; kind = kind; nothing = is; left = left_by _ m' h }

    by_kind : (r : Resource) (k : Kind) → at_path m (parent p) ≡ Some r → r.node.kind ≡ k → (elim k [ Folder ↦ Ok r | File ↦ Err fs.Forbidden ] >>= λ (_ : Resource). rest) ≡ done m'
        → Placed m p now m'
    by_kind r Folder there is h = by_place r there is (at_path m p) refl h
    by_kind r File there is h = absurd (cc)

    by : (o : Option Resource) → at_path m (parent p) ≡ o → ((ok_or o (refusal_at m (parent p)) >>= only_folder) >>= λ (_ : Resource). rest) ≡ done m' → Placed m p now m'
    by (Some r) there h = by_kind r r.node.kind there refl h
    by None there h = absurd (cc)

pub made : (headers : Entries FieldValue) (who : Caller) (s s' : State) (p : Path) (reply : Reply) → change_course method.MkCol s.map p headers ≡ Ok tt
    → Serves s (asking who (Command.MkCol p)) (Ok reply) s' → Makes headers s who p 201 s'
made headers who s s' p reply lets h =
    let made_so = change_left (create_dir s.map p who.now) reply s'.map h.1.0 in
    let placed = create_placed s.map s'.map p who.now made_so in
    record {
      status_is = refl;
      course = lets;
      free = h.0;
      nothing = placed.nothing;
      above = placed.above;
      stands = placed.stands;
      kind = placed.kind;
      folder = record { number = s.map.next; node = new_folder who.now };
      here = made_here s.map s'.map p who.now placed;
      new = refl;
      made = made_so;
      changed = made_above s.map s'.map p who.now placed;
      others = made_others s.map s'.map p who.now placed;
      left = rebuilt s s' h.1.1;
    }

-- ---- refusals

-- where it can be made, it is refused for memory alone
pub not_made : (who : Caller) (s s' : State) (p : Path) (e : Refusal) → CanMake s who p → Serves s (asking who (Command.MkCol p)) (Err e) s'
    → CantMake s who p (put_fault false e)
not_made who s s' p (Fs fs.InsufficientStorage) can h = tt
not_made who s s' p (Fs _) can h = elim h.0.2 [
  | inl lacks ↦ absurd (cc)
  | inr refused ↦
      let fails = change_err (create_dir s.map p who.now) _ refused.0 in
      let both = sym fails ∙ can.1.1 in
      absurd (cc)
]
not_made who s s' p (Locked l) can h = (l, h.0, refl)
not_made who s s' p NoLock can h = absurd h.0
not_made who s s' p OutOfMemory can h = tt

-- there may be no room for its note
pub not_made_at : (who : Caller) (s s' : State) (p : Path) (e : Refusal) → CanMake s who p → Serves s (asking who (Command.MkCol p)) (Err e) s' ⊎ (e ≡ OutOfMemory)
    → CantMake s who p (put_fault false e)
not_made_at who s s' p e can (inl h) = not_made who s s' p e can h
not_made_at who s s' p e can (inr lacks) = subst (λ r. CantMake s who p (put_fault false r)) (sym lacks) tt

-- ---- what is known before

-- nothing is known of a path where nothing stands
unknown : (m : ResourceMap) (p : Path) → None ≡ known_at m p → at_path m p ≡ None
unknown m p found = by (at_path m p) refl found
  where
    by : (o : Option Resource) → at_path m p ≡ o → None ≡ option_map (λ (r : Resource). meta_at r.node) o → at_path m p ≡ None
    by None here is = here
    by (Some r) here is = absurd (cc)

pub can_make : (who : Caller) (s : State) (p : Path) → locks_against_making s who p ≡ [] → at_path s.map p ≡ None → HasFolder s.map (parent p) → CanMake s who p
can_make who s p free nothing above =
    (free, (with_modified_time (with_new_entry s.map p (new_folder who.now)) (parent p) who.now, rw (above.1, above.2, nothing) refl))

-- a lock refuses it
pub locked_making : (who : Caller) (s : State) (p : Path) (e : Fault) → IsRefusedBy (locks_against_making s who p) e → CantMake s who p e
locked_making who s p fault.InsufficientStorage h = tt
locked_making who s p (fault.Locked path) h = h
locked_making who s p _ h = absurd h

-- something stands there
pub stands_there : (who : Caller) (s : State) (p : Path) (known : Meta) → locks_against_making s who p ≡ [] → Some known ≡ known_at s.map p
    → CantMake s who p (fault.MethodNotAllowed (is_folder known.kind))
stands_there who s p known free found =
    let entry = known_entry s.map p known found in
    (free, (entry.0, entry.1, ap (λ (k : Meta). is_folder k.kind) entry.2))

-- no folder stands above
pub nowhere_to_make : (who : Caller) (s : State) (p : Path) (e : Fault) → locks_against_making s who p ≡ [] → at_path s.map p ≡ None
    → (e ≡ fault.InsufficientStorage) ⊎ ((e ≡ fault.Conflict) × IsNone s.map (parent p) Folder) → CantMake s who p e
nowhere_to_make who s p e free nothing (inl short) = subst (CantMake s who p) (sym short) tt
nowhere_to_make who s p e free nothing (inr h) = subst (CantMake s who p) (sym h.0) (free, nothing, by (at_path s.map (parent p)) refl)
  where
    by_kind : (r : Resource) (k : Kind) → at_path s.map (parent p) ≡ Some r → r.node.kind ≡ k → (e : FsError) × (create_dir s.map p who.now ≡ Err e)
    by_kind r Folder here is = absurd (h.1 r here is)
    by_kind r File here is = (fs.Forbidden, rw (here, is) refl)

    by : (o : Option Resource) → at_path s.map (parent p) ≡ o → (e : FsError) × (create_dir s.map p who.now ≡ Err e)
    by (Some r) here = by_kind r r.node.kind here refl
    by None here = (refusal_at s.map (parent p), rw here refl)

-- where nothing stands there, all is by what stands above
pub makable : {A : Type 0} (who : Caller) (s : State) (p : Path) (result : Result A Fault) → locks_against_making s who p ≡ [] → None ≡ known_at s.map p
    → OnOk result (HasFolder s.map (parent p)) → OnOk result (CanMake s who p)
makable who s p (Ok x) free found h = can_make who s p free (unknown s.map p found) h
makable who s p (Err e) free found h = tt

pub unmakable : {A : Type 0} (who : Caller) (s : State) (p : Path) (result : Result A Fault) → locks_against_making s who p ≡ [] → None ≡ known_at s.map p
    → IfErr result (λ e. (e ≡ fault.InsufficientStorage) ⊎ ((e ≡ fault.Conflict) × IsNone s.map (parent p) Folder)) → IfErr result (λ e. CantMake s who p e)
unmakable who s p (Ok x) free found h = tt
unmakable who s p (Err e) free found h = nowhere_to_make who s p e free (unknown s.map p found) h

-- ---- what can be made

-- nothing stood where it is made
pub made_nowhere : (m m' : ResourceMap) (p : Path) (now : ℕ) → create_dir m p now ≡ Ok (tt, m')
    → at_path m p ≡ None
made_nowhere m m' p now h = (create_placed m m' p now h).nothing
