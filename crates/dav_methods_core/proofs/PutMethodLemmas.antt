-- What a PUT leaves of a session, and why it is refused.
use Rattle.std.proofs.Common.{Bool, true, false, ◌≡◌, ◌≢◌, ◌⊎◌, inl, inr, ℕ, ◌+◌, List, [], ◌++◌, Option, Some, None, Result, Ok, Err, refl, sym, ◌∙◌, ap, subst}
use Rattle.std.specs.Prelude.{is_some, option_map, IfErr, OnOk}
use Rattle.std.proofs.lemmas.List.Elements.{Contains-append_left, Contains-append_right}
use Rattle.std.specs.FinMap.{insert}
use Rattle.dav_path_core.specs.declared.errors.FsError.{FsError}
use Rattle.dav_path_core.specs.declared.errors.FsError.TheVariants as fs
use Rattle.dav_path_core.specs.Fronts.{Path, parent}
use Rattle.dav_path_core.proofs.lists.FinMaps.{get_same, get_other}
use Rattle.dav_path_core.proofs.lists.Orders.{path_total, path_exact}
use Rattle.dav_files_core.specs.declared.memfs.Kind.{Kind}
use Rattle.dav_files_core.specs.declared.memfs.Kind.TheVariants.{Folder, File}
use Rattle.dav_files_core.specs.Finding.{refusal_at}
use Rattle.dav_files_core.specs.Meta.{Meta, meta_at}
use Rattle.dav_files_core.specs.Outcomes.{Outcome, ◌>>=◌, find_folder, with_new_entry, with_other_node, new_file}
use Rattle.dav_files_core.specs.ResourcePutting.{put, put_at}
use Rattle.dav_files_core.specs.Resources.{Node, Resource, ResourceMap, at_path}
use Rattle.dav_guarded_core.specs.Checks.{refusing}
use Rattle.dav_guarded_core.specs.Requests.{Command, Reply, Refusal, Fs, Locked, NoLock, OutOfMemory}
use Rattle.dav_guarded_core.specs.Step.{State, Serves}
use Rattle.dav_guarded_core.proofs.Frame.{change_left}
use Rattle.dav_faults_core.specs.declared.faults.Fault.{Fault}
use Rattle.dav_faults_core.specs.declared.faults.Fault.TheVariants as fault
use Rattle.dav_session_core.specs.Callers.{Caller, SameLive, as_caller, asking, live, refusing_at}
use Rattle.dav_session_core.specs.Ends.{known_at}
use Rattle.dav_session_core.specs.LocksInTheWay.{IsRefusedBy}
use Rattle.dav_fields_core.specs.Marking.{IsNone}
use Rattle.dav_methods_core.specs.Placing.{HasPlace, LacksPlace, target_by}
use Rattle.dav_session_core.specs.StoreRefusals.{put_fault, unputtable}
use Rattle.dav_methods_core.specs.PutMethod.{CanPut, CantPut, Puts, locks_against_putting, props_of}
use Rattle.dav_session_core.proofs.PutLemmas.{rebuilt, change_err, more_refused}

-- ---- what is left

-- the entries after it, but for the locks
pub record Found (m : ResourceMap) (p : Path) (bytes : List ℕ) (now : ℕ) (m' : ResourceMap) : Type 0 where
  pub file : Resource
  pub here : at_path m' p ≡ Some file
  pub kind : file.node.kind ≡ File
  pub bytes_are : file.node.bytes ≡ bytes
  pub modified : file.node.modified ≡ now
  pub props : file.node.props ≡ props_of (at_path m p)
  pub others : (q : Path) → q ≢ p → at_path m' q ≡ at_path m q

abbrev done : ResourceMap → Outcome (Unit {0})
done n = Ok (tt, n)

-- an entry that is written
written : (m m' : ResourceMap) (p : Path) (number : ℕ) (node : Node) (next : ℕ) → node.kind ≡ File → node.props ≡ props_of (at_path m p)
    → m' ≡ record { entries = insert m.entries p (record { number = number; node = node }); next = next } → Found m p node.bytes node.modified m'
written m m' p number node next kind props left =
    let file : Resource = record { number = number; node = node } in
    record {
      file = file;
      here = ap (λ (m : ResourceMap). at_path m p) left ∙ get_same path_total path_exact m.entries p file;
      kind = kind;
      bytes_are = refl;
      modified = refl;
      props = props;
      others = λ q apart. ap (λ (m : ResourceMap). at_path m q) left ∙ get_other path_total path_exact m.entries p file q apart;
    }

pub put_found : (m m' : ResourceMap) (p : Path) (bytes : List ℕ) (now : ℕ) → put m p bytes now ≡ done m' → Found m p bytes now m'
put_found m m' p bytes now h = by (at_path m p) refl h
  where
    left_by : (n : ResourceMap) → done n ≡ done m' → m' ≡ n
    left_by n h =
        let pairs : (tt {0}, n) ≡ (tt {0}, m') = cc in ap (λ (x : Unit {0} × ResourceMap). x.1) (sym pairs)

    by_kind : (r : Resource) (k : Kind) → at_path m p ≡ Some r → r.node.kind ≡ k
        → (elim k [ Folder ↦ Err fs.Forbidden | File ↦ Ok r ] >>= λ r. done (with_other_node m p r (record r.node { bytes = bytes; modified = now }))) ≡ done m' → Found m p bytes now m'
    by_kind r Folder there is h = absurd (cc)
    by_kind r File there is h = written m m' p r.number (record r.node { bytes = bytes; modified = now }) m.next is (ap props_of (sym there)) (left_by _ h)

    by_folder : (f : Result Resource FsError) → at_path m p ≡ None → (f >>= λ _. done (with_new_entry m p (new_file bytes now))) ≡ done m' → Found m p bytes now m'
    by_folder (Ok r) there h = written m m' p m.next (new_file bytes now) (m.next + 1) refl (ap props_of (sym there)) (left_by _ h)
    by_folder (Err e) there h = absurd (cc)

    by : (o : Option Resource) → at_path m p ≡ o → put_at m p bytes now o ≡ done m' → Found m p bytes now m'
    by (Some r) there h = by_kind r r.node.kind there refl h
    by None there h = by_folder (find_folder m (parent p)) there h

pub put_done : (who : Caller) (s s' : State) (p : Path) (bytes : List ℕ) (reply : Reply) → Serves (live who.now s) (asking who (Command.Put p bytes)) (Ok reply) s'
    → Puts s who.now p bytes s'
put_done who s s' p bytes reply h =
    let did = change_left (put s.map p bytes who.now) reply s'.map h.1.0 in
    let found = put_found s.map s'.map p bytes who.now did in
    record {
      file = found.file;
      here = found.here;
      kind = found.kind;
      bytes_are = found.bytes_are;
      modified = found.modified;
      props = found.props;
      others = found.others;
      did = did;
      left = rebuilt (live who.now s) s' h.1.1;
    }

-- ---- refusals

-- where the files refuse it
files_refuse : (who : Caller) (s : State) (p : Path) (bytes : List ℕ) (e : FsError) (o : Option Resource) → at_path s.map p ≡ o
    → locks_against_putting s who p bytes ≡ [] → put s.map p bytes who.now ≡ Err e → CantPut s who p bytes (unputtable (is_some o))
files_refuse who s p bytes e (Some r) here free h = by r.node.kind refl (sym (ap (put_at s.map p bytes who.now) here) ∙ h)
  where
    by : (k : Kind) → r.node.kind ≡ k
        → (elim k [ Folder ↦ Err fs.Forbidden | File ↦ Ok r ] >>= λ r. done (with_other_node s.map p r (record r.node { bytes = bytes; modified = who.now }))) ≡ Err e
        → CantPut s who p bytes (unputtable true)
    by Folder is h = (refl, free, (r, here, is))
    by File is h = absurd (cc)
files_refuse who s p bytes e None here free h = (free, here, (e, h))

pub put_refused : (who : Caller) (s s' : State) (p : Path) (bytes : List ℕ) (e : Refusal)
    → Serves (live who.now s) (asking who (Command.Put p bytes)) (Err e) s' → CantPut s who p bytes (put_fault (is_some (at_path s.map p)) e)
put_refused who s s' p bytes (Fs fs.InsufficientStorage) h = tt
put_refused who s s' p bytes (Fs _) h = elim h.0.2 [
  | inl lacks ↦ absurd (cc)
  | inr refused ↦ files_refuse who s p bytes _ (at_path s.map p) refl h.0.1 (change_err (put s.map p bytes who.now) _ refused.0)
]
put_refused who s s' p bytes (Locked l) h = (l, h.0, refl)
put_refused who s s' p bytes NoLock h = absurd h.0
put_refused who s s' p bytes OutOfMemory h = tt

-- there may be no room for its note
pub put_unmade : (who : Caller) (s s' : State) (p : Path) (bytes : List ℕ) (e : Refusal)
    → Serves (live who.now s) (asking who (Command.Put p bytes)) (Err e) s' ⊎ (e ≡ OutOfMemory) → CantPut s who p bytes (put_fault (is_some (at_path s.map p)) e)
put_unmade who s s' p bytes e (inl h) = put_refused who s s' p bytes e h
put_unmade who s s' p bytes e (inr lacks) = subst (λ r. CantPut s who p bytes (put_fault (is_some (at_path s.map p)) r)) (sym lacks) tt

-- ---- checks of locks

pub first_refused : (who : Caller) (s : State) (p : Path) (there : Bool) (e : Fault) → IsRefusedBy (refusing_at s who p) e
    → IsRefusedBy (refusing s.locks (as_caller who) (target_by there p)) e
first_refused who s p true e h =
    more_refused (refusing_at s who p) (refusing_at s who p ++ []) e (Contains-append_left (refusing_at s who p) []) h
first_refused who s p false e h =
    more_refused (refusing_at s who p) (refusing_at s who p ++ (refusing_at s who (parent p) ++ [])) e
    (Contains-append_left (refusing_at s who p) (refusing_at s who (parent p) ++ [])) h

pub above_refused : (who : Caller) (s : State) (p : Path) (e : Fault) → IsRefusedBy (refusing_at s who (parent p)) e
    → IsRefusedBy (refusing s.locks (as_caller who) (target_by false p)) e
above_refused who s p e h =
    more_refused (refusing_at s who (parent p)) (refusing_at s who p ++ (refusing_at s who (parent p) ++ [])) e
    (λ l within. Contains-append_right (refusing_at s who p) (refusing_at s who (parent p) ++ []) l
    (Contains-append_left (refusing_at s who (parent p)) [] l within)) h

pub above_fails : {A : Type 0} (who asker : Caller) (s mid : State) (p q : Path) (there : Bool) (result : Result A Fault) → there ≡ false → asker ≡ who → SameLive who.now s mid
    → q ≡ parent p → IfErr result (λ e. IsRefusedBy (refusing_at (live asker.now mid) asker q) e)
    → IfErr result (λ e. IsRefusedBy (refusing (live who.now s).locks (as_caller who) (target_by there p)) e)
above_fails who asker s mid p q there (Ok x) lacks same still is h = tt
above_fails who asker s mid p q there (Err e) lacks same still is h =
    let at_who = subst (λ (w : Caller). IsRefusedBy (refusing_at (live w.now mid) w q) e) same h in
    let at_start = subst (λ (t : State). IsRefusedBy (refusing_at t who q) e) still at_who in
    let above = subst (λ q. IsRefusedBy (refusing_at (live who.now s) who q) e) is at_start in
    subst (λ b. IsRefusedBy (refusing (live who.now s).locks (as_caller who) (target_by b p)) e) (sym lacks) (above_refused who (live who.now s) p e above)

pub above_passes : {A : Type 0} (who asker : Caller) (s mid : State) (p q : Path) (there : Bool) (result : Result A Fault) → there ≡ false → refusing_at (live who.now s) who p ≡ [] → asker ≡ who
    → SameLive who.now s mid → q ≡ parent p → OnOk result (refusing_at (live asker.now mid) asker q ≡ []) → OnOk result (refusing (live who.now s).locks (as_caller who) (target_by there p) ≡ [])
above_passes who asker s mid p q there (Ok x) lacks free same still is h =
    let s' = live who.now s in
    let at_who = subst (λ (w : Caller). refusing_at (live w.now mid) w q ≡ []) same h in
    let at_start = subst (λ (t : State). refusing_at t who q ≡ []) still at_who in
    let above = subst (λ q. refusing_at s' who q ≡ []) is at_start in
    subst (λ b. refusing s'.locks (as_caller who) (target_by b p) ≡ []) (sym lacks) (ap (λ xs. xs ++ (refusing_at s' who (parent p) ++ [])) free ∙ ap (λ xs. xs ++ []) above)
above_passes who asker s mid p q there (Err e) lacks free same still is h = tt

-- the locks that are looked at are those that stand in the way
pub ways : (who : Caller) (s : State) (p : Path) (bytes : List ℕ) (there : Bool) → there ≡ is_some (at_path s.map p)
    → refusing (live who.now s).locks (as_caller who) (target_by there p) ≡ locks_against_putting s who p bytes
ways who s p bytes there is = ap (λ b. refusing (live who.now s).locks (as_caller who) (target_by b p)) is

-- none stands in the way
pub free_way : (who asker : Caller) (s mid : State) (p : Path) (bytes : List ℕ) (there : Bool) → asker ≡ who → SameLive who.now s mid → there ≡ is_some (at_path s.map p)
    → refusing (live asker.now mid).locks (as_caller asker) (target_by there p) ≡ [] → locks_against_putting s who p bytes ≡ []
free_way who asker s mid p bytes there same still is h =
    let at_who = subst (λ (w : Caller). refusing (live w.now mid).locks (as_caller w) (target_by there p) ≡ []) same h in
    let at_start = subst (λ (t : State). refusing t.locks (as_caller who) (target_by there p) ≡ []) still at_who in
    sym (ways who s p bytes there is) ∙ at_start

fails_locked : (who : Caller) (s : State) (p : Path) (bytes : List ℕ) (e : Fault) → IsRefusedBy (locks_against_putting s who p bytes) e
    → CantPut s who p bytes e
fails_locked who s p bytes fault.InsufficientStorage h = tt
fails_locked who s p bytes (fault.Locked path) h = h
fails_locked who s p bytes _ h = absurd h

pub locked : (who asker : Caller) (s mid : State) (p : Path) (bytes : List ℕ) (there : Bool) (e : Fault) → asker ≡ who
    → SameLive who.now s mid → there ≡ is_some (at_path s.map p) → IsRefusedBy (refusing (live asker.now mid).locks (as_caller asker) (target_by there p)) e
    → CantPut s who p bytes e
locked who asker s mid p bytes there e same still is h =
    let at_who = subst (λ (w : Caller). IsRefusedBy (refusing (live w.now mid).locks (as_caller w) (target_by there p)) e) same h in
    let at_start = subst (λ (t : State). IsRefusedBy (refusing t.locks (as_caller who) (target_by there p)) e) still at_who in
    fails_locked who s p bytes e (subst (λ locks. IsRefusedBy locks e) (ways who s p bytes there is) at_start)

-- ---- what is known of the path

-- a folder above lets a file be made
made_in : (m : ResourceMap) (p : Path) (bytes : List ℕ) (now : ℕ) (r : Resource) → at_path m (parent p) ≡ Some r → r.node.kind ≡ Folder
    → (m' : ResourceMap) × ((find_folder m (parent p) >>= λ (_ : Resource). done (with_new_entry m p (new_file bytes now))) ≡ done m')
made_in m p bytes now r here kind = rw (here, kind) (with_new_entry m p (new_file bytes now), refl)

written_over : (m : ResourceMap) (p : Path) (bytes : List ℕ) (now : ℕ) (r : Resource) → r.node.kind ≡ File
    → (m' : ResourceMap) × (put_at m p bytes now (Some r) ≡ done m')
written_over m p bytes now r kind = (
  with_other_node m p r (record r.node { bytes = bytes; modified = now }),
  ap (λ k. elim k [ Folder ↦ Err fs.Forbidden | File ↦ Ok r ] >>= λ r. done (with_other_node m p r (record r.node { bytes = bytes; modified = now }))) kind,
)

pub has_place : (m : ResourceMap) (p : Path) (bytes : List ℕ) (now : ℕ) (known : Option Meta) → known ≡ known_at m p → HasPlace m p known
    → (m' : ResourceMap) × (put m p bytes now ≡ Ok (tt, m'))
has_place m p bytes now known is place = by (at_path m p) (subst (HasPlace m p) is place)
  where
    by : (o : Option Resource) → HasPlace m p (option_map (λ (r : Resource). meta_at r.node) o) → (m' : ResourceMap) × (put_at m p bytes now o ≡ done m')
    by (Some r) h = written_over m p bytes now r h
    by None h = made_in m p bytes now h.0 h.1 h.2

-- without a folder above none is made
none_above : (m : ResourceMap) (q : Path) (o : Option Resource) → at_path m q ≡ o → IsNone m q Folder → (e : FsError) × (find_folder m q ≡ Err e)
none_above m q (Some r) here none = by r.node.kind refl
  where
    by : (k : Kind) → r.node.kind ≡ k → (e : FsError) × (find_folder m q ≡ Err e)
    by Folder is = absurd (none r here is)
    by File is = rw (here, is) (fs.Forbidden, refl)
none_above m q None here none = rw here (refusal_at m q, refl)

lacks_place : (who : Caller) (s : State) (p : Path) (bytes : List ℕ) (known : Option Meta) (e : Fault) → known ≡ known_at s.map p
    → locks_against_putting s who p bytes ≡ [] → (e ≡ fault.InsufficientStorage) ⊎ LacksPlace s.map p known e → CantPut s who p bytes e
lacks_place who s p bytes known e is free (inl short) = subst (CantPut s who p bytes) (sym short) tt
lacks_place who s p bytes known e is free (inr lacks) = by (at_path s.map p) refl (subst (λ k. LacksPlace s.map p k e) is lacks)
  where
    by : (o : Option Resource) → at_path s.map p ≡ o → LacksPlace s.map p (option_map (λ (r : Resource). meta_at r.node) o) e → CantPut s who p bytes e
    by (Some r) here h = subst (CantPut s who p bytes) (sym h.0) (refl, free, (r, here, h.1))
    by None here h =
        let above = none_above s.map (parent p) (at_path s.map (parent p)) refl h.1 in
        let refused : put s.map p bytes who.now ≡ Err above.0 =
        ap (put_at s.map p bytes who.now) here ∙ ap (λ (f : Result Resource FsError). f >>= λ (_ : Resource). done (with_new_entry s.map p (new_file bytes who.now))) above.1 in
        subst (CantPut s who p bytes) (sym h.0) (free, here, (above.0, refused))

-- by a map that stayed
pub lacks_place_at : (who : Caller) (s : State) (p : Path) (bytes : List ℕ) (known : Option Meta) (e : Fault) → known ≡ known_at s.map p
    → locks_against_putting s who p bytes ≡ [] → (mid : State) → mid.map ≡ s.map → (e ≡ fault.InsufficientStorage) ⊎ LacksPlace mid.map p known e → CantPut s who p bytes e
lacks_place_at who s p bytes known e is free mid same lacks =
    lacks_place who s p bytes known e is free (subst (λ m. (e ≡ fault.InsufficientStorage) ⊎ LacksPlace m p known e) same lacks)

-- it can be put
pub can_put : (who : Caller) (s : State) (p : Path) (bytes : List ℕ) (known : Option Meta) → known ≡ known_at s.map p → locks_against_putting s who p bytes ≡ [] → (mid : State)
    → mid.map ≡ s.map → HasPlace mid.map p known → CanPut s who p bytes
can_put who s p bytes known is free mid same place = (free, has_place s.map p bytes who.now known is (subst (λ m. HasPlace m p known) same place))
