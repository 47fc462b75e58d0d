-- What one copy leaves in a map, and that it is done where no lock refuses it.
use Rattle.std.proofs.Common.{◌≡◌, ◌≢◌, inl, inr, ℕ, false, List, [], ◌∷◌, ◌++◌, append_assoc, Option, Some, None, Ok, Err, refl, sym, ap, ◌∙◌, subst}
use Rattle.std.specs.Prelude.{Contains, ok_or, option_map}
use Rattle.dav_path_core.specs.declared.errors.FsError.TheVariants.{Forbidden}
use Rattle.dav_path_core.specs.Fronts.{Path, parent}
use Rattle.dav_path_core.proofs.lists.FinMaps.{get_other, get_same}
use Rattle.dav_path_core.proofs.lists.MemberLemmas.{In-Contains}
use Rattle.dav_path_core.proofs.lists.Orders.{path_exact, path_total}
use Rattle.dav_files_core.specs.declared.memfs.Kind.{Kind}
use Rattle.dav_files_core.specs.declared.memfs.Kind.TheVariants.{File, Folder}
use Rattle.dav_files_core.specs.ResourceCopying.{copy, copy_to}
use Rattle.dav_files_core.specs.Finding.{refusal_at}
use Rattle.dav_files_core.specs.Outcomes.{Outcome, ◌>>=◌, with_new_entry, with_other_node}
use Rattle.dav_files_core.specs.Resources.{IsResourceMap, Node, Resource, ResourceMap, at_path}
use Rattle.dav_files_core.proofs.changes.MakingLemmas.{folder_found}
use Rattle.dav_files_core.proofs.moves.MovingLemmas.{front_there}
use Rattle.dav_guarded_core.specs.Checks.{refusing, target}
use Rattle.dav_guarded_core.specs.Requests.{Answer, Command, Reply, Fs, Locked, NoLock, OutOfMemory}
use Rattle.dav_guarded_core.specs.Step.{Serves, State, Step}
use Rattle.dav_guarded_core.proofs.Frame.{change_left}
use Rattle.dav_guarded_core.proofs.StepLaws.{Same-equal}
use Rattle.dav_session_core.specs.Callers.{Caller, as_caller, asking}
use Rattle.dav_session_core.specs.Copying.{copies_made, created_at, node_at}
use Rattle.dav_session_core.specs.Ends.{HasFolder}
use Rattle.dav_session_core.specs.StoreRefusals.{put_fault}
use Rattle.dav_faults_core.specs.declared.faults.Fault.TheVariants as fault
use Rattle.dav_session_core.proofs.MakeLemmas.{done, left_by}
use Rattle.dav_session_core.proofs.PutLemmas.{change_err, rebuilt}

-- ---- what stands below a place without a folder

-- nothing stands there
pub nothing_below : (m : ResourceMap) (p : Path) (s : List ℕ) (rest : Path) → IsResourceMap m → ¬ HasFolder m p → at_path m (p ++ (s ∷ rest)) ≡ None
nothing_below m p s rest is_map none = by (at_path m (p ++ (s ∷ rest))) refl
  where
    by : (o : Option Resource) → at_path m (p ++ (s ∷ rest)) ≡ o → o ≡ None
    by None is = refl
    by (Some r) is =
        let member = front_there m is_map (p ++ (s ∷ [])) rest r (ap (at_path m) (append_assoc p (s ∷ []) rest) ∙ is) in
        absurd (none (is_map.parents p s member.0 member.1))

-- ---- one copy

-- the target has what the source has, and all else is as it was
pub record IsMade (m m' : ResourceMap) (from to : Path) (now : ℕ) : Type 0 where
  pub here : node_at m' to ≡ option_map (created_at now) (node_at m from)
  pub others : (q : Path) → q ≢ to → at_path m' q ≡ at_path m q

module _ (m : ResourceMap) (from to : Path) (now : ℕ) (r : Resource) (stands : at_path m from ≡ Some r) where
  abbrev copied : Node
  copied = created_at now r.node

  made_of : (m' : ResourceMap) (x : Resource) → x.node ≡ copied → at_path m' to ≡ Some x → ((q : Path) → q ≢ to → at_path m' q ≡ at_path m q) → IsMade m m' from to now
  made_of m' x is here others = record {
    here = ap (option_map (λ (r : Resource). r.node)) here ∙ ap Some is ∙ sym (ap (λ o. option_map (created_at now) (option_map (λ (r : Resource). r.node) o)) stands);
    others = others;
  }

  made_anew : IsMade m (with_new_entry m to copied) from to now
  made_anew =
      let x : Resource = record { number = m.next; node = copied } in
      made_of (with_new_entry m to copied) x refl (get_same path_total path_exact m.entries to x) (λ q other. get_other path_total path_exact m.entries to x q other)

  made_over : (t : Resource) → IsMade m (with_other_node m to t copied) from to now
  made_over t =
      let x : Resource = record { number = t.number; node = copied } in
      made_of (with_other_node m to t copied) x refl (get_same path_total path_exact m.entries to x) (λ q other. get_other path_total path_exact m.entries to x q other)

  -- where it can be done, it is
  pub can_copy : HasFolder m (parent to) → ¬ HasFolder m to → (m' : ResourceMap) × (copy m from to now ≡ done m') × IsMade m m' from to now
  can_copy above none = by_source (at_path m from) stands
    where
      by_kind : (t : Resource) (k : Kind) → at_path m to ≡ Some t → t.node.kind ≡ k
          → (m' : ResourceMap) × ((elim k [ Folder ↦ Err Forbidden | File ↦ Ok t ] >>= λ (t : Resource). done (with_other_node m to t copied)) ≡ done m') × IsMade m m' from to now
      by_kind t Folder there kind = absurd (none (t, there, kind))
      by_kind t File there kind = (with_other_node m to t copied, refl, made_over t)

      by_target : (o : Option Resource) → at_path m to ≡ o → (m' : ResourceMap) × (copy_to m to copied o ≡ done m') × IsMade m m' from to now
      by_target (Some t) there = by_kind t t.node.kind there refl
      by_target None there =
          (with_new_entry m to copied, ap (λ f. f >>= λ (_ : Resource). done (with_new_entry m to copied)) (folder_found m (parent to) above.0 above.1 above.2), made_anew)

      by_source : (o : Option Resource) → o ≡ Some r
          → (m' : ResourceMap) × ((ok_or o (refusal_at m from) >>= λ (x : Resource). copy_to m to (created_at now x.node) (at_path m to)) ≡ done m') × IsMade m m' from to now
      by_source (Some x) is =
          let one : x ≡ r = cc in
          let made = by_target (at_path m to) refl in
          (made.0, ap (λ (y : Resource). copy_to m to (created_at now y.node) (at_path m to)) one ∙ made.1, made.2)
      by_source None is = absurd (cc)

-- ---- copies one after another

pub one_made : (who : Caller) (t t' : State) (from to : Path) (pairs : List (Path × Path))
    → (reply : Reply) × Step t (asking who (Command.Copy from to)) (Ok reply) t'
    → copies_made who.now ((from, to) ∷ pairs) t.map ≡ copies_made who.now pairs t'.map
one_made who t t' from to pairs h =
    ap (λ (o : Outcome (Unit {0})). o
    >>= λ (done : Unit {0} × ResourceMap). copies_made who.now pairs done.1)
    (change_left (copy t.map from to who.now) h.0 t'.map h.1.1.0)

-- ---- a request for it

-- how it ends where no lock refuses it: it is done; or memory was lacking, and nothing has changed
abbrev pub Ends : State → ResourceMap → Answer → State → Type 0
Ends s m (Ok reply) s' = s' ≡ record s { map = m }
Ends s m (Err e) s' = (s' ≡ s) × (put_fault false e ≡ fault.InsufficientStorage)

pub copy_ends : (who : Caller) (s s' : State) (from to : Path) (m : ResourceMap) (a : Answer) → refusing s.locks (as_caller who) (target s.map to) ≡ []
    → copy s.map from to who.now ≡ done m → Serves s (asking who (Command.Copy from to)) a s' → Ends s m a s'
copy_ends who s s' from to m (Ok reply) free can h =
    let left : s'.map ≡ m = left_by m s'.map (sym can ∙ change_left (copy s.map from to who.now) reply s'.map h.1.0) in
    rebuilt s s' h.1.1 ∙ ap (λ n. record s { map = n }) left
copy_ends who s s' from to m (Err (Fs e)) free can h = elim h.0.2 [
  | inl lacks ↦ (Same-equal s s' h.1, ap (λ e. put_fault false (Fs e)) lacks.0)
  | inr refused ↦ absurd (let no : done m ≡ Err e = sym can ∙ change_err (copy s.map from to who.now) e refused.0 in cc)
]
copy_ends who s s' from to m (Err (Locked l)) free can h = absurd (In-Contains [] l (subst (λ locks. Contains locks l) free h.0))
copy_ends who s s' from to m (Err NoLock) free can h = absurd h.0
copy_ends who s s' from to m (Err OutOfMemory) free can h = (Same-equal s s' h.1, refl)
