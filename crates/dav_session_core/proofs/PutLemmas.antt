-- What the looks and checks before a change say of it, and what a change leaves beside the map.
use Rattle.std.proofs.Common.{Bool, ◌≡◌, List, [], ◌++◌, Option, Some, None, Result, Ok, Err, refl, sym, ◌∙◌, ap, subst}
use Rattle.std.specs.Prelude.{is_some, option_map, Contains}
use Rattle.std.proofs.lemmas.List.{append-nil}
use Rattle.dav_path_core.specs.declared.errors.FsError.{FsError}
use Rattle.dav_path_core.specs.Fronts.{Path, parent}
use Rattle.dav_files_core.specs.declared.memfs.Kind.TheVariants.{Folder}
use Rattle.dav_files_core.specs.Meta.{Meta}
use Rattle.dav_files_core.specs.Resources.{Resource, ResourceMap, at_path}
use Rattle.dav_locks_core.specs.Lock.{Lock}
use Rattle.dav_locks_core.specs.Locks.{check_conflicts}
use Rattle.dav_guarded_core.specs.Requests.{Command, Answer, Locked}
use Rattle.dav_guarded_core.specs.ResourceStep.{changes}
use Rattle.dav_guarded_core.specs.Step.{State, Serves, Step, IsState}
use Rattle.dav_faults_core.specs.declared.faults.Fault.{Fault}
use Rattle.dav_faults_core.specs.declared.faults.Fault.TheVariants as fault
use Rattle.dav_session_core.specs.Callers.{Caller, SameLive, as_caller, asking, live}
use Rattle.dav_session_core.specs.Ends.{known_at}
use Rattle.dav_session_core.specs.LocksInTheWay.{IsRefusedBy}
use Rattle.dav_fields_core.proofs.ReadMarks.{known_entry}

pub rebuilt : (s s' : State) → IsState s' s'.map s.locks s.rng → s' ≡ record s { map = s'.map }
rebuilt s s' h = rw (sym h.locks_are, sym h.rng_is) refl

-- ---- refusals

pub change_err : (f : Result (Unit {0} × ResourceMap) FsError) (e : FsError) → changes f ≡ Err e → f ≡ Err e
change_err (Ok x) e h = absurd (cc)
change_err (Err d) e h = let same : d ≡ e = cc in ap Err same

-- ---- behind a look

-- what stands there, or nothing
pub known_there : {A B C : Type 0} (f : A → C) (g : B → C) (known : Option A) (o : Option B) → option_map f known ≡ option_map g o → is_some known ≡ is_some o
known_there f g (Some x) (Some y) h = refl
known_there f g (Some x) None h = absurd (cc)
known_there f g None (Some y) h = absurd (cc)
known_there f g None None h = refl

-- what a look of the same caller leaves is what it found
pub same_look : (who asker : Caller) (s mid : State) → asker ≡ who → SameLive who.now s mid → live asker.now mid ≡ live who.now s
same_look who asker s mid same still = ap (λ (w : Caller). live w.now mid) same ∙ still

-- a request of the same caller that follows a look starts from what the look started from
pub after_look : (who asker : Caller) (s mid s' : State) (c : Command) (a : Answer) → asker ≡ who → SameLive who.now s mid → Step mid (asking asker c) a s'
    → Serves (live who.now s) (asking who c) a s'
after_look who asker s mid s' c a same still h =
    subst (λ t. Serves t (asking who c) a s') still (subst (λ w. Step mid (asking w c) a s') same h)

-- ---- checks of locks

module _ {A : Type 0} where
  pub both_none : (front back : List A) → front ≡ [] → back ≡ [] → front ++ (back ++ []) ≡ []
  both_none front back h k = rw (h, k) refl

-- the lock that refuses a check
pub check_refused : (who : Caller) (s s' : State) (p : Path) (deep : Bool) (l : Lock) → Step s (asking who (Command.Check p deep)) (Err (Locked l)) s'
    → IsRefusedBy (check_conflicts (live who.now s).locks p deep (as_caller who)) (fault.Locked l.path)
check_refused who s s' p deep l h =
    (l, subst (λ locks. Contains locks l) (append-nil (check_conflicts (live who.now s).locks p deep (as_caller who))) h.0, refl)

-- what refuses a check refuses all of them
pub more_refused : (locks more : List Lock) (e : Fault) → ((l : Lock) → Contains locks l → Contains more l) → IsRefusedBy locks e → IsRefusedBy more e
more_refused locks more fault.InsufficientStorage within h = tt
more_refused locks more (fault.Locked path) within h = (h.0, within h.0 h.1, h.2)
more_refused locks more _ within h = absurd h

-- ---- what is known of the path

-- what is known of the path above
pub above_stands : (m : ResourceMap) (p q : Path) (known : Meta) → q ≡ parent p → Some known ≡ known_at m q → known.kind ≡ Folder
    → (r : Resource) × (at_path m (parent p) ≡ Some r) × (r.node.kind ≡ Folder)
above_stands m p q known is found kind =
    let entry = known_entry m q known found in (entry.0, ap (at_path m) (sym is) ∙ entry.1, sym (ap (λ (k : Meta). k.kind) entry.2) ∙ kind)
