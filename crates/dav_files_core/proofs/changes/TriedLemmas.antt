-- Another node of an entry, in the tree and in the map, where the change may be refused.
use Rattle.std.proofs.Common.{◌≡◌, inl, ℕ, Some, Result, Ok, Err, IfOk, IfErr, OnOk, refl, sym, subst}
use Rattle.dav_path_core.specs.StoreAnswers.{AnswersAs}
use Rattle.dav_path_core.specs.declared.errors.FsError.{FsError}
use Rattle.dav_path_core.specs.declared.errors.FsError.TheVariants.{InsufficientStorage}
use Rattle.dav_path_core.specs.Fronts.{Path}
use Rattle.dav_files_core.specs.Outcomes.{with_other_node}
use Rattle.dav_files_core.specs.Private.Entries.{HasNumber}
use Rattle.dav_files_core.specs.Private.FileRepresents.{FileTree, Represents, resource_map}
use Rattle.dav_files_core.specs.Private.TreeCalls.{IsThere, SetsNode}
use Rattle.dav_files_core.specs.Resources.{Node, Resource, ResourceMap, at_path}
use Rattle.dav_files_core.proofs.changes.LeftLemmas.{stands_itself, is_view}

pub is_there : (t : FileTree) (m : ResourceMap) → Represents t m → (id : ℕ) → HasNumber m id → IsThere t id
is_there t m rep id h = let s = rep.shown h.0 h.1 h.2 in subst (IsThere t) h.3 (s.placed, s.stored)

module _ {A : Type 0} (t : FileTree) (m : ResourceMap) (rep : Represents t m) (id : ℕ) (set : Node → Node)
    (stands : (p : Path) (r : Resource) → at_path m p ≡ Some r → r.number ≡ id → (t' : FileTree) → SetsNode t id set (Ok tt) t' → Represents t' (with_other_node m p r (set r.node))) where
  abbrev Sets : Result A FsError → FileTree → Type 0
  Sets r t' = OnOk r (SetsNode t id set (Ok tt) t')

  abbrev Keeps : Result A FsError → FileTree → Type 0
  Keeps r t' = IfErr r (λ e. (e ≡ InsufficientStorage) × (t' ≡ t))

  pub tried_left : HasNumber m id → (r : Result A FsError) (t' : FileTree) → Sets r t' → Keeps r t' → Represents t' (resource_map t')
  tried_left h (Ok x) t' sets keeps = stands_itself t' _ (stands h.0 h.1 h.2 h.3 t' sets)
  tried_left h (Err e) t' sets keeps = stands_itself t' m (subst (λ t. Represents t m) (sym keeps.1) rep)

  pub tried_answer : {B : Type 0} (view : A → B) (answer : B) (r : Result A FsError) (t' : FileTree) → Sets r t' → Keeps r t' → IfOk r (λ x. view x ≡ answer)
      → (p : Path) (x : Resource) → at_path m p ≡ Some x → x.number ≡ id → AnswersAs view r (Ok (answer, with_other_node m p x (set x.node))) m (resource_map t')
  tried_answer view answer (Ok v) t' sets keeps is p x here number = λ i. Ok (is' i, left i)
    where
      is' : answer ≡ view v
      is' = sym is

      left : with_other_node m p x (set x.node) ≡ resource_map t'
      left = is_view t' _ (stands p x here number t' sets)
  tried_answer view answer (Err e) t' sets keeps is p x here number = (sym (is_view t' m (subst (λ t. Represents t m) (sym keeps.1) rep)), inl (keeps.0, refl))
