-- Where a path was found to lead, case by case.
use Rattle.std.proofs.Common.{◌≡◌, ℕ, List, Some, Result, Ok, sym, ap, ◌∙◌, subst}
use Rattle.std.specs.Borrow.{Bor}
use Rattle.dav_path_core.specs.declared.errors.FsError.{FsError}
use Rattle.dav_path_core.specs.Fronts.{Path}
use Rattle.dav_files_core.specs.declared.memfs.Kind.TheVariants.{File}
use Rattle.dav_files_core.specs.declared.memfs.Target.{Target}
use Rattle.dav_files_core.specs.declared.memfs.Target.TheVariants.{Entry, Missing}
use Rattle.dav_files_core.specs.Outcomes.{with_new_entry}
use Rattle.dav_files_core.specs.Private.Entries.{HasNumber, HasFileNumbered}
use Rattle.dav_files_core.specs.Private.TreeCalls.{LeadsToTarget, IsMissing}
use Rattle.dav_files_core.specs.Resources.{Node, Resource, ResourceMap, at_path}
use Rattle.dav_files_core.proofs.walks.FoundLemmas.{found_there}

pub entry : (m : ResourceMap) (p : Path) (target : Target) (id : ℕ) → target ≡ Entry id → LeadsToTarget m p (Ok target) → (r : Resource) × (at_path m p ≡ Some r) × (r.number ≡ id)
entry m p target id is h =
    let here = subst (λ (target : Target). LeadsToTarget m p (Ok target)) is h in (here.0, found_there m p here.0 here.1, here.2)

pub entry_number : (m : ResourceMap) (p : Path) (target : Target) (id : ℕ) → target ≡ Entry id → LeadsToTarget m p (Ok target) → HasNumber m id
entry_number m p target id is h = let here = entry m p target id is h in (p, here.0, here.1, here.2)

-- the same of a file, where the node that was found there is one
pub entry_file : (m : ResourceMap) (p : Path) (target : Target) (id : ℕ) → target ≡ Entry id → LeadsToTarget m p (Ok target) → (node : Node)
    → ((p : Path) (r : Resource) → at_path m p ≡ Some r → r.number ≡ id → node ≡ r.node) → node.kind ≡ File → HasFileNumbered m id
entry_file m p target id is h node found file =
    let here = entry m p target id is h in
    (p, here.0, here.1, here.2, ap (λ (n : Node). n.kind) (sym (found p here.0 here.1 here.2)) ∙ file)

pub missing : (m : ResourceMap) (p : Path) (target : Target) (folder : ℕ) (name : Bor (List ℕ)) → target ≡ Missing folder name → LeadsToTarget m p (Ok target) → IsMissing m p folder name.now
missing m p target folder name is h = subst (λ (target : Target). LeadsToTarget m p (Ok target)) is h

-- the map that adding left
pub left_added : (m : ResourceMap) (p : Path) (node : Node) (id : ℕ) (new : ResourceMap) → ◌≡◌ {A = Result (ℕ × ResourceMap) FsError} (Ok (m.next, with_new_entry m p node)) (Ok (id, new)) → new ≡ with_new_entry m p node
left_added m p node id new h =
    let pairs : (m.next, with_new_entry m p node) ≡ (id, new) = cc in ap (λ (x : ℕ × ResourceMap). x.1) (sym pairs)
