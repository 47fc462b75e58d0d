-- What is found by the number of an entry.
use Rattle.std.proofs.Common.{◌≡◌, ℕ, Some, None, Result, Ok, Err, IfOk, IfErr, refl, sym, ap, ◌∙◌, subst, Bor}
use Rattle.std.specs.Prelude.{ok_or, Option}
use Rattle.std.specs.FinMap.{get}
use Rattle.dav_path_core.specs.declared.errors.FsError.{FsError}
use Rattle.dav_path_core.specs.declared.errors.FsError.TheVariants.{NotFound, Forbidden}
use Rattle.dav_path_core.specs.Fronts.{Path}
use Rattle.dav_files_core.specs.declared.memfs.Kind.{Kind}
use Rattle.dav_files_core.specs.declared.memfs.Kind.TheVariants.{Folder, File}
use Rattle.dav_files_core.specs.Exactly.{TellsExactly}
use Rattle.dav_files_core.specs.OpenFiles.{open_file, with_number}
use Rattle.dav_files_core.specs.Opening.{OpenFile}
use Rattle.dav_files_core.specs.Outcomes.{◌>>=◌, only_file}
use Rattle.dav_files_core.specs.Private.Numbered.{node_with}
use Rattle.dav_files_core.specs.Private.FileRepresents.{FileEntry, FileTree, Represents}
use Rattle.dav_files_core.specs.Private.TreeCalls.{FindsNode}
use Rattle.dav_files_core.specs.Resources.{Node, Resource, ResourceMap, at_path}
use Rattle.dav_path_core.proofs.lists.FinMaps.{none_some}
use Rattle.dav_files_core.proofs.opens.NumberedLemmas.{number_is, number_gone, numbered_is}
use Rattle.dav_files_core.proofs.changes.LeftLemmas.{item_is, lost}

-- the node with a number in the tree is that of the entry with it
pub node_found : (t : FileTree) (m : ResourceMap) → Represents t m → (n : ℕ) (r : Result (Bor Node) FsError) → IfOk r (λ d. FindsNode t n (Ok d.now)) → IfErr r (λ e. FindsNode t n (Err e))
    → TellsExactly (λ d. d.now) r (node_with m n)
node_found t m rep n (Ok d) h g =
    let e = rep.all n h.0 h.1 in
    ap (λ (o : Option (Path × Resource)). ok_or o NotFound >>= λ (e : Path × Resource). Ok e.1.node) (number_is m rep.is_map e.0 e.1 e.2 n e.3)
    ∙ ap (λ (n : Node). Ok n) (sym (item_is t m rep e.0 e.1 e.2 n e.3 h.0 h.1) ∙ h.2)
node_found t m rep n (Err e) h g =
    ap (λ (o : Option (Path × Resource)). ok_or o NotFound >>= λ (e : Path × Resource). Ok e.1.node) (number_gone m n (λ p r here number. lost t m rep p r here n number g.1))
    ∙ ap (λ (x : FsError). Err x) (sym g.0)

-- and where no entry has the number, no node has
pub no_node : (t : FileTree) (m : ResourceMap) → Represents t m → (n : ℕ) → with_number m n ≡ None → get t.nodes n ≡ None
no_node t m rep n gone = by (get t.nodes n) refl
  where
    by : (o : Option FileEntry) → get t.nodes n ≡ o → o ≡ None
    by None e = refl
    by (Some x) e = let there = rep.all n x e in absurd (none_some (with_number m n) (there.0, there.1) gone (number_is m rep.is_map there.0 there.1 there.2 n there.3))

-- a file that is open stands in the map
pub record IsOpen (m : ResourceMap) (f : OpenFile) (e : Path × Resource) : Type 0 where
  pub there : at_path m e.0 ≡ Some e.1
  pub number : e.1.number ≡ f.number
  pub file : e.1.node.kind ≡ File

pub is_open : (m : ResourceMap) (f : OpenFile) (e : Path × Resource) → open_file m f ≡ Ok e → IsOpen m f e
is_open m f e h = by (with_number m f.number) refl h
  where
    kind : (x : Path × Resource) (k : Kind) → x.1.node.kind ≡ k → ◌≡◌ {A = Result (Path × Resource) FsError} (elim k [ Folder ↦ Err Forbidden | File ↦ Ok x.1 ] >>= λ (_ : Resource). Ok x) (Ok e)
        → (x ≡ e) × (x.1.node.kind ≡ File)
    kind x Folder is h = absurd (cc)
    kind x File is h = (cc, is)

    by : (o : Option (Path × Resource)) → with_number m f.number ≡ o → ◌≡◌ {A = Result (Path × Resource) FsError} (ok_or o NotFound >>= λ (e : Path × Resource). only_file e.1 >>= λ (_ : Resource). Ok e) (Ok e) → IsOpen m f e
    by None is h = absurd (cc)
    by (Some x) is h =
        let old = numbered_is m f.number x is in
        let both = kind x x.1.node.kind refl h in
        subst (IsOpen m f) both.0 (record { there = old.0; number = old.1; file = both.1 })

-- what was found of it
pub found_open : {A : Type 0} (o : Result (Path × Resource) FsError) (f : Node → A) (x : A) → ◌≡◌ {A = Result A FsError} (Ok x) (o >>= (λ (e : Path × Resource). Ok e.1.node) >>= λ (node : Node). Ok (f node))
    → (e : Path × Resource) × (o ≡ Ok e) × (x ≡ f e.1.node)
found_open (Ok e) f x h = (e, refl, cc)
found_open (Err e) f x h = absurd (cc)
