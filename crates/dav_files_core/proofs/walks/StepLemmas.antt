-- The steps of a walk down a path, by the tree's calls.
use Rattle.std.proofs.Common.{◌≡◌, ℕ, suc, ◌+◌, ◌<◌, List, [], ◌∷◌, ◌++◌, length, take, drop, get_or, zero, Option, Some, None, Result, Ok, Err, refl, sym, ap, ◌∙◌, subst, arith, append_assoc}
use Rattle.std.proofs.Math.Seq.{drop-cons}
use Rattle.std.proofs.lemmas.List.{take-append-drop, take_more}
use Rattle.std.specs.FinMap.{get}
use Rattle.dav_path_core.specs.declared.errors.FsError.{FsError}
use Rattle.dav_path_core.specs.declared.errors.FsError.TheVariants.{NotFound, Forbidden}
use Rattle.dav_files_core.specs.declared.memfs.Kind.{Kind}
use Rattle.dav_files_core.specs.declared.memfs.Kind.TheVariants.{Folder, File}
use Rattle.dav_files_core.specs.Outcomes.{◌>>=◌, find_folder, only_folder}
use Rattle.dav_files_core.specs.Private.FileRepresents.{FileEntry, FileTree, Represents}
use Rattle.dav_files_core.specs.Resources.{Node, Resource, ResourceMap, at_path, IsResourceMap}
use Rattle.dav_files_core.specs.Private.TreeCalls.{IsEntry, IsMissing, IsRefusedAlike, IsMember}
use Rattle.dav_path_core.specs.Fronts.{Segment, Path}
use Rattle.dav_files_core.proofs.walks.WalkLemmas.{node_below}
use Rattle.dav_files_core.proofs.walks.FoundLemmas.{parent-snoc, find_there, find_below, lost_below, refused_below, file_stuck}
use Rattle.dav_files_core.proofs.changes.LeftLemmas.{item_is, child_entry}

pub not_file : (k : Kind) → ¬ (k ≡ File) → k ≡ Folder
not_file Folder h = refl
not_file File h = absurd (h refl)

-- an item that is there, whatever would stand for a missing one
pub item_there : (xs : List (List ℕ)) (i : ℕ) (x y : List ℕ) → i < length xs → get_or xs i x ≡ get_or xs i y
item_there [] i x y h = absurd (omega arith)
item_there (z ∷ xs) zero x y h = refl
item_there (z ∷ xs) (suc i) x y h = item_there xs i x y (omega arith)

-- a path cut behind one of its segments
pub cut_at : (path : Path) (i : ℕ) (name : Segment) → i < length path → get_or path i [] ≡ name → take i path ++ (name ∷ drop (suc i) path) ≡ path
cut_at path i name inside is = ap (λ s. take i path ++ (s ∷ drop (suc i) path)) (sym is) ∙ ap (λ rest. take i path ++ rest) (sym (drop-cons path i [] inside)) ∙ take-append-drop i path

pub one_more : (path : Path) (i : ℕ) (name : Segment) → i < length path → get_or path i [] ≡ name → take (i + 1) path ≡ take i path ++ (name ∷ [])
one_more path i name inside is = take_more path i [] inside ∙ ap (λ s. take i path ++ (s ∷ [])) is

module _ (t : FileTree) (m : ResourceMap) (rep : Represents t m) (p : Path) (r : Resource) (here : at_path m p ≡ Some r) (id : ℕ) (number : r.number ≡ id) (name : Segment) where
  pub below_file : (n : FileEntry) → get t.nodes id ≡ Some n → n.item.kind ≡ File → IsRefusedAlike m (p ++ (name ∷ [])) Forbidden
  below_file n stored file =
      let kind : r.node.kind ≡ File = ap (λ (n : Node). n.kind) (sym (item_is t m rep p r here id number n stored)) ∙ file in
      let above : find_folder m p ≡ Err Forbidden = ap (λ (f : Result Resource FsError). f >>= only_folder) (find_there m p r here) ∙ ap (λ k. elim k [ Folder ↦ Ok r | File ↦ Err Forbidden ]) kind in (
        find_below m p name (file_stuck m rep.is_map p name r here kind) ∙ ap (λ (f : Result Resource FsError). f >>= λ (_ : Resource). Err NotFound) above,
        ap (find_folder m) (parent-snoc p name) ∙ above,
      )

  pub no_member : ((c : ℕ) → ¬ (IsMember t id name c)) → at_path m (p ++ (name ∷ [])) ≡ None
  no_member none = by (at_path m (p ++ (name ∷ []))) refl
    where
      by : (o : Option Resource) → at_path m (p ++ (name ∷ [])) ≡ o → o ≡ None
      by None e = refl
      by (Some c) e =
          let (k, item, stored, same, _) = node_below t m rep p r name c here e in
          absurd (none c.number (item, stored ∙ ap Some (λ j. record { parent_and_key = Some (number j, same j); item = item })))

  pub below_folder : (n : FileEntry) → get t.nodes id ≡ Some n → ¬ (n.item.kind ≡ File) → ((c : ℕ) → ¬ (IsMember t id name c)) → IsMissing m (p ++ (name ∷ [])) id name
  below_folder n stored folder none =
      let kind : r.node.kind ≡ Folder = not_file r.node.kind (λ file. folder (ap (λ (n : Node). n.kind) (item_is t m rep p r here id number n stored) ∙ file)) in
      let above : find_folder m p ≡ Ok r = ap (λ (f : Result Resource FsError). f >>= only_folder) (find_there m p r here) ∙ ap (λ k. elim k [ Folder ↦ Ok r | File ↦ Err Forbidden ]) kind in (
        find_below m p name (no_member none) ∙ ap (λ (f : Result Resource FsError). f >>= λ (_ : Resource). Err NotFound) above,
        ap (λ q. q ++ (name ∷ [])) (sym (parent-snoc p name)),
        (r, ap (find_folder m) (parent-snoc p name) ∙ above, number),
      )

  pub at_member : (c : ℕ) → IsMember t id name c → IsEntry m (p ++ (name ∷ [])) c
  at_member c child = let x = child_entry t m rep p r here id number name c child in (x.0, find_there m (p ++ (name ∷ [])) x.0 x.1, x.2)

pub at_root : (m : ResourceMap) → IsResourceMap m → IsEntry m [] 1
at_root m is_map = let root = is_map.root in (root.0, find_there m [] root.0 root.1, root.2)

module _ (m : ResourceMap) (is_map : IsResourceMap m) (path : Path) (i : ℕ) (name : Segment) (inside : i < length path) (is : get_or path i [] ≡ name) where
  pub behind_refused : (e : FsError) → IsRefusedAlike m (take i path ++ (name ∷ [])) e → IsRefusedAlike m path e
  behind_refused e h =
      let whole : (take i path ++ (name ∷ [])) ++ drop (suc i) path ≡ path = append_assoc (take i path) (name ∷ []) (drop (suc i) path) ∙ cut_at path i name inside is in
      subst (λ q. IsRefusedAlike m q e) whole (refused_below m is_map (take i path ++ (name ∷ [])) e h (drop (suc i) path))

  pub behind_missing : (folder : ℕ) (s : Segment) → IsMissing m (take i path) folder s → IsRefusedAlike m path NotFound
  behind_missing folder s h = subst (λ q. IsRefusedAlike m q NotFound) (cut_at path i name inside is) (lost_below m is_map (take i path) NotFound h.0 name (drop (suc i) path))
