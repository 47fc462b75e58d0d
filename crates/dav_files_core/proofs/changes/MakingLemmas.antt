-- What making a folder answers, by where its path leads.
use Rattle.std.proofs.Common.{◌≡◌, inl, inr, ℕ, [], Some, None, Option, is_some, Result, Ok, Err, sym, ap, ◌∙◌}
use Rattle.std.specs.Prelude.{if◌then◌else◌, ok_or}
use Rattle.dav_path_core.specs.declared.errors.FsError.{FsError}
use Rattle.dav_path_core.specs.declared.errors.FsError.TheVariants.{Exists, NotFound, Forbidden}
use Rattle.dav_path_core.specs.Fronts.{Segment, Path, parent}
use Rattle.dav_path_core.proofs.lists.FinMaps.{none_some, get_other}
use Rattle.dav_path_core.proofs.lists.Orders.{path_total, path_exact}
use Rattle.dav_path_core.proofs.lists.Snoc.{by_last}
use Rattle.dav_files_core.specs.declared.memfs.Kind.TheVariants.{Folder, File}
use Rattle.dav_files_core.specs.Finding.{refusal_at}
use Rattle.dav_files_core.specs.Folders.{create_dir}
use Rattle.dav_files_core.specs.Outcomes.{Outcome, ◌>>=◌, find_folder, only_folder, with_new_entry, with_modified_time, new_folder}
use Rattle.dav_files_core.specs.Private.TreeCalls.{IsMissing}
use Rattle.dav_files_core.specs.Resources.{Node, Resource, ResourceMap, at_path, IsResourceMap}
use Rattle.dav_files_core.proofs.walks.FoundLemmas.{parent-snoc, not_there, folder_there}

-- a folder that is there is found
pub folder_found : (m : ResourceMap) (p : Path) (r : Resource) → at_path m p ≡ Some r → r.node.kind ≡ Folder → find_folder m p ≡ Ok r
folder_found m p r here kind =
    ap (λ o. ok_or o (refusal_at m p) >>= only_folder) here ∙ ap (λ k. elim k [ Folder ↦ Ok r | File ↦ Err Forbidden ]) kind

-- what is there has its folder
pub folder_above : (m : ResourceMap) → IsResourceMap m → (p : Path) (r : Resource) → at_path m p ≡ Some r → (f : Resource) × (find_folder m (parent p) ≡ Ok f)
folder_above m is_map p r here = elim (by_last p) [
  | inl empty ↦ let root = is_map.root in (root.0, ap (λ p. find_folder m (parent p)) empty ∙ folder_found m [] root.0 root.1 root.3)
  | inr last ↦
      let above = is_map.parents last.0 last.1 r (ap (at_path m) (sym last.2) ∙ here) in
      (above.0, ap (λ p. find_folder m (parent p)) last.2 ∙ ap (find_folder m) (parent-snoc last.0 last.1) ∙ folder_found m last.0 above.0 above.1 above.2)
]

module _ (m : ResourceMap) (p : Path) (now : ℕ) where
  rest : (f : Result Resource FsError) → Outcome (Unit {0})
  rest f = f >>= λ (_ : Resource). if is_some (at_path m p) then Err Exists else Ok (tt, with_modified_time (with_new_entry m p (new_folder now)) (parent p) now)

  pub made_taken : IsResourceMap m → (r : Resource) → at_path m p ≡ Some r → create_dir m p now ≡ Err Exists
  unfolding rest
  made_taken is_map r here =
      ap rest (folder_above m is_map p r here).1
      ∙ ap (λ (o : Option Resource). if is_some o then Err Exists else Ok (tt {0}, with_modified_time (with_new_entry m p (new_folder now)) (parent p) now)) here

  module _ (folder : ℕ) (name : Segment) (h : IsMissing m p folder name) where
    none : at_path m p ≡ None
    none = not_there m p NotFound h.0

    pub made_free : create_dir m p now ≡ Ok (tt, with_modified_time (with_new_entry m p (new_folder now)) (parent p) now)
    unfolding rest
    made_free =
        ap rest h.2.1
        ∙ ap (λ (o : Option Resource). if is_some o then Err Exists else Ok (tt {0}, with_modified_time (with_new_entry m p (new_folder now)) (parent p) now)) none

    -- the folder stays where it is
    pub folder_stays : (node : Node) → (f : Resource) × (at_path (with_new_entry m p node) (parent p) ≡ Some f) × (f.number ≡ folder)
    folder_stays node =
        let above = folder_there m (parent p) h.2.0 h.2.1 in (
          h.2.0,
          get_other path_total path_exact m.entries p (record { number = m.next; node = node }) (parent p) (λ e. none_some (at_path m p) h.2.0 none (ap (at_path m) (sym e) ∙ above.0)) ∙ above.0,
          h.2.2,
        )
