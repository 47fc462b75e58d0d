-- When an answer is the page of a folder.
use Rattle.std.proofs.Common.{◌≡◌, ℕ, List, Result, Ok, Err, ◌∙◌, ap, subst}
use Rattle.std.specs.Prelude.{IfOk, OnOk}
use Rattle.dav_path_core.specs.PathText.{PathText}
use Rattle.dav_path_core.specs.Segments.{segments}
use Rattle.dav_path_core.proofs.lists.FinMaps.{one_some}
use Rattle.dav_files_core.specs.declared.memfs.Kind.TheVariants.{Folder}
use Rattle.dav_files_core.specs.Meta.{Meta}
use Rattle.dav_files_core.specs.Resources.{Resource, ResourceMap, at_path}
use Rattle.dav_faults_core.specs.declared.faults.Fault.{Fault}
use Rattle.dav_fields_core.proofs.ReadMarks.{IsKnown, known_entry}
use Rattle.dav_safe_methods_core.specs.FolderPages.{IsPage, IsPaged}

module _ (m : ResourceMap) (path : PathText) (body : List ℕ) where
  -- of what is known to be a folder, by a map that stayed
  pub whole_page : (other : ResourceMap) (known : Meta) (result : Result ℕ Fault) → IsKnown m (segments path.bytes) known → other ≡ m
      → OnOk result (known.kind ≡ Folder → IsPage other path body) → IfOk result (λ status. IsPaged m path status body)
  whole_page other known (Ok status) found same h = λ r here kind two_hundred.
      let entry = known_entry m (segments path.bytes) known found in
      let is = one_some (at_path m (segments path.bytes)) entry.0 r entry.1 here in
      subst (λ m. IsPage m path body) same (h (ap (λ (k : Meta). k.kind) entry.2 ∙ ap (λ (r : Resource). r.node.kind) is ∙ kind))
  whole_page other known (Err e) found same h = tt
