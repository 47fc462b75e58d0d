-- What stands where in a resource map once a folder is made.
use Rattle.std.proofs.Common.{◌≡◌, ◌≢◌, ℕ, Some, None, sym, ◌∙◌, ap}
use Rattle.dav_path_core.specs.Fronts.{Path, parent}
use Rattle.dav_path_core.proofs.lists.FinMaps.{get_same, get_other, none_some}
use Rattle.dav_path_core.proofs.lists.Orders.{path_total, path_exact}
use Rattle.dav_files_core.specs.declared.memfs.Kind.TheVariants.{Folder}
use Rattle.dav_files_core.specs.Following.{dated_entry}
use Rattle.dav_files_core.specs.Outcomes.{with_new_entry, with_other_node, touched_at, with_modified_time, new_folder}
use Rattle.dav_files_core.specs.Resources.{Resource, ResourceMap, at_path}

-- the folder above, and that nothing stands at the path
pub record Placed (m : ResourceMap) (p : Path) (now : ℕ) (m' : ResourceMap) : Type 0 where
  pub above : Resource
  pub stands : at_path m (parent p) ≡ Some above
  pub kind : above.node.kind ≡ Folder
  pub nothing : at_path m p ≡ None
  pub left : m' ≡ with_modified_time (with_new_entry m p (new_folder now)) (parent p) now

-- what stands where, after it
module _ (m m' : ResourceMap) (p : Path) (now : ℕ) (h : Placed m p now m') where
  abbrev pub folder : Resource
  folder = record { number = m.next; node = new_folder now }

  abbrev grown : ResourceMap
  grown = with_new_entry m p (new_folder now)

  apart : p ≢ parent p
  apart same = none_some (at_path m p) h.above h.nothing (ap (at_path m) same ∙ h.stands)

  above_apart : parent p ≢ p
  above_apart same = apart (sym same)

  still_above : at_path grown (parent p) ≡ Some h.above
  still_above = get_other path_total path_exact m.entries p folder (parent p) above_apart ∙ h.stands

  abbrev dated_map : ResourceMap
  dated_map = with_other_node grown (parent p) h.above (record h.above.node { modified = now })

  is_dated : m' ≡ dated_map
  is_dated = h.left ∙ ap (touched_at grown (parent p) now) still_above

  pub made_here : at_path m' p ≡ Some folder
  made_here =
      ap (λ (n : ResourceMap). at_path n p) is_dated ∙ get_other path_total path_exact grown.entries (parent p) (dated_entry now h.above) p apart
      ∙ get_same path_total path_exact m.entries p folder

  pub made_above : at_path m' (parent p) ≡ Some (dated_entry now h.above)
  made_above = ap (λ (n : ResourceMap). at_path n (parent p)) is_dated ∙ get_same path_total path_exact grown.entries (parent p) (dated_entry now h.above)

  pub made_others : (q : Path) → q ≢ p → q ≢ parent p → at_path m' q ≡ at_path m q
  made_others q other below =
      ap (λ (n : ResourceMap). at_path n q) is_dated ∙ get_other path_total path_exact grown.entries (parent p) (dated_entry now h.above) q below
      ∙ get_other path_total path_exact m.entries p folder q other
