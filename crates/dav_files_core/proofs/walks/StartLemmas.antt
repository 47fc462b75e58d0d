-- A tree with a root folder alone stands for the map of a new store.
use Rattle.std.proofs.Common.{◌≡◌, inl, inr, ℕ, [], ◌∷◌, ◌++◌, Some, None, refl, sym, ap, ◌∙◌, arith}
use Rattle.std.specs.Ordering.{nat_cmp}
use Rattle.std.specs.Cmp.{nat_cmp_total}
use Rattle.std.specs.FinMap.{get, empty, nat_cmp-IsAntisymmetric, get-empty}
use Rattle.dav_files_core.specs.Outcomes.{start, new_folder}
use Rattle.dav_files_core.specs.Private.FileRepresents.{FileEntry, FileTree, ShowsNode, Represents}
use Rattle.dav_files_core.specs.Resources.{Node, Resource, at_path, IsResourceMap}
use Rattle.dav_path_core.specs.Fronts.{Path, path_cmp}
use Rattle.dav_path_core.specs.Keyed.{lone}
use Rattle.dav_path_core.proofs.lists.Orders.{path_total, path_exact}
use Rattle.dav_path_core.proofs.lists.FinMaps.{none_some, get_same, inserted}
use Rattle.dav_path_core.proofs.lists.Snoc.{snoc_not_empty}

module _ (now : ℕ) where
  abbrev root_entry : Resource
  root_entry = record { number = 1; node = new_folder now }

  pub only_root : (p : Path) (r : Resource) → at_path (start now) p ≡ Some r → (p ≡ []) × (r ≡ root_entry)
  only_root p r h = elim (inserted path_total path_exact empty [] root_entry p r h) [
    | inl new ↦ new
    | inr old ↦ none_some _ r (get-empty path_cmp p) old.1
  ]

  pub root_there : at_path (start now) [] ≡ Some root_entry
  root_there = get_same path_total path_exact empty [] root_entry

  pub IsResourceMap-start : IsResourceMap (start now)
  IsResourceMap-start = record {
    root = (root_entry, root_there, refl, refl);
    parents = λ p s r h. absurd (snoc_not_empty p s (only_root (p ++ (s ∷ [])) r h).0);
    apart = λ p q r s h g e. (only_root p r h).0 ∙ sym (only_root q s g).0;
    positive = λ p r h. let number : r.number ≡ 1 = ap (λ (r : Resource). r.number) (only_root p r h).1 in omega arith;
    below = λ p r h. let number : r.number ≡ 1 = ap (λ (r : Resource). r.number) (only_root p r h).1 in omega arith;
    bare = λ p r h f. ap (λ (r : Resource). r.node.bytes) (only_root p r h).1;
  }

module _ (now : ℕ) (item : Node) (is : item ≡ new_folder now) where
  abbrev tree : FileTree
  tree = lone item

  abbrev placed : FileEntry
  placed = record { parent_and_key = None; item = item }

  root_shown : (p : Path) (r : Resource) → p ≡ [] → r ≡ root_entry now → ShowsNode tree (start now) p r
  root_shown p r e h = record {
    placed = placed;
    stored = ap (λ (r : Resource). get tree.nodes r.number) h ∙ get_same nat_cmp_total nat_cmp-IsAntisymmetric empty 1 placed;
    shown = is ∙ ap (λ (r : Resource). r.node) (sym h);
    fits = e;
  }

  pub Represents-single : Represents tree (start now)
  Represents-single = record {
    is_map = IsResourceMap-start now;
    next = refl;
    shown = λ p r h. let o = only_root now p r h in root_shown p r o.0 o.1;
    all = λ id n h. elim (inserted nat_cmp_total nat_cmp-IsAntisymmetric empty 1 placed id n h) [
      | inl new ↦ ([], root_entry now, root_there now, sym new.0)
      | inr old ↦ none_some _ n (get-empty nat_cmp id) old.1
    ];
  }
