-- Worked rows of the moments along a path.
use Rattle.std.proofs.Common.{◌≡◌, ◌⊎◌, inl, inr, refl, ap, sym, subst, ◌∙◌, ℕ, [], ◌∷◌, Some, length, arith}
use Rattle.std.specs.Prelude.{codes}
use Rattle.std.specs.FinMap.{empty, insert}
use Rattle.dav_path_core.specs.Fronts.{Path}
use Rattle.dav_path_core.proofs.lists.FinMaps.{get_same, get_other, one_some}
use Rattle.dav_path_core.proofs.lists.Orders.{path_total, path_exact}
use Rattle.dav_path_core.proofs.paths.AbovePaths.{above}
use Rattle.dav_path_core.proofs.paths.FrontLemmas.{is_front-refl}
use Rattle.dav_files_core.specs.Outcomes.{new_file, new_folder}
use Rattle.dav_files_core.specs.Resources.{Resource, ResourceMap, at_path}
use Rattle.dav_files_core.proofs.paths.RemovedMaps.{front_none}
use Rattle.dav_handler_core.specs.PathMoments.{IsAlong}

-- /a
abbrev p : Path
p = codes "a" ∷ []

-- of moment 1, and changed last at 9
abbrev root : Resource
root = record { number = 1; node = record (new_folder 1) { modified = 9 } }

-- of moment 3, and changed last at 5
abbrev a : Resource
a = record { number = 2; node = record (new_file (1 ∷ []) 3) { modified = 5 } }

-- the file was moved to /a at 9
abbrev moved : ResourceMap
moved = record { entries = insert (insert empty [] root) p a; next = 3 }

a_there : at_path moved p ≡ Some a
a_there = get_same path_total path_exact (insert empty [] root) p a

root_there : at_path moved [] ≡ Some root
root_there =
    get_other path_total path_exact (insert empty [] root) p a [] (λ same. absurd (omega (arith, ap (λ (x : Path). length x) same)))
    ∙ get_same path_total path_exact empty [] root

-- along its path are its own moments and the last change of the folder above
made : IsAlong moved p 3
made = inl (a, a_there, refl)

changed : IsAlong moved p 5
changed = inr (p, a, is_front-refl p, a_there, refl)

came : IsAlong moved p 9
came = inr ([], root, refl, root_there, refl)

-- and no other
no_other : (n : ℕ) → IsAlong moved p n → (n ≡ 3) ⊎ ((n ≡ 5) ⊎ (n ≡ 9))
no_other n (inl h) = inl (sym h.2 ∙ ap (λ (r : Resource). r.node.created) (one_some (at_path moved p) h.0 a h.1 a_there))
no_other n (inr h) = elim (above h.0 p h.2) [
  | inl here ↦
      let is = one_some (at_path moved p) h.1 a (subst (λ q. at_path moved q ≡ Some h.1) here h.3) a_there in
      inr (inl (sym h.4 ∙ ap (λ (r : Resource). r.node.modified) is))
  | inr higher ↦
      let is = one_some (at_path moved []) h.1 root (subst (λ q. at_path moved q ≡ Some h.1) (front_none h.0 higher) h.3) root_there in
      inr (inr (sym h.4 ∙ ap (λ (r : Resource). r.node.modified) is))
]
