-- What restoring an entry asks of it, and of what stands there.
use Rattle.std.proofs.Common.{◌≡◌, ◌==◌, ◌&&◌, ◌||◌, not, max, ℕ, ◌<◌, Bool, true, false, cond, List, [], ◌∷◌, Some, Ok, Err, refl, sym, ap, ◌∙◌, arith}
use Rattle.std.proofs.lemmas.Bool.{eq-eqb, ne_eqb, and_parts, true≢false}
use Rattle.dav_path_core.specs.declared.errors.FsError.TheVariants.{Exists}
use Rattle.dav_path_core.specs.Fronts.{Path}
use Rattle.dav_path_core.proofs.lists.FinMaps.{one_some}
use Rattle.dav_files_core.specs.declared.memfs.Kind.{Kind}
use Rattle.dav_files_core.specs.declared.memfs.Kind.TheVariants.{Folder, File}
use Rattle.dav_files_core.specs.Folders.{is_root}
use Rattle.dav_files_core.specs.Outcomes.{Outcome, with_other_node}
use Rattle.dav_files_core.specs.Private.Entries.{IsBare}
use Rattle.dav_files_core.specs.Resources.{is_folder, Resource, ResourceMap, at_path, IsResourceMap}
use Rattle.dav_files_core.specs.Restoring.{can_stand, is_root_folder, with_later_next, restore_at}
use Rattle.dav_path_core.specs.Keyed.{with_next_at_least as raised_tree}
use Rattle.dav_files_core.specs.Private.FileRepresents.{FileTree, Represents}

-- the root alone has the number 1
pub root_number : (m : ResourceMap) → IsResourceMap m → (p : Path) (x : Resource) → at_path m p ≡ Some x → (x.number == 1) ≡ is_root p
root_number m is_map [] x here = let root = is_map.root in eq-eqb x.number 1 (ap (λ (r : Resource). r.number) (one_some (at_path m []) x root.0 here root.1) ∙ root.2)
root_number m is_map (s ∷ p) x here =
    let root = is_map.root in
    ne_eqb x.number 1 (λ e. let same : s ∷ p ≡ [] = is_map.apart (s ∷ p) [] x root.0 here root.1 (e ∙ sym root.2) in absurd (cc))

not_or : (a b : Bool) → not (a || b) ≡ true → (a ≡ false) × (b ≡ false)
not_or false false h = (refl, refl)
not_or true b h = absurd (true≢false (sym h))
not_or false true h = absurd (true≢false (sym h))

module _ (r : Resource) (h : can_stand r ≡ true) where
  apart : ((r.number == 0) ≡ false) × ((r.number == 18446744073709551615) ≡ false)
  apart = not_or (r.number == 0) (r.number == 18446744073709551615) (and_parts _ _ h).0

-- the root that is there, and anything else
module _ (m : ResourceMap) (is_map : IsResourceMap m) (p : Path) (x r : Resource) (here : at_path m p ≡ Some x) (id : ℕ) (number : x.number ≡ id) where
  asked : is_root_folder p r ≡ ((id == 1) && ((r.number == 1) && is_folder r.node.kind))
  asked = ap (λ b. b && ((r.number == 1) && is_folder r.node.kind)) (sym (root_number m is_map p x here) ∙ ap (λ n. n == 1) number)

  pub not_root_there : ((id == 1) && ((r.number == 1) && is_folder r.node.kind)) ≡ false → restore_at m p r (Some x) ≡ Err Exists
  not_root_there e = ap (λ b. let o : Outcome (Unit {0}) = cond b (Ok (tt, with_other_node m p x r.node)) (Err Exists) in o) (asked ∙ e)

-- a next number that is raised, in the tree and in the map
pub Represents-raised : (t : FileTree) (m : ResourceMap) → Represents t m → (next : ℕ) → Represents (raised_tree t next) (with_later_next m next)
Represents-raised t m rep next = record {
  is_map = record {
    root = rep.is_map.root;
    parents = rep.is_map.parents;
    apart = rep.is_map.apart;
    positive = rep.is_map.positive;
    below = λ p r here. let lt = rep.is_map.below p r here in omega (arith, lt);
    bare = rep.is_map.bare;
  };
  next = ap (λ n. max n next) rep.next;
  shown = λ p r here. let s = rep.shown p r here in record { placed = s.placed; stored = s.stored; shown = s.shown; fits = s.fits };
  all = rep.all;
}
