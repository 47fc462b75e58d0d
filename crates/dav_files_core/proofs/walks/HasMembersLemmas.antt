-- Whether a path has members, in the map and in its tree.
use Rattle.std.proofs.Common.{◌≡◌, ℕ, Bool, true, false, List, [], ◌∷◌, ◌++◌, Option, Some, None, is_some, refl, sym, ap, ◌∙◌}
use Rattle.std.proofs.lemmas.Bool.{true≢false}
use Rattle.std.specs.FinMap.{entries, get, find, get-entries}
use Rattle.dav_path_core.specs.Fronts.{Segment, Path, segment_cmp}
use Rattle.dav_path_core.specs.Keyed.{child, has_child, parent_and_key_of}
use Rattle.dav_path_core.proofs.lists.Every.{Every, get_each}
use Rattle.dav_path_core.proofs.lists.FinMaps.{none_some}
use Rattle.dav_path_core.proofs.lists.Orders.{segment_total}
use Rattle.dav_path_core.proofs.trees.Trees.{child-some, child-none}
use Rattle.dav_files_core.specs.Finding.{members, has_members, has_any}
use Rattle.dav_files_core.specs.Private.FileRepresents.{FileTree, Represents}
use Rattle.dav_files_core.specs.Resources.{Resource, ResourceMap, at_path}
use Rattle.dav_files_core.proofs.listings.MemberLemmas.{get-members}
use Rattle.dav_files_core.proofs.changes.LeftLemmas.{child_entry}
use Rattle.dav_files_core.proofs.walks.TreeWordLemmas.{stands}
use Rattle.dav_files_core.proofs.walks.WalkLemmas.{node_below}

module _ (m : ResourceMap) (p : Path) where
  pub no_members : has_members m p ≡ false → (s : Segment) → at_path m (p ++ (s ∷ [])) ≡ None
  no_members h s = by (entries (members m p)) refl
    where
      by : (es : List (Segment × Resource)) → entries (members m p) ≡ es → at_path m (p ++ (s ∷ [])) ≡ None
      by [] e = sym (get-members m p s) ∙ get-entries (members m p) s ∙ ap (find segment_cmp s) e
      by (x ∷ es) e = absurd (true≢false (sym (ap has_any e) ∙ h))

  pub some_member : has_members m p ≡ true → (s : Segment) × (r : Resource) × (at_path m (p ++ (s ∷ [])) ≡ Some r)
  some_member h = by (entries (members m p)) refl (get_each segment_total (members m p))
    where
      by : (es : List (Segment × Resource)) → entries (members m p) ≡ es → Every (λ (e : Segment × Resource). get (members m p) e.0 ≡ Some e.1) es
          → (s : Segment) × (r : Resource) × (at_path m (p ++ (s ∷ [])) ≡ Some r)
      by [] e all = absurd (true≢false (sym h ∙ ap has_any e))
      by (x ∷ es) e all = (x.0, x.1, sym (get-members m p x.0) ∙ all.0)

  pub has_member : (s : Segment) (r : Resource) → at_path m (p ++ (s ∷ [])) ≡ Some r → has_members m p ≡ true
  has_member s r there = by (has_members m p) refl
    where
      by : (b : Bool) → has_members m p ≡ b → b ≡ true
      by true e = refl
      by false e = none_some (at_path m (p ++ (s ∷ []))) r (no_members e s) there

  pub has_none : ((s : Segment) → at_path m (p ++ (s ∷ [])) ≡ None) → has_members m p ≡ false
  has_none none = by (has_members m p) refl
    where
      by : (b : Bool) → has_members m p ≡ b → b ≡ false
      by false e = refl
      by true e = let x = some_member e in none_some (at_path m (p ++ (x.0 ∷ []))) x.1 (none x.0) x.2

-- a node has children where its path has members
pub has_child_is : (t : FileTree) (m : ResourceMap) → Represents t m → (p : Path) (r : Resource) → at_path m p ≡ Some r → has_child t r.number ≡ has_members m p
has_child_is t m rep p r here = by (child (λ _. true) t r.number) refl
  where
    none : child (λ _. true) t r.number ≡ None → (s : Segment) → at_path m (p ++ (s ∷ [])) ≡ None
    none e s = look (at_path m (p ++ (s ∷ []))) refl
      where
        look : (o : Option Resource) → at_path m (p ++ (s ∷ [])) ≡ o → o ≡ None
        look None h = refl
        look (Some c) h =
            let (k, item, stored, same, _) = node_below t m rep p r s c here h in
            absurd (true≢false (child-none t (λ _. true) r.number e c.number k (ap parent_and_key_of stored)))

    by : (o : Option ℕ) → child (λ _. true) t r.number ≡ o → is_some o ≡ has_members m p
    by None e = sym (has_none m p (none e))
    by (Some c) e =
        let w = child-some t (λ _. true) r.number c e in
        let x = child_entry t m rep p r here r.number refl w.0 c (stands t c r.number w.0 w.1) in
        sym (has_member m p w.0 x.0 x.1)
