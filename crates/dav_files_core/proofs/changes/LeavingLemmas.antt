-- Taking a node out of the tree is taking an entry out of the map, and is refused alike.
use Rattle.std.proofs.Common.{◌≡◌, ℕ, Bool, true, false, [], ◌∷◌, Some, None, is_some, Result, Ok, Err, MatchResult, refl, sym, ap, ◌∙◌, subst}
use Rattle.std.specs.Prelude.{◌==◌, ◌||◌, if◌then◌else◌}
use Rattle.std.proofs.lemmas.Bool.{true≢false, eqb-true, eq-eqb}
use Rattle.std.specs.FinMap.{get}
use Rattle.dav_path_core.specs.declared.errors.FsError.{FsError}
use Rattle.dav_path_core.specs.declared.errors.FsError.TheVariants.{NotFound, Forbidden}
use Rattle.dav_path_core.specs.Fronts.{Path}
use Rattle.dav_path_core.specs.Keyed.{has_child, delete_refusal, without_node}
use Rattle.dav_path_core.proofs.lists.FinMaps.{none_some, one_some}
use Rattle.dav_files_core.specs.Exactly.{AnswersExactly}
use Rattle.dav_files_core.specs.Finding.{has_members}
use Rattle.dav_files_core.specs.Folders.{is_root}
use Rattle.dav_files_core.specs.Outcomes.{without}
use Rattle.dav_files_core.specs.Private.Entries.{taken_out}
use Rattle.dav_files_core.specs.Private.FileRepresents.{FileTree, Represents, resource_map}
use Rattle.dav_files_core.specs.Resources.{Resource, ResourceMap, at_path, IsResourceMap}
use Rattle.dav_files_core.proofs.walks.HasMembersLemmas.{no_members, has_child_is}
use Rattle.dav_files_core.proofs.changes.LeftLemmas.{stands_itself, is_view}
use Rattle.dav_files_core.proofs.changes.WithoutLemmas.{Represents-without}

pub not_root : (p : Path) → is_root p ≡ false → ¬ (p ≡ [])
not_root p h e = true≢false (sym (ap is_root e) ∙ h)

-- the root alone has number 1
pub root_number : (m : ResourceMap) → IsResourceMap m → (p : Path) (r : Resource) → at_path m p ≡ Some r → (r.number == 1) ≡ is_root p
root_number m is_map p r here = by p refl
  where
    root : (r : Resource) × (at_path m [] ≡ Some r) × (r.number ≡ 1)
    root = (is_map.root.0, is_map.root.1, is_map.root.2)

    by : (q : Path) → p ≡ q → (r.number == 1) ≡ is_root q
    by [] e =
        let same : root.0 ≡ r = one_some (at_path m []) root.0 r root.1 (ap (at_path m) (sym e) ∙ here) in
        eq-eqb r.number 1 (ap (λ (r : Resource). r.number) (sym same) ∙ root.2)
    by (s ∷ q) e = look (r.number == 1) refl
      where
        look : (b : Bool) → (r.number == 1) ≡ b → b ≡ false
        look false h = refl
        look true h =
            let one : r.number ≡ 1 = eqb-true r.number 1 h in
            let same : p ≡ [] = is_map.apart p [] r root.0 here root.1 (one ∙ sym root.2) in
            let both : s ∷ q ≡ [] = sym e ∙ same in absurd (cc)

module _ (t : FileTree) (m : ResourceMap) (rep : Represents t m) (p : Path) (r : Resource) (here : at_path m p ≡ Some r) (id : ℕ) (number : r.number ≡ id) where
  abbrev stays : Bool
  stays = is_root p || has_members m p

  pub known : is_some (get t.nodes id) ≡ true
  known = let s = rep.shown p r here in ap is_some (ap (λ id. get t.nodes id) (sym number) ∙ s.stored)

  pub refusal_is : delete_refusal t id ≡ (if stays then Some Forbidden else None)
  refusal_is =
      ap (λ b. if b then (if (id == 1) || has_child t id then Some Forbidden else None) else Some NotFound) known
      ∙ ap (λ id. if (id == 1) || has_child t id then Some Forbidden else None) (sym number)
      ∙ ap (λ b. if b || has_child t r.number then Some Forbidden else None) (root_number m rep.is_map p r here)
      ∙ ap (λ b. if is_root p || b then Some Forbidden else None) (has_child_is t m rep p r here)

  leaves : (b c : Bool) → b || c ≡ false → (b ≡ false) × (c ≡ false)
  leaves false false h = (refl, refl)
  leaves false true h = absurd (true≢false h)
  leaves true c h = absurd (true≢false h)

  pub gone : (t' : FileTree) → delete_refusal t id ≡ None → t' ≡ without_node t id → (taken_out m p ≡ Ok (tt, without m p)) × Represents t' (without m p)
  gone t' allowed e = by stays refl
    where
      by : (b : Bool) → stays ≡ b → (taken_out m p ≡ Ok (tt, without m p)) × Represents t' (without m p)
      by true h = none_some (if stays then Some Forbidden else None) Forbidden (sym refusal_is ∙ allowed) (ap (λ b. if b then Some Forbidden else None) h)
      by false h =
          let both = leaves (is_root p) (has_members m p) h in
          let rep' = Represents-without t m rep p r here (not_root p both.0) (no_members m p both.1) in (
            ap (λ b. if b then Err Forbidden else Ok (tt, without m p)) h,
            subst (λ t'. Represents t' (without m p)) (ap (without_node t) number ∙ sym e) rep',
          )

  pub kept : (e : FsError) → delete_refusal t id ≡ Some e → taken_out m p ≡ Err e
  kept e refused = by stays refl
    where
      by : (b : Bool) → stays ≡ b → taken_out m p ≡ Err e
      by false h = none_some (if stays then Some Forbidden else None) e (ap (λ b. if b then Some Forbidden else None) h) (sym refusal_is ∙ refused)
      by true h =
          ap (λ b. if b then Err Forbidden else Ok (tt, without m p)) h
          ∙ ap (λ (e : FsError). Err e) (one_some (if stays then Some Forbidden else None) Forbidden e (ap (λ b. if b then Some Forbidden else None) h) (sym refusal_is ∙ refused))

  pub taken_stands : (result : Result (Unit {0}) FsError) (t' : FileTree)
      → MatchResult result (λ _. (delete_refusal t id ≡ None) × (t' ≡ without_node t id)) (λ e. (delete_refusal t id ≡ Some e) × (t' ≡ t)) → Represents t' (resource_map t')
  taken_stands (Ok done) t' h = stands_itself t' (without m p) (gone t' h.0 h.1).1
  taken_stands (Err e) t' h = stands_itself t' m (subst (λ t. Represents t m) (sym h.1) rep)

  pub taken_answer : (result : Result (Unit {0}) FsError) (t' : FileTree)
      → MatchResult result (λ _. (delete_refusal t id ≡ None) × (t' ≡ without_node t id)) (λ e. (delete_refusal t id ≡ Some e) × (t' ≡ t))
      → AnswersExactly (λ _. tt {0}) result (taken_out m p) m (resource_map t')
  taken_answer (Ok done) t' h = let g = gone t' h.0 h.1 in g.0 ∙ ap (λ m. Ok (tt {0}, m)) (is_view t' (without m p) g.1)
  taken_answer (Err e) t' h = (sym (is_view t' m (subst (λ t. Represents t m) (sym h.1) rep)), kept e h.0)
