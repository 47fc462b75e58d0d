-- In which folder a path stands, and that it is neither at nor below that path.
use Rattle.std.proofs.Common.{◌≡◌, ◌≢◌, inl, inr, true, false, [], ◌∷◌, length, length-append, refl, sym, ap, ◌∙◌, subst, arith}
use Rattle.std.proofs.lemmas.Bool.{false≢true, false_from_ne_true}
use Rattle.dav_path_core.specs.Fronts.{Path, is_front, parent}
use Rattle.dav_path_core.proofs.lists.Snoc.{by_last}
use Rattle.dav_files_core.proofs.walks.FoundLemmas.{parent-snoc}
use Rattle.dav_path_core.proofs.paths.SubtreePaths.{member_below, rest_of}

-- a path that isn't the root's stands in another folder
pub above_other : (p : Path) → p ≢ [] → parent p ≢ p
above_other p no_root same = elim (by_last p) [
  | inl none ↦ no_root none
  | inr last ↦ absurd (omega (arith, ap length (sym (parent-snoc last.0 last.1) ∙ ap parent (sym last.2) ∙ same ∙ last.2), length-append last.0 (last.1 ∷ [])))
]

-- the folder of a path isn't at or below it
pub above_out : (p : Path) → p ≢ [] → is_front p (parent p) ≡ false
above_out p no_root = elim (by_last p) [
  | inl none ↦ absurd (no_root none)
  | inr last ↦ false_from_ne_true _ (λ h.
      let r = rest_of p (parent p) h in
      absurd (omega (arith, ap length r.1, length-append p r.0, ap length last.2, length-append last.0 (last.1 ∷ []), ap length (ap parent last.2 ∙ parent-snoc last.0 last.1))))
]

pub front_none : (p : Path) → is_front p [] ≡ true → p ≡ []
front_none [] h = refl
front_none (x ∷ p) h = absurd (false≢true h)

-- what is below a path stands in a folder at or below it
pub folder_inside : (p q : Path) → is_front p q ≡ true → q ≢ p → is_front p (parent q) ≡ true
folder_inside p q h other = elim (by_last q) [
  | inl none ↦ absurd (other (none ∙ sym (front_none p (subst (λ x. is_front p x ≡ true) none h))))
  | inr last ↦ elim (member_below p last.0 last.1 (subst (λ x. is_front p x ≡ true) last.2 h)) [
    | inl k ↦ subst (λ x. is_front p x ≡ true) (sym (ap parent last.2 ∙ parent-snoc last.0 last.1)) k
    | inr e ↦ absurd (other (last.2 ∙ sym e))
  ]
]
