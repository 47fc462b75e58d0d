-- Fronts of paths, and the path that a path has after a move.
use Rattle.std.proofs.Common.{◌≡◌, ◌⊎◌, inl, inr, [], ◌∷◌, ◌++◌, Option, Some, None, refl, sym, ap, ◌∙◌, append_assoc, append-nil}
use Rattle.std.specs.Prelude.{is_some, if◌then◌else◌}
use Rattle.dav_path_core.specs.Fronts.{Segment, Path, behind}
use Rattle.dav_path_core.proofs.lists.FinMaps.{one_some}
use Rattle.dav_path_core.proofs.lists.Snoc.{by_last, snoc_front, snoc_last}
use Rattle.dav_path_core.proofs.paths.FrontLemmas.{behind_append, behind_is, behind_none, none_behind}
use Rattle.dav_files_core.specs.Moved.{path_after}

after_by : Option Path → Option Path → Path → Path → Option Path
after_by None None to p = Some p
after_by None (Some s) to p = None
after_by (Some s) o to p = Some (to ++ s)

is_after_by : (from to p : Path) → path_after from to p ≡ after_by (behind from p) (behind to p) to p
unfolding after_by
is_after_by from to p = by (behind from p) (behind to p)
  where
    by : (o u : Option Path) → ◌≡◌ {A = Option Path} (elim o [ Some s ↦ Some (to ++ s) | None ↦ if is_some u then None else Some p ]) (after_by o u to p)
    by None None = refl
    by None (Some s) = refl
    by (Some s) u = refl

pub after_from : (from to s : Path) → path_after from to (from ++ s) ≡ Some (to ++ s)
unfolding after_by
after_from from to s = is_after_by from to (from ++ s) ∙ ap (λ o. after_by o (behind to (from ++ s)) to (from ++ s)) (behind_append from s)

pub after_other : (from to p : Path) → behind from p ≡ None → behind to p ≡ None → path_after from to p ≡ Some p
unfolding after_by
after_other from to p f t = is_after_by from to p ∙ ap (λ o. after_by o (behind to p) to p) f ∙ ap (λ o. after_by None o to p) t

pub after_gone : (from to p s : Path) → behind from p ≡ None → behind to p ≡ Some s → path_after from to p ≡ None
unfolding after_by
after_gone from to p s f t = is_after_by from to p ∙ ap (λ o. after_by o (behind to p) to p) f ∙ ap (λ o. after_by None o to p) t

-- a path after a move: it went along with the source, or it stayed
pub after_cases : (from to p q : Path) → path_after from to p ≡ Some q
    → ((s : Path) × (p ≡ from ++ s) × (q ≡ to ++ s)) ⊎ ((q ≡ p) × (behind from p ≡ None) × (behind to p ≡ None))
unfolding after_by
after_cases from to p q h = by (behind from p) (behind to p) refl refl (sym (is_after_by from to p) ∙ h)
  where
    by : (o u : Option Path) → behind from p ≡ o → behind to p ≡ u → after_by o u to p ≡ Some q
        → ((s : Path) × (p ≡ from ++ s) × (q ≡ to ++ s)) ⊎ ((q ≡ p) × (behind from p ≡ None) × (behind to p ≡ None))
    by None None f t e = inr (sym (one_some (after_by None None to p) p q refl e), f, t)
    by None (Some s) f t e = absurd (cc)
    by (Some s) u f t e = inl (s, behind_is from p s f, sym (one_some (after_by (Some s) u to p) (to ++ s) q refl e))

-- the move back undoes it
pub after_back : (from to p q : Path) → path_after from to p ≡ Some q → path_after to from q ≡ Some p
after_back from to p q h = elim (after_cases from to p q h) [
  | inl went ↦ ap (path_after to from) went.2 ∙ after_from to from went.0 ∙ ap Some (sym went.1)
  | inr stayed ↦ ap (path_after to from) stayed.0 ∙ after_other to from p stayed.2 stayed.1
]

-- below a path other than the source, the path of the parent moves and the name stays
pub after_snoc : (from to p : Path) (s : Segment) (q : Path) → ¬ (p ++ (s ∷ []) ≡ from) → path_after from to (p ++ (s ∷ [])) ≡ Some q
    → (q' : Path) × (path_after from to p ≡ Some q') × (q ≡ q' ++ (s ∷ []))
after_snoc from to p s q not_from h = elim (after_cases from to (p ++ (s ∷ [])) q h) [
  | inl went ↦ elim (by_last went.0) [
    | inl nothing ↦ absurd (not_from (went.1 ∙ ap (λ t. from ++ t) nothing ∙ append-nil from))
    | inr last ↦
        let split : p ++ (s ∷ []) ≡ (from ++ last.0) ++ (last.1 ∷ []) = went.1 ∙ ap (λ t. from ++ t) last.2 ∙ sym (append_assoc from last.0 (last.1 ∷ [])) in
        let front : p ≡ from ++ last.0 = snoc_front p (from ++ last.0) s last.1 split in
        let name : s ≡ last.1 = snoc_last p (from ++ last.0) s last.1 split in (
          to ++ last.0,
          ap (path_after from to) front ∙ after_from from to last.0,
          went.2 ∙ ap (λ t. to ++ t) last.2 ∙ sym (append_assoc to last.0 (last.1 ∷ [])) ∙ ap (λ t. (to ++ last.0) ++ (t ∷ [])) (sym name),
        )
  ]
  | inr stayed ↦ (p, after_other from to p (no_front from stayed.1) (no_front to stayed.2), stayed.0)
]
  where
    no_front : (a : Path) → behind a (p ++ (s ∷ [])) ≡ None → behind a p ≡ None
    no_front a none = behind_none a p (λ u e. none_behind a (p ++ (s ∷ [])) none (u ++ (s ∷ [])) (ap (λ t. t ++ (s ∷ [])) e ∙ append_assoc a u (s ∷ [])))
