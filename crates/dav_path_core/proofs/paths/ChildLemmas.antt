-- A path with a name behind it: its segments and its parts.
use Rattle.std.proofs.Common.{◌≡◌, ℕ, ◌-◌, ◌<◌, ◌≤◌, Bool, true, false, cond, List, [], ◌∷◌, ◌++◌, length, take, drop, get_or, inl, inr, refl, sym, ap, ◌∙◌, subst, arith, append_assoc}
use Rattle.std.specs.Prelude.{Contains}
use Rattle.std.proofs.lemmas.Bool.{false_from_ne_true, eqb-true}
use Rattle.std.proofs.lemmas.Bool.Decides.{Decides-eqb}
use Rattle.std.proofs.lemmas.List.{drop-append-le}
use Rattle.std.proofs.lemmas.List.Elements.{Contains-append_right, Contains-get_or}
use Rattle.std.proofs.lemmas.Slice.Eq.{ends_is}
use Rattle.dav_path_core.specs.Segments.{segments}
use Rattle.dav_path_core.specs.PathReading.{CanBeSegment, ends_in_slash}
use Rattle.dav_path_core.proofs.lists.Snoc.{by_last, snoc_last}
use Rattle.dav_path_core.proofs.paths.NameLemmas.{NoSlashFrom}
use Rattle.dav_path_core.proofs.paths.TrimLemmas.{segments-at_slash, segments-slash_end, segments-name}

abbrev pub slash_unless : Bool → List ℕ
slash_unless ends = cond ends [] (47 ∷ [])

name_long : (name : List ℕ) → CanBeSegment name → 0 < length name
name_long [] h = absurd (let e = h.ordinary in cc)
name_long (b ∷ name) h = omega arith

name_whole : (name : List ℕ) → CanBeSegment name → NoSlashFrom name 0
name_whole name h = record { none = λ k from below. false_from_ne_true _ (λ e. h.clean (inr (subst (Contains name) (eqb-true (get_or name k 0) 47 e) (Contains-get_or name k 0 below)))) }

segments-slash_between : (bs name : List ℕ) → CanBeSegment name → segments (bs ++ 47 ∷ name) ≡ segments bs ++ name ∷ []
segments-slash_between bs name h =
    segments-at_slash bs name ∙ ap (λ l. segments bs ++ l) (segments-name name (name_long name h) (name_whole name h))

pub segments-child : (bs name : List ℕ) (ends : Bool) → ends ≡ ends_in_slash bs → CanBeSegment name → segments (bs ++ (slash_unless ends ++ name)) ≡ segments bs ++ name ∷ []
segments-child bs name false e h = segments-slash_between bs name h
segments-child bs name true e h =
    let stem = take (length bs - 1) bs in
    let whole : bs ≡ stem ++ 47 ∷ [] = (ends_is Decides-eqb bs (47 ∷ []) (ends_in_slash bs) refl).0 (sym e) in
    ap (λ l. segments (l ++ name)) whole
    ∙ ap segments (append_assoc stem (47 ∷ []) name)
    ∙ segments-slash_between stem name h
    ∙ ap (λ l. l ++ name ∷ []) (sym (segments-slash_end stem) ∙ sym (ap segments whole))

pub no_slash-child : (bs name : List ℕ) → CanBeSegment name → ends_in_slash (bs ++ name) ≡ false
no_slash-child bs name h = false_from_ne_true _ (λ e. elim (by_last name) [
  | inl empty ↦ absurd (let long = name_long name h in omega (arith, ap length empty))
  | inr w ↦
      let stem = take (length (bs ++ name) - 1) (bs ++ name) in
      let whole : bs ++ name ≡ stem ++ 47 ∷ [] = (ends_is Decides-eqb (bs ++ name) (47 ∷ []) (ends_in_slash (bs ++ name)) refl).0 e in
      let parts : (bs ++ w.0) ++ w.1 ∷ [] ≡ stem ++ 47 ∷ [] = append_assoc bs w.0 (w.1 ∷ []) ∙ ap (λ l. bs ++ l) (sym w.2) ∙ whole in
      let last : w.1 ≡ 47 = snoc_last (bs ++ w.0) stem w.1 47 parts in
      h.clean (inr (subst (λ l. Contains l 47) (sym w.2) (subst (λ b. Contains (w.0 ++ b ∷ []) 47) (sym last) (Contains-append_right w.0 (47 ∷ []) 47 (0, omega arith, refl)))))
])

-- what stands behind the prefix
pub behind-child : (whole path name : List ℕ) (ends : Bool) (n : ℕ) → n ≤ length whole → path ≡ whole ++ (slash_unless ends ++ name) → drop n path ≡ drop n whole ++ (slash_unless ends ++ name)
behind-child whole path name ends n le e = ap (drop n) e ∙ drop-append-le n whole (slash_unless ends ++ name) le
