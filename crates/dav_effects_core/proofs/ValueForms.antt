-- Callers, paths and properties are read exactly as they are written.
use Rattle.std.proofs.Common.{◌≡◌, ℕ, suc, ◌<◌, ◌^◌, Bool, true, false, cond, eqb, List, [], ◌∷◌, ◌++◌, length, Option, Result, Ok, Err, refl, sym, ap, subst, ◌∙◌}
use Rattle.std.specs.Prelude.{IfSome}
use Rattle.std.specs.List.{AllByRecursion}
use Rattle.std.proofs.lemmas.Bool.{eqb-true}
use Rattle.std.proofs.lemmas.List.{append-nil, nil_from_length}
use Rattle.std.proofs.lemmas.Slice.Eq.{bytes_eq-Decides}
use Rattle.dav_path_core.specs.Fronts.{Path}
use Rattle.dav_path_core.specs.PathText.{folder_bytes}
use Rattle.dav_path_core.specs.Segments.{segments}
use Rattle.dav_files_core.specs.Resources.{Property}
use Rattle.dav_notes_core.specs.Asking.{Caller}
use Rattle.dav_effects_core.specs.ByteForms.{Reading, ◌>>=◌, FitsInEight, HasCount, IsUtf8Text, number_text, counted_text, flag_text, optional_text, each_text, following_text, pair_at, value_at, only_at, eight_bytes_at, counted_at, utf8_at, flag_at, optional_at, each_at, following_at}
use Rattle.dav_effects_core.specs.RecordReading.{caller_from, whole_caller_at, inside_of, caller_at, is_folder_text, path_at, property_from, property_at, patch_at, two_paths_at}
use Rattle.dav_effects_core.specs.RecordText.{caller_text, path_text, stored_property_text, patch_text}
use Rattle.dav_effects_core.specs.Records.{IsCaller, IsPath, IsProperty}
use Rattle.dav_effects_core.proofs.Exact.{Exact, IsBytes, bind_ok, guard_true, ok_is, pair_exact, value_exact, only_exact, number_exact, counted_exact, text_exact, flag_exact, optional_exact, each_exact}
use Rattle.dav_effects_core.proofs.Following.{following_exact, following_bytes}

-- ---- callers

whole_caller_exact : Exact caller_text IsCaller whole_caller_at
unfolding whole_caller_at caller_text
whole_caller_exact =
    value_exact (λ x. number_text x.0 ++ (optional_text counted_text x.1.0 ++ each_text counted_text x.1.1))
    (λ x. FitsInEight x.0 × (IfSome x.1.0 IsUtf8Text × (FitsInEight (length x.1.1) × AllByRecursion IsUtf8Text x.1.1)))
    (pair_at eight_bytes_at (λ _. pair_at (optional_at utf8_at) (λ _. each_at utf8_at))) caller_from (λ (who : Caller). (who.now, (who.principal, who.tokens))) IsCaller
    (pair_exact number_text FitsInEight eight_bytes_at (λ _ y. optional_text counted_text y.0 ++ each_text counted_text y.1) (λ _ y. IfSome y.0 IsUtf8Text × (FitsInEight (length y.1) × AllByRecursion IsUtf8Text y.1))
    (λ _. pair_at (optional_at utf8_at) (λ _. each_at utf8_at)) number_exact
    (λ _. pair_exact (optional_text counted_text) (λ o. IfSome o IsUtf8Text) (optional_at utf8_at) (λ _. each_text counted_text) (λ _ xs. FitsInEight (length xs) × AllByRecursion IsUtf8Text xs) (λ _. each_at utf8_at)
    (optional_exact counted_text IsUtf8Text utf8_at text_exact) (λ _. each_exact counted_text IsUtf8Text utf8_at text_exact)))
    (λ a h. (refl, record { moment = h.0; principal = h.1.0; few = h.1.1.0; tokens = h.1.1.1 }))
    (λ b h. ((h.moment, (h.principal, (h.few, h.tokens))), refl))

inside_ok : {A : Type 0} (left : ℕ) (rest : List ℕ) (r : Result (A × List ℕ) ℕ) (y : A × List ℕ) → inside_of left rest r ≡ Ok y → (a : A) × (r ≡ Ok (a, [])) × (y ≡ (a, rest))
inside_ok left rest (Ok a) y e =
    let g = guard_true (eqb (length a.1) 0) left (Ok (a.0, rest)) y e in
    let nil = nil_from_length a.1 (eqb-true _ _ g.0) in
    (a.0, ap (λ l. Ok (a.0, l)) nil, sym (ok_is (a.0, rest) y g.1))
inside_ok left rest (Err d) y e = absurd cc

module _ (before : List ℕ) where
  caller_takes : IsBytes before → (bytes : List ℕ) (x : Caller) (rest : List ℕ) → IsBytes bytes → caller_at before bytes ≡ Ok (x, rest)
      → (bytes ≡ following_text before (caller_text x) ++ rest) × (IsCaller x × HasCount (caller_text x))
  unfolding caller_at
  caller_takes old bytes x rest fits e =
      let a = bind_ok (following_at before bytes) (λ text. inside_of (length bytes) text.1 (whole_caller_at text.0)) (x, rest) e in
      let first = (following_exact before).takes bytes a.0.0 a.0.1 fits a.1 in
      let i = inside_ok (length bytes) a.0.1 (whole_caller_at a.0.0) (x, rest) a.2 in
      let small = following_bytes before a.0.0 a.0.1 old (subst IsBytes first.0 fits) in
      let second = whole_caller_exact.takes a.0.0 i.0 [] small i.1 in
      let text : a.0.0 ≡ caller_text i.0 = second.0 ∙ append-nil (caller_text i.0) in
      let whole : bytes ≡ following_text before (caller_text i.0) ++ a.0.1 = first.0 ∙ ap (λ (t : List ℕ). following_text before t ++ a.0.1) text in
      subst (λ (y : Caller × List ℕ). (bytes ≡ following_text before (caller_text y.0) ++ y.1) × (IsCaller y.0 × HasCount (caller_text y.0))) (sym i.2) (whole, (second.1, subst HasCount text first.1))

  pub caller_again : (x : Caller) (rest : List ℕ) → IsCaller x × HasCount (caller_text x) → caller_at before (following_text before (caller_text x) ++ rest) ≡ Ok (x, rest)
  unfolding caller_at
  caller_again x rest fits =
      let one = (following_exact before).again (caller_text x) rest fits.1 in
      let two : whole_caller_at (caller_text x) ≡ Ok (x, []) = ap whole_caller_at (sym (append-nil (caller_text x))) ∙ whole_caller_exact.again x [] fits.0 in
      rw (one, two) refl

  pub caller_exact : IsBytes before → Exact (λ (x : Caller). following_text before (caller_text x)) (λ (x : Caller). IsCaller x × HasCount (caller_text x)) (caller_at before)
  caller_exact old = record { takes = caller_takes old; again = caller_again }

-- what a caller's text is read as, and that it has nothing behind it
pub caller_whole : (text : List ℕ) (x : Caller) (left : List ℕ) → IsBytes text → whole_caller_at text ≡ Ok (x, left) → length left ≡ 0 → text ≡ caller_text x
caller_whole text x left fits e none =
    (whole_caller_exact.takes text x left fits e).0 ∙ ap (λ (l : List ℕ). caller_text x ++ l) (nil_from_length left none) ∙ append-nil (caller_text x)

-- ---- paths

pub path_exact : (before : List ℕ) → Exact (path_text before) IsPath (path_at before)
unfolding path_at
path_exact before =
    value_exact (following_text before) (λ (t : List ℕ). HasCount t × (is_folder_text t ≡ true)) (only_at is_folder_text (following_at before)) segments folder_bytes IsPath
    (only_exact (following_text before) HasCount (following_at before) is_folder_text (following_exact before))
    (λ a h. let e : folder_bytes (segments a) ≡ a = (bytes_eq-Decides (folder_bytes (segments a)) a).0 h.1 in (e, record { short = subst HasCount (sym e) h.0; whole = ap segments e }))
    (λ b h. ((h.short, (bytes_eq-Decides (folder_bytes (segments (folder_bytes b))) (folder_bytes b)).1 (ap folder_bytes h.whole)), h.whole))

pub two_paths_exact : (before : List ℕ) → Exact (λ (x : Path × Path). path_text before x.0 ++ path_text (folder_bytes x.0) x.1) (λ (x : Path × Path). IsPath x.0 × IsPath x.1) (two_paths_at before)
unfolding two_paths_at
two_paths_exact before = pair_exact (path_text before) IsPath (path_at before) (λ from. path_text (folder_bytes from)) (λ _. IsPath) (λ from. path_at (folder_bytes from)) (path_exact before) (λ from. path_exact (folder_bytes from))

-- ---- properties

pub property_exact : Exact stored_property_text IsProperty property_at
unfolding property_at stored_property_text
property_exact =
    let text = optional_exact counted_text IsUtf8Text utf8_at text_exact in
    let xml = optional_exact counted_text HasCount counted_at counted_exact in
    value_exact (λ x. counted_text x.0 ++ (optional_text counted_text x.1.0 ++ (optional_text counted_text x.1.1.0 ++ optional_text counted_text x.1.1.1)))
    (λ x. IsUtf8Text x.0 × (IfSome x.1.0 IsUtf8Text × (IfSome x.1.1.0 IsUtf8Text × IfSome x.1.1.1 HasCount)))
    (pair_at utf8_at (λ _. pair_at (optional_at utf8_at) (λ _. pair_at (optional_at utf8_at) (λ _. optional_at counted_at)))) property_from
    (λ (p : Property). (p.name, (p.prefix, (p.namespace, p.xml)))) IsProperty
    (pair_exact counted_text IsUtf8Text utf8_at (λ _ y. optional_text counted_text y.0 ++ (optional_text counted_text y.1.0 ++ optional_text counted_text y.1.1)) (λ _ y. IfSome y.0 IsUtf8Text × (IfSome y.1.0 IsUtf8Text × IfSome y.1.1 HasCount))
    (λ _. pair_at (optional_at utf8_at) (λ _. pair_at (optional_at utf8_at) (λ _. optional_at counted_at))) text_exact
    (λ _. pair_exact (optional_text counted_text) (λ o. IfSome o IsUtf8Text) (optional_at utf8_at) (λ _ y. optional_text counted_text y.0 ++ optional_text counted_text y.1) (λ _ y. IfSome y.0 IsUtf8Text × IfSome y.1 HasCount)
    (λ _. pair_at (optional_at utf8_at) (λ _. optional_at counted_at)) text
    (λ _. pair_exact (optional_text counted_text) (λ o. IfSome o IsUtf8Text) (optional_at utf8_at) (λ _. optional_text counted_text) (λ _ o. IfSome o HasCount) (λ _. optional_at counted_at) text (λ _. xml))))
    (λ a h. (refl, record { name = h.0; prefix = h.1.0; namespace = h.1.1.0; xml = h.1.1.1 }))
    (λ b h. ((h.name, (h.prefix, (h.namespace, h.xml))), refl))

patch_fits : Exact patch_text (λ (e : Bool × Property). Unit {0} × IsProperty e.1) patch_at
unfolding patch_at
patch_fits = pair_exact flag_text (λ _. Unit {0}) flag_at (λ _. stored_property_text) (λ _. IsProperty) (λ _. property_at) flag_exact (λ _. property_exact)

pub patch_exact : Exact patch_text (λ (e : Bool × Property). IsProperty e.1) patch_at
patch_exact = record {
  takes = λ bytes x rest fits e. let t = patch_fits.takes bytes x rest fits e in (t.0, t.1.1);
  again = λ x rest fits. patch_fits.again x rest (tt, fits);
}
