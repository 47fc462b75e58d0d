-- A prefix that is a front of the whole path.
use Rattle.std.proofs.Common.{◌≡◌, ◌≢◌, ℕ, ◌-◌, ◌≤◌, Bool, true, false, List, [], ◌∷◌, ◌++◌, length, take, drop, sym, refl, ap, ◌∙◌, arith, append_assoc, append-nil, length-append, length-take-le, take-append-drop}
use Rattle.std.specs.Prelude.{codes, nat_eq}
use Rattle.std.specs.List.{ends_with}
use Rattle.std.specs.Str.{IsUtf8}
use Rattle.std.proofs.lemmas.Bool.Decides.{Decides-eqb}
use Rattle.std.proofs.lemmas.Slice.Eq.{ends_is}
use Rattle.std.proofs.lemmas.Str.{IsCharBoundary-at_seam, IsUtf8-take}
use Rattle.std.proofs.Math.Seq.{take-append_seam, drop-append_seam}
use lib.Utf8.{encode}
use Rattle.dav_path_core.specs.Prefix.{SetsPrefix}
use Rattle.dav_path_core.specs.Prefix.SetsPrefix.{cut, whole, front}

abbrev ends : List ℕ → Bool
ends p = ends_with nat_eq p (codes "/")

pub mismatch : (before p : List ℕ) → ((rest : List ℕ) → before ≢ p ++ rest) → (after q : List ℕ) → ¬ SetsPrefix before p after q
mismatch before p never after q = λ s. by_case s
  where
    by_case : SetsPrefix before p after q → ⊥
    by_case (cut rest e f g) = never rest e
    by_case (whole e h f g) = never [] (e ∙ sym (append-nil p))
    by_case (front rest e h f g) = never (47 ∷ rest) e

-- p without its slash
pub stem_is : (p : List ℕ) → ends p ≡ true → p ≡ take (length p - 1) p ++ 47 ∷ []
stem_is p h = (ends_is Decides-eqb p (47 ∷ []) (ends p) refl).0 h

stem_long : (p : List ℕ) → ends p ≡ true → length (take (length p - 1) p) ≡ length p - 1
stem_long p h = length-take-le (length p - 1) p (omega arith)

-- the whole path, cut behind the stem
along_stem : (f p r : List ℕ) → f ≡ p ++ r → ends p ≡ true → f ≡ take (length p - 1) p ++ (47 ∷ r)
along_stem f p r e h = e ∙ ap (λ x. x ++ r) (stem_is p h) ∙ append_assoc (take (length p - 1) p) (47 ∷ []) r

take_stem : (f p r : List ℕ) → f ≡ p ++ r → ends p ≡ true → take (length p - 1) f ≡ take (length p - 1) p
take_stem f p r e h = ap (λ n. take n f) (sym (stem_long p h)) ∙ ap (take (length (take (length p - 1) p))) (along_stem f p r e h) ∙ take-append_seam (take (length p - 1) p) (47 ∷ r)

drop_stem : (f p r : List ℕ) → f ≡ p ++ r → ends p ≡ true → drop (length p - 1) f ≡ 47 ∷ r
drop_stem f p r e h = ap (λ n. drop n f) (sym (stem_long p h)) ∙ ap (drop (length (take (length p - 1) p))) (along_stem f p r e h) ∙ drop-append_seam (take (length p - 1) p) (47 ∷ r)

pub set_cut : (f p r : List ℕ) → f ≡ p ++ r → ends p ≡ true → SetsPrefix f p (take (length p - 1) f ++ drop (length p - 1) f) (take (length p - 1) f)
set_cut f p r e h = cut r e (stem_is p h ∙ ap (λ q. q ++ 47 ∷ []) (sym (take_stem f p r e h))) (take-append-drop (length p - 1) f)

pub begins_cut : (f p r : List ℕ) → f ≡ p ++ r → ends p ≡ true → (rest : List ℕ) × (drop (length p - 1) f ≡ 47 ∷ rest)
begins_cut f p r e h = (r, drop_stem f p r e h)

pub utf8_cut : (f p r : List ℕ) → f ≡ p ++ r → ends p ≡ true → IsUtf8 p → (length p - 1 ≤ length f) × IsUtf8 (take (length p - 1) f)
unfolding encode
utf8_cut f p r e h u = (
  omega (arith, ap length e, length-append p r),
  rw (take_stem f p r e h) (IsUtf8-take p (length p - 1) u (rw (stem_long p h) at (IsCharBoundary-at_seam p (take (length p - 1) p) (47 ∷ []) (stem_is p h) (47 ∷ [], (refl, refl))))),
)

-- p as it is
pub whole_is : (f p r : List ℕ) → f ≡ p ++ r → length r ≡ 0 → f ≡ p
whole_is f p [] e h = e ∙ append-nil p
whole_is f p (b ∷ r) e h = absurd (omega arith)

pub set_whole : (f g p r : List ℕ) → f ≡ p ++ r → length r ≡ 0 → ends p ≡ false → g ≡ f ++ 47 ∷ [] → SetsPrefix f p (take (length p) g ++ drop (length p) g) (take (length p) g)
set_whole f g p [] e l h i =
    let same = e ∙ append-nil p in
    whole same h (rw (i, same) (take-append_seam p (47 ∷ []))) (take-append-drop (length p) g ∙ i)
set_whole f g p (b ∷ r) e l h i = absurd (omega arith)

pub set_front : (f p r : List ℕ) → f ≡ p ++ r → (rest : List ℕ) × (r ≡ 47 ∷ rest) → ends p ≡ false → SetsPrefix f p (take (length p) f ++ drop (length p) f) (take (length p) f)
set_front f p r e s h =
    let same = e ∙ ap (λ x. p ++ x) s.1 in
    front s.0 same h (rw e (take-append_seam p r)) (take-append-drop (length p) f)

pub utf8_front : (f p r : List ℕ) → f ≡ p ++ r → IsUtf8 p → (length p ≤ length f) × IsUtf8 (take (length p) f)
utf8_front f p r e u = (omega (arith, ap length e, length-append p r), rw (e, take-append_seam p r) u)

pub utf8_whole : (f g p r : List ℕ) → f ≡ p ++ r → g ≡ f ++ 47 ∷ [] → IsUtf8 p → (length p ≤ length g) × IsUtf8 (take (length p) g)
utf8_whole f g p r e i u = utf8_front g p (r ++ 47 ∷ []) (i ∙ ap (λ l. l ++ 47 ∷ []) e ∙ append_assoc p r (47 ∷ [])) u
