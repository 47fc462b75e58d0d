-- The only one of a list that passes a test, as a loop over the list finds it.
use Rattle.std.proofs.Common.{◌≡◌, refl, sym, ap, subst, ◌∙◌, ℕ, ◌+◌, ◌<◌, Bool, true, false, cond, List, [], ◌∷◌, ◌++◌, length, map, take, drop, get_or, is_some, option_map, option_to_list, Option, None, Some}
use Rattle.std.specs.List.{AllByRecursion, filter}
use Rattle.std.proofs.lemmas.Bool.{false≢true}
use Rattle.std.proofs.lemmas.List.{append-nil, map_more, take-append-drop, take-map}
use Rattle.std.proofs.lemmas.List.Elements.{filter-append}
use Rattle.dav_documents_core.specs.Elements.{at_most_one}

two_or_more : {X : Type 0} (x y : X) (xs : List X) → at_most_one ((x ∷ y ∷ []) ++ xs) ≡ None
two_or_more x y xs = refl

-- one iteration, at the element that `x` stands for
module _ {A X : Type 0} (test : X → Bool) (view : A → X) (xs : List A) (at : ℕ) (x : A) (in_range : at < length xs) (item : x ≡ get_or xs at x) where
  abbrev all : List X
  all = map view xs

  taken : take (at + 1) all ≡ take at all ++ view x ∷ []
  taken =
      take-map view (at + 1) xs ∙ map_more view xs at x in_range ∙ ap (λ (y : A). map view (take at xs) ++ view y ∷ []) (sym item)
      ∙ ap (λ (ys : List X). ys ++ view x ∷ []) (sym (take-map view at xs))

  more : filter test (take (at + 1) all) ≡ filter test (take at all) ++ filter test (view x ∷ [])
  more = ap (filter test) taken ∙ filter-append test (take at all) (view x ∷ [])

  kept : test (view x) ≡ true → filter test (view x ∷ []) ≡ view x ∷ []
  kept h = ap (λ b. cond b (view x ∷ []) []) h

  left_out : test (view x) ≡ false → filter test (view x ∷ []) ≡ []
  left_out h = ap (λ b. cond b (view x ∷ []) []) h

  pub skipped : (found : Option A) → option_to_list (option_map view found) ≡ filter test (take at all) → test (view x) ≡ false
      → option_to_list (option_map view found) ≡ filter test (take (at + 1) all)
  skipped found so_far h =
      so_far ∙ sym (more ∙ ap (λ (ys : List X). filter test (take at all) ++ ys) (left_out h) ∙ append-nil (filter test (take at all)))

  pub found_first : (found : Option A) → option_to_list (option_map view found) ≡ filter test (take at all) → is_some found ≡ false → test (view x) ≡ true
      → view x ∷ [] ≡ filter test (take (at + 1) all)
  found_first None so_far none h = sym (more ∙ ap (λ (ys : List X). ys ++ filter test (view x ∷ [])) (sym so_far) ∙ kept h)
  found_first (Some y) so_far none h = absurd (false≢true (sym none))

  pub found_again : (found : Option A) → option_to_list (option_map view found) ≡ filter test (take at all) → is_some found ≡ true → test (view x) ≡ true
      → at_most_one (filter test all) ≡ None
  found_again None so_far some h = absurd (false≢true some)
  found_again (Some y) so_far some h =
      ap (λ (ys : List X). at_most_one (filter test ys)) (sym (take-append-drop (at + 1) all))
      ∙ ap at_most_one (filter-append test (take (at + 1) all) (drop (at + 1) all))
      ∙ ap (λ (ys : List X). at_most_one (ys ++ filter test (drop (at + 1) all))) (more ∙ ap (λ (ys : List X). ys ++ filter test (view x ∷ [])) (sym so_far) ∙ ap (λ (ys : List X). view y ∷ ys) (kept h))
      ∙ two_or_more (view y) (view x) (filter test (drop (at + 1) all))

-- ---- what holds of each holds of the only one

passed_too : {X : Type 0} (P : X → Type 0) (test : X → Bool) (b : Bool) (x : X) (xs : List X) → P x → AllByRecursion P (filter test xs)
    → AllByRecursion P (cond b (x ∷ filter test xs) (filter test xs))
passed_too P test true x xs h hs = (h, hs)
passed_too P test false x xs h hs = hs

pub passes_all : {X : Type 0} (P : X → Type 0) (test : X → Bool) (xs : List X) → AllByRecursion P xs → AllByRecursion P (filter test xs)
passes_all P test [] h = tt
passes_all P test (x ∷ xs) h = passed_too P test (test x) x xs h.0 (passes_all P test xs h.1)

the_only : {X : Type 0} (P : X → Type 0) (xs : List X) (x : X) → at_most_one xs ≡ Some (Some x) → AllByRecursion P xs → P x
the_only P [] x found h = absurd (cc)
the_only {X} P (y ∷ []) x found h = let same : y ≡ x = cc in subst P same h.0
the_only P (y ∷ z ∷ xs) x found h = absurd (cc)

pub only_holds : {X : Type 0} (P : X → Type 0) (test : X → Bool) (xs : List X) (x : X) → at_most_one (filter test xs) ≡ Some (Some x) → AllByRecursion P xs → P x
only_holds P test xs x found h = the_only P (filter test xs) x found (passes_all P test xs h)
