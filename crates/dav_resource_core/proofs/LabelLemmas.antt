-- The first place at which a test passes, as a list grows at its end.
use Rattle.std.proofs.Common.{◌≡◌, ℕ, suc, ◌+◌, List, [], ◌∷◌, ◌++◌, Option, Some, None, Bool, true, false, cond, length, refl, sym, subst, ap, ◌∙◌, arith, rules, bytes_eq}
use Rattle.std.specs.List.{position_from}
use Rattle.std.proofs.lemmas.Slice.Eq.{bytes_eq-Decides}
use Rattle.dav_resource_core.specs.Labels.{smallest_label}
use Rattle.dav_resource_core.specs.Private.LabelMaps.{AreSmallest}

found_still : (b : Bool) (i n : ℕ) (old new : Option ℕ) → (old ≡ Some n → new ≡ Some n) → cond b (Some i) old ≡ Some n → cond b (Some i) new ≡ Some n
found_still true i n old new still found = found
found_still false i n old new still found = still found

found_later : (b : Bool) (i : ℕ) (old new last : Option ℕ) → (old ≡ None → new ≡ last) → cond b (Some i) old ≡ None → cond b (Some i) new ≡ last
found_later true i old new last later missing = cc
found_later false i old new last later missing = later missing

-- what was found stays found
pub position_stays : {X : Type 0} (test : X → Bool) (i n : ℕ) (xs ys : List X) → position_from test i xs ≡ Some n → position_from test i (xs ++ ys) ≡ Some n
position_stays test i n [] ys found = cc
position_stays test i n (x ∷ xs) ys found =
    found_still (test x) i n (position_from test (i + 1) xs) (position_from test (i + 1) (xs ++ ys)) (position_stays test (i + 1) n xs ys) found

-- where nothing was found, the last one decides
pub position_last : {X : Type 0} (test : X → Bool) (i : ℕ) (xs : List X) (y : X) → position_from test i xs ≡ None
    → position_from test i (xs ++ y ∷ []) ≡ cond (test y) (Some (i + length xs)) None
position_last test i [] y missing = let same : i ≡ i + 0 = omega arith in ap (λ n. cond (test y) (Some n) None) same
position_last test i (x ∷ xs) y missing =
    let same : i + 1 + length xs ≡ i + suc (length xs) = omega arith in
    found_later (test x) i (position_from test (i + 1) xs) (position_from test (i + 1) (xs ++ y ∷ [])) (cond (test y) (Some (i + suc (length xs))) None)
    (λ none. position_last test (i + 1) xs y none ∙ ap (λ n. cond (test y) (Some n) None) same) missing

-- ---- labels

same_token : (granted token : List ℕ) → bytes_eq granted token ≡ true → granted ≡ token
same_token granted token same = search (rules, bytes_eq-Decides)

-- of a token that was not granted now
other_label : (o : Option ℕ) (granted token : List ℕ) (tokens : List (List ℕ)) → smallest_label tokens token ≡ o → bytes_eq granted token ≡ false
    → smallest_label (tokens ++ granted ∷ []) token ≡ o
other_label (Some n) granted token tokens found other = position_stays (λ t. bytes_eq t token) 1 n tokens (granted ∷ []) found
other_label None granted token tokens missing other =
    position_last (λ t. bytes_eq t token) 1 tokens granted missing ∙ ap (λ b. cond b (Some (1 + length tokens)) None) other

-- a token that is granted again keeps its label
pub granted_again : (tokens : List (List ℕ)) (granted : List ℕ) (n : ℕ) (kept : List ℕ → Option ℕ) → AreSmallest tokens kept → kept granted ≡ Some n
    → AreSmallest (tokens ++ granted ∷ []) kept
granted_again tokens granted n kept are found token = again (bytes_eq granted token) refl
  where
    again : (b : Bool) → bytes_eq granted token ≡ b → kept token ≡ smallest_label (tokens ++ granted ∷ []) token
    again true same =
        let e = same_token granted token same in
        let had : smallest_label tokens token ≡ Some n = subst (λ t. smallest_label tokens t ≡ Some n) e (sym (are granted) ∙ found) in
        are token ∙ had ∙ sym (position_stays (λ t. bytes_eq t token) 1 n tokens (granted ∷ []) had)
    again false other = are token ∙ sym (other_label (smallest_label tokens token) granted token tokens refl other)

-- one that is granted first has the next number
pub granted_first : (tokens : List (List ℕ)) (granted : List ℕ) (n : ℕ) (kept kept' : List ℕ → Option ℕ) → AreSmallest tokens kept → smallest_label tokens granted ≡ None
    → n ≡ length tokens + 1 → ((token : List ℕ) → kept' token ≡ cond (bytes_eq granted token) (Some n) (kept token)) → AreSmallest (tokens ++ granted ∷ []) kept'
granted_first tokens granted n kept kept' are missing next updated token = updated token ∙ first (bytes_eq granted token) refl
  where
    first : (b : Bool) → bytes_eq granted token ≡ b → cond b (Some n) (kept token) ≡ smallest_label (tokens ++ granted ∷ []) token
    first true same =
        let e = same_token granted token same in
        let lacked : smallest_label tokens token ≡ None = subst (λ t. smallest_label tokens t ≡ None) e missing in
        let number : n ≡ 1 + length tokens = omega arith in
        ap Some number ∙ sym (position_last (λ t. bytes_eq t token) 1 tokens granted lacked ∙ ap (λ b. cond b (Some (1 + length tokens)) None) same)
    first false other = are token ∙ sym (other_label (smallest_label tokens token) granted token tokens refl other)
