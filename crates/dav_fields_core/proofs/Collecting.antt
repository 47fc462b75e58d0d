-- A list that a loop puts together, each piece of each item put in.
use Rattle.std.proofs.Common.{◌≡◌, ℕ, ◌+◌, ◌<◌, List, [], ◌∷◌, ◌++◌, length, get_or, take, map, fold, sym, ◌∙◌, ap}
use Rattle.std.specs.List.{flat_map}
use Rattle.std.proofs.lemmas.List.{take_more, map_push, append-nil}
use Rattle.std.proofs.lemmas.List.Sums.{fold-append}
use Rattle.std.proofs.lemmas.Grind.{flat_map-append}

module _ {A B X : Type 0} (put : List X → X → List X) (f : A → List X) (v : B → A) where
  pub folds : (xs : List B) (i : ℕ) (x : B) → i < length xs → x ≡ get_or xs i x → (old now new : List X)
      → now ≡ fold put old (flat_map f (map v (take i xs))) → new ≡ fold put now (f (v x)) → new ≡ fold put old (flat_map f (map v (take (i + 1) xs)))
  folds xs i x lt item old now new so_far added =
      let front : List A = map v (take i xs) in
      let taken : map v (take (i + 1) xs) ≡ front ++ v x ∷ [] =
      ap (map v) (take_more xs i x lt) ∙ map_push v (take i xs) (get_or xs i x) ∙ ap (λ y. front ++ v y ∷ []) (sym item) in
      let more : flat_map f (front ++ v x ∷ []) ≡ flat_map f front ++ f (v x) =
      flat_map-append f front (v x ∷ []) ∙ ap (λ ys. flat_map f front ++ ys) (append-nil (f (v x))) in
      added ∙ ap (λ ys. fold put ys (f (v x))) so_far
      ∙ sym (ap (λ ys. fold put old (flat_map f ys)) taken ∙ ap (fold put old) more ∙ fold-append put old (flat_map f front) (f (v x)))
