-- What is retained of a list.
use Rattle.std.proofs.Common.{◌≡◌, ◌↔◌, ℕ, Bool, true, false, List, [], ◌∷◌, length, Option, All, IsTrue, refl, sym, subst, ◌∙◌, inl, inr, arith}
use Rattle.std.specs.List.{items_where_true}
use Rattle.std.specs.List.Retain.{IsFiltered, ReturnsInTurn}
use Rattle.std.proofs.lemmas.Bool.{false≢true}
use Rattle.std.proofs.lemmas.List.Elements.{All-cons, All-head, All-tail}
use Rattle.dav_users_core.specs.Hashes.{HashText}
use Rattle.dav_users_core.specs.Users.{UserLine, hash_named, is_of}
use Rattle.dav_login_core.specs.Digests.{Retains, WasAcceptedOf, digest}

module _ {X F : Type 0} (R : F → X → Bool → F → Type 0) (P : X → Type 0) (f : F)
    (h : (x : X) (b : Bool) (f' : F) → R f x b f' → (b ≡ true → P x) × (b ≡ false → ¬ (P x)) × (f' ≡ f)) where
  one : (x : X) (xs : List X) (bs : List Bool) (b : Bool) → (b ≡ true → P x) → (b ≡ false → ¬ (P x)) → Retains P xs (items_where_true bs xs)
      → Retains P (x ∷ xs) (items_where_true (b ∷ bs) (x ∷ xs))
  one x xs bs true passes fails rest = inl (passes refl, (items_where_true bs xs, refl, rest))
  one x xs bs false passes fails rest = inr (fails refl, rest)

  each : (xs : List X) (bs : List Bool) (q : F) → length bs ≡ length xs → ReturnsInTurn R f bs xs q → Retains P xs (items_where_true bs xs)
  each [] [] q n r = refl
  each [] (b ∷ bs) q n r = absurd r
  each (x ∷ xs) [] q n r = absurd (omega (arith, n))
  each (x ∷ xs) (b ∷ bs) q n r =
      let told = h x b r.0 r.1 in
      one x xs bs b told.0 told.1 (each xs bs q (omega (arith, n)) (subst (λ (g : F). ReturnsInTurn R g bs xs q) told.2 r.2))

  pub retained : (xs ys : List X) → IsFiltered R f xs ys → Retains P xs ys
  retained xs ys k = subst (Retains P xs) (sym k.4) (each xs k.0 k.1 k.2 k.3)

-- what holds of each holds, or follows, of those that are retained
pub all_retained : {X : Type 0} (P Q Q' : X → Type 0) → ((x : X) → P x → Q x → Q' x) → (xs ys : List X) → Retains P xs ys → All Q xs → All Q' ys
all_retained P Q Q' step [] ys e all = subst (All Q') (sym e) (λ k d lt. absurd (omega (arith, lt)))
all_retained P Q Q' step (x ∷ xs) ys (inl r) all =
    subst (All Q') (sym r.1.1)
    (All-cons Q' x r.1.0 (step x r.0 (All-head Q x xs all)) (all_retained P Q Q' step xs r.1.0 r.1.2 (All-tail Q x xs all)))
all_retained P Q Q' step (x ∷ xs) ys (inr r) all = all_retained P Q Q' step xs ys r.1 (All-tail Q x xs all)

-- what a test says of a fact
pub told_by : (b : Bool) (E : Type 0) → (IsTrue b ↔ E) → (b ≡ true → E) × (b ≡ false → ¬ E)
told_by b E is = (λ passes. is.0 passes, λ fails holds. false≢true (sym fails ∙ is.1 holds))

-- what was accepted of a user is, too, of one with the same line
pub accepted_alike : (users users' : List UserLine) (key name d : List ℕ) → hash_named users name ≡ hash_named users' name
    → WasAcceptedOf users key name d → WasAcceptedOf users' key name d
accepted_alike users users' key name d same was =
    subst (λ (hash : Option HashText). ∥ ((password : List ℕ) × (is_of hash password ≡ true) × (digest key name password ≡ d)) ∥₁) same was

-- all are retained, where it holds of each
pub retains_all : {X : Type 0} (P : X → Type 0) → ((x : X) → P x) → (xs : List X) → Retains P xs xs
retains_all P holds [] = refl
retains_all P holds (x ∷ xs) = inl (holds x, (xs, refl, retains_all P holds xs))
