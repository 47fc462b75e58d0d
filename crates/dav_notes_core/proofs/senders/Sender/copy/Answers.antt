use Rattle.std.proofs.Common.{◌≡◌, ℕ, List, [], ◌∷◌, map, string_bytes, refl}
use Rattle.std.specs.List.{AllZip}
use Rattle.dav_notes_core.proofs.senders.Sender.copy.Goals as goal

-- copies have the same bytes
copies : {A : Type 0} (bytes : A → List ℕ) (xs ys : List A) → AllZip (λ x y. bytes y ≡ bytes x) xs ys → map bytes ys ≡ map bytes xs
copies bytes [] [] h = refl
copies bytes [] (y ∷ ys) h = absurd h
copies bytes (x ∷ xs) [] h = absurd h
copies bytes (x ∷ xs) (y ∷ ys) h = rw (h.0, copies bytes xs ys h.1) refl

pub returns : goal.returns
returns c =
    rw (c.in_ok-text_copy.ensures, copies string_bytes c.args.self.now.tokens.items c.in_ok-clone.field-0.items c.in_ok-clone.ensures.cases.0) refl
