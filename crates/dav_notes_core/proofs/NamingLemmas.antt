-- A token that a caller names for one request.
use Rattle.std.proofs.Common.{◌≡◌, ℕ, ◌-◌, List, [], ◌∷◌, ◌++◌, length, map, take, sym, ◌∙◌, ap, arith}
use Rattle.std.proofs.Math.Seq.{take-append_seam}
use Rattle.std.proofs.lemmas.List.{length-append, length-map, take-map}
use Rattle.dav_notes_core.specs.Asking.{Caller, also_naming}

module _ (who asker : Caller) (token : List ℕ) (left : List (List ℕ)) where
  -- the last token goes again
  pub named_before : asker ≡ also_naming who token → left ≡ take (length asker.tokens - 1) asker.tokens → record asker { tokens = left } ≡ who
  named_before named is =
      let tokens : asker.tokens ≡ who.tokens ++ token ∷ [] = ap (λ (w : Caller). w.tokens) named in
      let count : length asker.tokens - 1 ≡ length who.tokens =
      ap (λ (ts : List (List ℕ)). length ts - 1) tokens ∙ omega (arith, length-append who.tokens (token ∷ [])) in
      let kept : left ≡ who.tokens =
      is ∙ ap (λ n. take n asker.tokens) count ∙ ap (take (length who.tokens)) tokens ∙ take-append_seam who.tokens (token ∷ []) in
      ap (λ (w : Caller). record w { tokens = left }) named ∙ ap (λ (ts : List (List ℕ)). record who { tokens = ts }) kept

-- the tokens that are left, as contracts see them
pub tokens_left : {A : Type 0} (f : A → List ℕ) (asked new : List A) → new ≡ take (length asked - 1) asked → map f new ≡ take (length (map f asked) - 1) (map f asked)
tokens_left f asked new is =
    ap (map f) is ∙ sym (take-map f (length asked - 1) asked) ∙ ap (λ n. take (n - 1) (map f asked)) (sym (length-map asked f))
