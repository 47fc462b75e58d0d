-- Lines that are written item by item, and bytes chunk by chunk.
use Rattle.std.proofs.Common.{◌≡◌, ℕ, ◌+◌, ◌/◌, ◌%◌, ◌<◌, ◌≤◌, List, [], ◌∷◌, ◌++◌, Option, codes, length, map, take, get_or, refl, sym, ap, ◌∙◌, subst, arith, append-nil, append_assoc}
use Rattle.std.specs.Io.KnownBytes.{Appends}
use Rattle.std.specs.List.{flat_map}
use Rattle.std.specs.Prelude.{slice_index, nat_eq, true, false}
use Rattle.std.proofs.lemmas.Bool.{eqb-true, false≢true}
use Rattle.std.proofs.KnownBytes.{Appends-nil, Appends-trans}
use Rattle.std.proofs.lemmas.List.{take_more, take_all}
use Rattle.hex.specs.Hex.{encode_lower, encode_with, lower_digits}
use Rattle.dav_resource_core.specs.AnswerTexts.{hex_text, ok_line, spaced_word}

module _ {A B : Type 0} (text : B → List ℕ) (view : A → B) where
  abbrev of_all : List A → List ℕ
  of_all xs = flat_map text (map view xs)

  at_end : (xs : List A) (x : A) → of_all (xs ++ (x ∷ [])) ≡ of_all xs ++ text (view x)
  at_end [] x = append-nil (text (view x))
  at_end (y ∷ xs) x = ap (λ l. text (view y) ++ l) (at_end xs x) ∙ sym (append_assoc (text (view y)) (of_all xs) (text (view x)))

  -- one item more
  pub written_more : (a b c : Option (List ℕ)) (xs : List A) (i : ℕ) (x : A) → i < length xs → x ≡ get_or xs i x → Appends a b (of_all (take i xs)) → Appends b c (text (view x))
      → Appends a c (of_all (take (i + 1) xs))
  written_more a b c xs i x inside is before one =
      subst (Appends a c) (sym (ap of_all (take_more xs i x inside ∙ ap (λ x. take i xs ++ (x ∷ [])) (sym is)) ∙ at_end (take i xs) x))
      (Appends-trans a b c (of_all (take i xs)) (text (view x)) before one)

  -- the line of all of them
  pub written_line : (a b c d : Option (List ℕ)) (xs : List A) (i : ℕ) → length xs ≤ i → Appends a b (codes "ok") → Appends b c (of_all (take i xs)) → Appends c d (codes "\n")
      → Appends a d (ok_line (of_all xs))
  written_line a b c d xs i past start items end =
      Appends-trans a b d (codes "ok") (of_all xs ++ codes "\n") start
      (Appends-trans b c d (of_all xs) (codes "\n") (subst (λ xs. Appends b c (of_all xs)) (take_all i xs past) items) end)

-- ---- bytes, chunk by chunk

hex-append : (xs ys : List ℕ) → encode_lower (xs ++ ys) ≡ encode_lower xs ++ encode_lower ys
unfolding encode_with
hex-append [] ys = refl
hex-append (x ∷ xs) ys = ap (λ l. slice_index lower_digits (x / 16) ∷ slice_index lower_digits (x % 16) ∷ l) (hex-append xs ys)

hex-nothing : encode_lower [] ≡ []
unfolding encode_with
hex-nothing = refl

-- what was written of some bytes: those in front of what is left
abbrev pub WroteFront : Option (List ℕ) → Option (List ℕ) → List ℕ → List ℕ → Type 0
WroteFront a b bytes left = (done : List ℕ) × (bytes ≡ done ++ left) × Appends a b (encode_lower done)

pub front_none : (a : Option (List ℕ)) (bytes left : List ℕ) → left ≡ bytes → WroteFront a a bytes left
front_none a bytes left is = ([], sym is, subst (Appends a a) (sym hex-nothing) (Appends-nil a))

pub front_more : (a b c : Option (List ℕ)) (bytes left left' chunk : List ℕ) → WroteFront a b bytes left → left ≡ chunk ++ left' → Appends b c (encode_lower chunk) → WroteFront a c bytes left'
front_more a b c bytes left left' chunk h is one = (
  h.0 ++ chunk,
  h.1 ∙ ap (λ l. h.0 ++ l) is ∙ sym (append_assoc h.0 chunk left'),
  subst (Appends a c) (sym (hex-append h.0 chunk)) (Appends-trans a b c (encode_lower h.0) (encode_lower chunk) h.2 one),
)

pub front_all : (a b c d : Option (List ℕ)) (bytes left : List ℕ) → nat_eq (length bytes) 0 ≡ false → length left ≡ 0 → Appends a b (codes "ok ") → WroteFront b c bytes left → Appends c d (codes "\n")
    → Appends a d (ok_line (spaced_word (hex_text bytes)))
front_all a b c d [] left some none start h end = absurd (false≢true (sym some))
front_all a b c d (x ∷ bytes) (y ∷ left) some none start h end = absurd (omega (arith, none))
front_all a b c d (x ∷ bytes) [] some none start h end =
    Appends-trans a b d (codes "ok ") (encode_lower (x ∷ bytes) ++ codes "\n") start
    (Appends-trans b c d (encode_lower (x ∷ bytes)) (codes "\n")
    (subst (λ l. Appends b c (encode_lower l)) (sym (h.1 ∙ append-nil h.0)) h.2) end)

pub no_bytes : (a b : Option (List ℕ)) (bytes : List ℕ) → nat_eq (length bytes) 0 ≡ true → Appends a b (codes "ok -\n") → Appends a b (ok_line (spaced_word (hex_text bytes)))
no_bytes a b [] none h = h
no_bytes a b (x ∷ bytes) none h = let long : length (x ∷ bytes) ≡ 0 = eqb-true (length (x ∷ bytes)) 0 none in absurd (omega (arith, long))
