-- A reading is exact for what is written: what it takes was written so, and what was written is read again.
use Rattle.std.proofs.Common.{◌≡◌, ℕ, zero, suc, ◌+◌, ◌^◌, ◌<◌, ◌≤◌, Bool, true, false, cond, eqb, ltb, List, [], ◌∷◌, ◌++◌, length, get_or, take, drop, Option, Some, None, Result, Ok, Err, refl, sym, ap, subst, ◌∙◌, append_assoc, arith, inl, inr}
use Rattle.std.specs.Prelude.{IfSome}
use Rattle.std.specs.List.{flat_map, AllByRecursion}
use Rattle.std.specs.Int.{w64, from_le_bytes, to_le_bytes}
use Rattle.std.specs.Str.{is_utf8}
use Rattle.std.proofs.lemmas.Bool.{cases_lt, ltb-false, le-ltb}
use Rattle.std.proofs.lemmas.List.{take_at, drop_at, take-append-drop, length-append, length-take, get_or-take, get_or_past}
use Rattle.std.proofs.lemmas.List.Concat.{flat_map-cons}
use Rattle.std.proofs.lemmas.Nat.{le_bytes_8, from_le_bytes-to_le_bytes_8}
use Rattle.dav_effects_core.specs.ByteForms.{Reading, ◌>>=◌, number_text, counted_text, flag_text, optional_text, each_text, pair_at, value_at, only_at, eight_bytes_at, bytes_at, counted_at, utf8_at, flag_at, option_at, optional_at, times_at, each_at, IsUtf8Text}

abbrev pub IsBytes : List ℕ → Type 0
IsBytes bytes = (i : ℕ) → get_or bytes i 0 < 256

pub IsBytes-behind : (front rest : List ℕ) → IsBytes (front ++ rest) → IsBytes rest
IsBytes-behind [] rest h = h
IsBytes-behind (x ∷ front) rest h = IsBytes-behind front rest (λ i. h (suc i))

pub IsBytes-front : (front rest : List ℕ) → IsBytes (front ++ rest) → IsBytes front
IsBytes-front [] rest h i = omega arith
IsBytes-front (x ∷ front) rest h zero = h 0
IsBytes-front (x ∷ front) rest h (suc i) = IsBytes-front front rest (λ j. h (suc j)) i

pub IsBytes-within : (bytes : List ℕ) → ((i d : ℕ) → i < length bytes → get_or bytes i d < 256) → IsBytes bytes
IsBytes-within bytes h i =
    elim (cases_lt i (length bytes)) [
      | inl lt ↦ h i 0 lt
      | inr le ↦ rw (get_or_past bytes i 0 le) (omega arith)
    ]

pub IsBytes-joined : (front rest : List ℕ) → IsBytes front → IsBytes rest → IsBytes (front ++ rest)
IsBytes-joined [] rest h k i = k i
IsBytes-joined (x ∷ front) rest h k zero = h 0
IsBytes-joined (x ∷ front) rest h k (suc i) = IsBytes-joined front rest (λ j. h (suc j)) k i

pub record Exact {A : Type 0} (text : A → List ℕ) (Fits : A → Type 0) (read : Reading A) : Type 0 where
  pub takes : (bytes : List ℕ) (x : A) (rest : List ℕ) → IsBytes bytes → read bytes ≡ Ok (x, rest) → (bytes ≡ text x ++ rest) × Fits x
  pub again : (x : A) (rest : List ℕ) → Fits x → read (text x ++ rest) ≡ Ok (x, rest)

-- ---- steps that did not fail

pub bind_ok : {A B : Type 0} (r : Result A ℕ) (f : A → Result B ℕ) (y : B) → (r >>= f) ≡ Ok y → (x : A) × (r ≡ Ok x) × (f x ≡ Ok y)
bind_ok (Ok x) f y e = (x, refl, e)
bind_ok (Err d) f y e = absurd cc

-- a test that refuses
pub guard_false : {A : Type 0} (b : Bool) (d : ℕ) (x : Result A ℕ) (y : A) → cond b (Err d) x ≡ Ok y → (b ≡ false) × (x ≡ Ok y)
guard_false true d x y e = absurd cc
guard_false false d x y e = (refl, e)

-- a test that lets on
pub guard_true : {A : Type 0} (b : Bool) (d : ℕ) (x : Result A ℕ) (y : A) → cond b x (Err d) ≡ Ok y → (b ≡ true) × (x ≡ Ok y)
guard_true true d x y e = (refl, e)
guard_true false d x y e = absurd cc

abbrev done : {A : Type 0} → A → Result A ℕ
done x = Ok x

pub ok_is : {A : Type 0} (x y : A) → done x ≡ done y → x ≡ y
ok_is x y e = cc

-- ---- forms made of others

pub pair_exact : {A B : Type 0} (t : A → List ℕ) (F : A → Type 0) (p : Reading A) (u : A → B → List ℕ) (G : A → B → Type 0) (q : A → Reading B)
    → Exact t F p → ((a : A) → Exact (u a) (G a) (q a)) → Exact (λ (x : A × B). t x.0 ++ u x.0 x.1) (λ (x : A × B). F x.0 × G x.0 x.1) (pair_at p q)
pair_exact {A} {B} t F p u G q P Q = record {
  takes = λ bytes x rest fits e.
      let a = bind_ok (p bytes) (λ a. q a.0 a.1 >>= λ b. Ok ((a.0, b.0), b.1)) (x, rest) e in
      let b = bind_ok (q a.0.0 a.0.1) (λ b. Ok ((a.0.0, b.0), b.1)) (x, rest) a.2 in
      let first = P.takes bytes a.0.0 a.0.1 fits a.1 in
      let behind : IsBytes a.0.1 = IsBytes-behind (t a.0.0) a.0.1 (subst IsBytes first.0 fits) in
      let second = (Q a.0.0).takes a.0.1 b.0.0 b.0.1 behind b.1 in
      let whole : bytes ≡ (t a.0.0 ++ u a.0.0 b.0.0) ++ b.0.1 = first.0 ∙ ap (λ (r : List ℕ). t a.0.0 ++ r) second.0 ∙ sym (append_assoc (t a.0.0) (u a.0.0 b.0.0) b.0.1) in
      let made : (A × B) × List ℕ = ((a.0.0, b.0.0), b.0.1) in
      subst (λ (y : (A × B) × List ℕ). (bytes ≡ (t y.0.0 ++ u y.0.0 y.0.1) ++ y.1) × (F y.0.0 × G y.0.0 y.0.1)) (ok_is made (x, rest) b.2) (whole, (first.1, second.1));
  again = λ x rest fits.
      let one = P.again x.0 (u x.0 x.1 ++ rest) fits.0 in
      let two = (Q x.0).again x.1 rest fits.1 in
      ap (pair_at p q) (append_assoc (t x.0) (u x.0 x.1) rest) ∙ rw (one, two) refl;
}

pub value_exact : {A B : Type 0} (t : A → List ℕ) (F : A → Type 0) (p : Reading A) (f : A → B) (g : B → A) (G : B → Type 0)
    → Exact t F p → ((a : A) → F a → (g (f a) ≡ a) × G (f a)) → ((b : B) → G b → F (g b) × (f (g b) ≡ b)) → Exact (λ (b : B). t (g b)) G (value_at f p)
value_exact {A} {B} t F p f g G P there back = record {
  takes = λ bytes x rest fits e.
      let a = bind_ok (p bytes) (λ a. Ok (f a.0, a.1)) (x, rest) e in
      let first = P.takes bytes a.0.0 a.0.1 fits a.1 in
      let on = there a.0.0 first.1 in
      let whole : bytes ≡ t (g (f a.0.0)) ++ a.0.1 = first.0 ∙ ap (λ (y : A). t y ++ a.0.1) (sym on.0) in
      let made : B × List ℕ = (f a.0.0, a.0.1) in
      subst (λ (y : B × List ℕ). (bytes ≡ t (g y.0) ++ y.1) × G y.0) (ok_is made (x, rest) a.2) (whole, on.1);
  again = λ x rest fits.
      let b = back x fits in
      let one = P.again (g x) rest b.0 in
      rw (one, b.1) refl;
}

pub only_exact : {A : Type 0} (t : A → List ℕ) (F : A → Type 0) (p : Reading A) (test : A → Bool)
    → Exact t F p → Exact t (λ (x : A). F x × (test x ≡ true)) (only_at test p)
only_exact {A} t F p test P = record {
  takes = λ bytes x rest fits e.
      let a = bind_ok (p bytes) (λ a. cond (test a.0) (Ok a) (Err (length bytes))) (x, rest) e in
      let g = guard_true (test a.0.0) (length bytes) (Ok a.0) (x, rest) a.2 in
      let first = P.takes bytes a.0.0 a.0.1 fits a.1 in
      subst (λ (y : A × List ℕ). (bytes ≡ t y.0 ++ y.1) × (F y.0 × (test y.0 ≡ true))) (ok_is a.0 (x, rest) g.1) (first.0, (first.1, g.0));
  again = λ x rest fits.
      let one = P.again x rest fits.0 in
      rw (one, fits.1) refl;
}

-- the first value is determined by the second
pub keyed_exact : {A B : Type 0} (t : A → List ℕ) (F : A → Type 0) (p : Reading A) (key : B → A) (u : B → List ℕ) (G : B → Type 0) (q : A → Reading B)
    → Exact t F p → ((a : A) → Exact u (λ (b : B). G b × (key b ≡ a)) (q a)) → Exact (λ (b : B). t (key b) ++ u b) (λ (b : B). F (key b) × G b) (λ bytes. p bytes >>= λ a. q a.0 a.1)
keyed_exact {A} {B} t F p key u G q P Q = record {
  takes = λ bytes x rest fits e.
      let a = bind_ok (p bytes) (λ a. q a.0 a.1) (x, rest) e in
      let first = P.takes bytes a.0.0 a.0.1 fits a.1 in
      let behind : IsBytes a.0.1 = IsBytes-behind (t a.0.0) a.0.1 (subst IsBytes first.0 fits) in
      let second = (Q a.0.0).takes a.0.1 x rest behind a.2 in
      let whole : bytes ≡ (t a.0.0 ++ u x) ++ rest = first.0 ∙ ap (λ (r : List ℕ). t a.0.0 ++ r) second.0 ∙ sym (append_assoc (t a.0.0) (u x) rest) in
      subst (λ (k : A). (bytes ≡ (t k ++ u x) ++ rest) × (F k × G x)) (sym second.1.1) (whole, (first.1, second.1.0));
  again = λ x rest fits.
      let one = P.again (key x) (u x ++ rest) fits.0 in
      let two = (Q (key x)).again x rest (fits.1, refl) in
      ap (λ (bytes : List ℕ). p bytes >>= λ a. q a.0 a.1) (append_assoc (t (key x)) (u x) rest) ∙ rw (one, two) refl;
}

-- what fits, said in another way
pub exact_as : {A : Type 0} (t : A → List ℕ) (F G : A → Type 0) (p : Reading A) → ((x : A) → F x → G x) → ((x : A) → G x → F x) → Exact t F p → Exact t G p
exact_as t F G p there back P = record {
  takes = λ bytes x rest fits e. let first = P.takes bytes x rest fits e in (first.0, there x first.1);
  again = λ x rest fits. P.again x rest (back x fits);
}

-- ---- the forms

pub IsBytes-take : (n : ℕ) (bytes : List ℕ) → IsBytes bytes → IsBytes (take n bytes)
IsBytes-take zero bytes h i = omega arith
IsBytes-take (suc n) [] h i = omega arith
IsBytes-take (suc n) (x ∷ bytes) h zero = h 0
IsBytes-take (suc n) (x ∷ bytes) h (suc i) = IsBytes-take n bytes (λ j. h (suc j)) i

below : (bytes : List ℕ) → IsBytes bytes → from_le_bytes w64 bytes < 2 ^ 64
below bytes fits = omega (arith, fits 0, fits 1, fits 2, fits 3, fits 4, fits 5, fits 6, fits 7)

len_8 : (n : ℕ) → length (number_text n) ≡ 8
unfolding number_text
len_8 n = refl

back_8 : (bytes : List ℕ) → length bytes ≡ 8 → IsBytes bytes → number_text (from_le_bytes w64 bytes) ≡ bytes
unfolding number_text
back_8 bytes len fits = le_bytes_8 bytes _ len fits refl

again_8 : (n : ℕ) → n < 2 ^ 64 → from_le_bytes w64 (number_text n) ≡ n
unfolding number_text
again_8 n lt = from_le_bytes-to_le_bytes_8 n lt

pub bytes_exact : (n : ℕ) → Exact (λ (b : List ℕ). b) (λ (b : List ℕ). length b ≡ n) (bytes_at n)
unfolding bytes_at
bytes_exact n = record {
  takes = λ bytes x rest fits e.
      let g = guard_false (ltb (length bytes) n) (length bytes) (Ok (take n bytes, drop n bytes)) (x, rest) e in
      let long : n ≤ length bytes = ltb-false _ _ g.0 in
      subst (λ (y : List ℕ × List ℕ). (bytes ≡ y.0 ++ y.1) × (length y.0 ≡ n)) (ok_is (take n bytes, drop n bytes) (x, rest) g.1) (sym (take-append-drop n bytes), omega (arith, length-take n bytes));
  again = λ x rest fits.
      let long : ltb (length (x ++ rest)) n ≡ false = le-ltb _ _ (omega (arith, length-append x rest)) in
      rw (long, take_at x rest n fits, drop_at x rest n fits) refl;
}

pub number_exact : Exact number_text (λ (n : ℕ). n < 2 ^ 64) eight_bytes_at
unfolding eight_bytes_at
number_exact = record {
  takes = λ bytes x rest fits e.
      let g = guard_false (ltb (length bytes) 8) (length bytes) (Ok (from_le_bytes w64 (take 8 bytes), drop 8 bytes)) (x, rest) e in
      let long : 8 ≤ length bytes = ltb-false _ _ g.0 in
      let small : IsBytes (take 8 bytes) = IsBytes-take 8 bytes fits in
      let front : number_text (from_le_bytes w64 (take 8 bytes)) ≡ take 8 bytes = back_8 (take 8 bytes) (omega (arith, length-take 8 bytes)) small in
      subst (λ (y : ℕ × List ℕ). (bytes ≡ number_text y.0 ++ y.1) × (y.0 < 2 ^ 64)) (ok_is (from_le_bytes w64 (take 8 bytes), drop 8 bytes) (x, rest) g.1)
      (sym (take-append-drop 8 bytes) ∙ ap (λ (f : List ℕ). f ++ drop 8 bytes) (sym front), below (take 8 bytes) small);
  again = λ x rest fits.
      let long : ltb (length (number_text x ++ rest)) 8 ≡ false = le-ltb _ _ (omega (arith, length-append (number_text x) rest, len_8 x)) in
      rw (long, take_at (number_text x) rest 8 (len_8 x), drop_at (number_text x) rest 8 (len_8 x), again_8 x fits) refl;
}

pub counted_exact : Exact counted_text (λ (b : List ℕ). length b < 2 ^ 64) counted_at
unfolding counted_at
counted_exact = exact_as counted_text (λ (b : List ℕ). (length b < 2 ^ 64) × Unit {0}) (λ (b : List ℕ). length b < 2 ^ 64) counted_at (λ x h. h.0) (λ x h. (h, tt))
    (keyed_exact number_text (λ (n : ℕ). n < 2 ^ 64) eight_bytes_at (λ (b : List ℕ). length b) (λ (b : List ℕ). b) (λ (b : List ℕ). Unit {0}) bytes_at number_exact
    (λ n. exact_as (λ (b : List ℕ). b) (λ (b : List ℕ). length b ≡ n) (λ (b : List ℕ). Unit {0} × (length b ≡ n)) (bytes_at n) (λ x h. (tt, h)) (λ x h. h.1) (bytes_exact n)))

pub text_exact : Exact counted_text IsUtf8Text utf8_at
unfolding utf8_at
text_exact = exact_as counted_text (λ (b : List ℕ). (length b < 2 ^ 64) × (is_utf8 b ≡ true)) IsUtf8Text utf8_at (λ x h. record { short = h.0; utf8 = h.1 }) (λ x h. (h.short, h.utf8))
    (only_exact counted_text (λ (b : List ℕ). length b < 2 ^ 64) counted_at is_utf8 counted_exact)

pub flag_exact : Exact flag_text (λ (b : Bool). Unit {0}) flag_at
flag_exact = record {
  takes = flag_takes;
  again = flag_again;
}
  where
    flag_takes : (bytes : List ℕ) (x : Bool) (rest : List ℕ) → IsBytes bytes → flag_at bytes ≡ Ok (x, rest) → (bytes ≡ flag_text x ++ rest) × Unit {0}
    flag_takes [] x rest fits e = absurd cc
    flag_takes (zero ∷ bytes) x rest fits e = subst (λ (y : Bool × List ℕ). (0 ∷ bytes ≡ flag_text y.0 ++ y.1) × Unit {0}) (ok_is (false, bytes) (x, rest) e) (refl, tt)
    flag_takes (suc zero ∷ bytes) x rest fits e = subst (λ (y : Bool × List ℕ). (1 ∷ bytes ≡ flag_text y.0 ++ y.1) × Unit {0}) (ok_is (true, bytes) (x, rest) e) (refl, tt)
    flag_takes (suc (suc b) ∷ bytes) x rest fits e = absurd cc

    flag_again : (x : Bool) (rest : List ℕ) → Unit {0} → flag_at (flag_text x ++ rest) ≡ Ok (x, rest)
    flag_again false rest h = refl
    flag_again true rest h = refl

module _ {A : Type 0} (t : A → List ℕ) (F : A → Type 0) (p : Reading A) (P : Exact t F p) where
  optional_takes : (bytes : List ℕ) (x : Option A) (rest : List ℕ) → IsBytes bytes → optional_at p bytes ≡ Ok (x, rest) → (bytes ≡ optional_text t x ++ rest) × IfSome x F
  unfolding optional_at
  optional_takes [] x rest fits e = absurd cc
  optional_takes (zero ∷ bytes) x rest fits e = subst (λ (y : Option A × List ℕ). (0 ∷ bytes ≡ optional_text t y.0 ++ y.1) × IfSome y.0 F) (ok_is (None, bytes) (x, rest) e) (refl, tt)
  optional_takes (suc zero ∷ bytes) x rest fits e =
      let a = bind_ok (p bytes) (λ a. Ok (Some a.0, a.1)) (x, rest) e in
      let first = P.takes bytes a.0.0 a.0.1 (λ i. fits (suc i)) a.1 in
      let made : Option A × List ℕ = (Some a.0.0, a.0.1) in
      subst (λ (y : Option A × List ℕ). (1 ∷ bytes ≡ optional_text t y.0 ++ y.1) × IfSome y.0 F) (ok_is made (x, rest) a.2) (ap (λ (w : List ℕ). 1 ∷ w) first.0, first.1)
  optional_takes (suc (suc b) ∷ bytes) x rest fits e = absurd cc

  optional_again : (x : Option A) (rest : List ℕ) → IfSome x F → optional_at p (optional_text t x ++ rest) ≡ Ok (x, rest)
  unfolding optional_at
  optional_again None rest h = refl
  optional_again (Some x) rest h = rw (P.again x rest h) refl

  pub optional_exact : Exact (optional_text t) (λ (x : Option A). IfSome x F) (optional_at p)
  optional_exact = record { takes = optional_takes; again = optional_again }

  times_takes : (n : ℕ) (bytes : List ℕ) (x : List A) (rest : List ℕ) → IsBytes bytes → times_at p n bytes ≡ Ok (x, rest) → (bytes ≡ flat_map t x ++ rest) × (AllByRecursion F x × (length x ≡ n))
  unfolding times_at
  times_takes zero bytes x rest fits e = subst (λ (y : List A × List ℕ). (bytes ≡ flat_map t y.0 ++ y.1) × (AllByRecursion F y.0 × (length y.0 ≡ 0))) (ok_is ([], bytes) (x, rest) e) (refl, (tt, refl))
  times_takes (suc n) bytes x rest fits e =
      let a = bind_ok (p bytes) (λ a. times_at p n a.1 >>= λ b. Ok (a.0 ∷ b.0, b.1)) (x, rest) e in
      let b = bind_ok (times_at p n a.0.1) (λ b. Ok (a.0.0 ∷ b.0, b.1)) (x, rest) a.2 in
      let first = P.takes bytes a.0.0 a.0.1 fits a.1 in
      let behind : IsBytes a.0.1 = IsBytes-behind (t a.0.0) a.0.1 (subst IsBytes first.0 fits) in
      let second = times_takes n a.0.1 b.0.0 b.0.1 behind b.1 in
      let whole : bytes ≡ flat_map t (a.0.0 ∷ b.0.0) ++ b.0.1 = first.0 ∙ ap (λ (r : List ℕ). t a.0.0 ++ r) second.0 ∙ sym (append_assoc (t a.0.0) (flat_map t b.0.0) b.0.1) ∙ ap (λ (w : List ℕ). w ++ b.0.1) (sym (flat_map-cons t a.0.0 b.0.0)) in
      let made : List A × List ℕ = (a.0.0 ∷ b.0.0, b.0.1) in
      subst (λ (y : List A × List ℕ). (bytes ≡ flat_map t y.0 ++ y.1) × (AllByRecursion F y.0 × (length y.0 ≡ suc n))) (ok_is made (x, rest) b.2) (whole, ((first.1, second.1.0), ap suc second.1.1))

  times_again : (x : List A) (rest : List ℕ) → AllByRecursion F x → times_at p (length x) (flat_map t x ++ rest) ≡ Ok (x, rest)
  unfolding times_at
  times_again [] rest h = refl
  times_again (a ∷ x) rest h =
      let regrouped : flat_map t (a ∷ x) ++ rest ≡ t a ++ (flat_map t x ++ rest) = ap (λ (w : List ℕ). w ++ rest) (flat_map-cons t a x) ∙ append_assoc (t a) (flat_map t x) rest in
      ap (times_at p (suc (length x))) regrouped ∙ rw (P.again a (flat_map t x ++ rest) h.0, times_again x rest h.1) refl

  times_exact : (n : ℕ) → Exact (flat_map t) (λ (x : List A). AllByRecursion F x × (length x ≡ n)) (times_at p n)
  times_exact n = record {
    takes = times_takes n;
    again = λ x rest h. subst (λ (k : ℕ). times_at p k (flat_map t x ++ rest) ≡ Ok (x, rest)) h.1 (times_again x rest h.0);
  }

  pub each_exact : Exact (each_text t) (λ (x : List A). (length x < 2 ^ 64) × AllByRecursion F x) (each_at p)
  unfolding each_at
  each_exact = keyed_exact number_text (λ (n : ℕ). n < 2 ^ 64) eight_bytes_at (λ (x : List A). length x) (flat_map t) (AllByRecursion F) (times_at p) number_exact times_exact
