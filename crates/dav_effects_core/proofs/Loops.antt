-- Reading values one after the other, as a loop does.
use Rattle.std.proofs.Common.{◌≡◌, ℕ, suc, ◌-◌, ◌+◌, ◌≤◌, ◌<◌, List, [], ◌∷◌, ◌++◌, Result, Ok, Err, refl, sym, ap, ◌∙◌, append_assoc, arith}
use Rattle.std.proofs.lemmas.List.{append-nil}
use Rattle.dav_effects_core.specs.declared.error.ReadError.{ReadError}
use Rattle.dav_effects_core.specs.declared.error.ReadError.TheVariants.{Memory, Fault}
use Rattle.dav_effects_core.specs.ByteForms.{Reading, ◌>>=◌, times_at}
use Rattle.dav_effects_core.specs.Reads.{FailsAs}

-- what was read before, and what is still read
abbrev pub with_front : {A : Type 0} → List A → Result (List A × List ℕ) ℕ → Result (List A × List ℕ) ℕ
with_front front read = read >>= λ x. Ok (front ++ x.0, x.1)

module _ {A : Type 0} (p : Reading A) where
  regroup : (front : List A) (a : A) (read : Result (List A × List ℕ) ℕ) → with_front front (read >>= λ x. Ok (a ∷ x.0, x.1)) ≡ with_front (front ++ a ∷ []) read
  regroup front a (Ok x) = ap (λ (xs : List A). Ok (xs, x.1)) (simp append_assoc)
  regroup front a (Err f) = refl

  pub goes_on : (front : List A) (count i : ℕ) (bytes : List ℕ) (a : A) (behind : List ℕ) (total : Result (List A × List ℕ) ℕ) → i < count → p bytes ≡ Ok (a, behind)
      → with_front front (times_at p (count - i) bytes) ≡ total → with_front (front ++ a ∷ []) (times_at p (count - (i + 1)) behind) ≡ total
  unfolding times_at
  goes_on front count i bytes a behind total lt h so_far =
      let k : count - i ≡ suc (count - (i + 1)) = omega arith in
      let one : with_front front (times_at p (count - i) bytes) ≡ with_front (front ++ a ∷ []) (times_at p (count - (i + 1)) behind) = rw (k, h) (regroup front a (times_at p (count - (i + 1)) behind)) in
      sym one ∙ so_far

  pub fails : (e : ReadError) (front : List A) (count i : ℕ) (bytes : List ℕ) (total : Result (List A × List ℕ) ℕ) → i < count → FailsAs e (p bytes)
      → with_front front (times_at p (count - i) bytes) ≡ total → FailsAs e total
  unfolding times_at
  fails Memory front count i bytes total lt h so_far = tt
  fails (Fault left) front count i bytes total lt h so_far =
      let k : count - i ≡ suc (count - (i + 1)) = omega arith in
      let one : with_front front (times_at p (count - i) bytes) ≡ Err left = rw (k, h) refl in
      sym so_far ∙ one

  pub is_done : (front : List A) (count i : ℕ) (bytes : List ℕ) (total : Result (List A × List ℕ) ℕ) → count ≤ i → with_front front (times_at p (count - i) bytes) ≡ total → total ≡ Ok (front, bytes)
  unfolding times_at
  is_done front count i bytes total le so_far =
      let k : count - i ≡ 0 = omega arith in
      let one : with_front front (times_at p (count - i) bytes) ≡ Ok (front, bytes) = rw k (ap (λ (xs : List A). Ok (xs, bytes)) (append-nil front)) in
      sym so_far ∙ one
