-- Steps that are made one after the other, as a loop does.
use Rattle.std.proofs.Common.{◌≡◌, ℕ, suc, ◌-◌, ◌+◌, ◌≤◌, ◌<◌, List, Result, Ok, Err, refl, sym, ◌∙◌, arith}
use Rattle.dav_effects_core.specs.declared.error.ReadError.{ReadError}
use Rattle.dav_effects_core.specs.declared.error.ReadError.TheVariants.{Memory, Fault}
use Rattle.dav_effects_core.specs.ByteForms.{Reading}
use Rattle.dav_effects_core.specs.Reads.{FailsAs}
use Rattle.dav_snapshots_core.specs.SnapshotReading.{repeat_at}

module _ {A : Type 0} (step : A → Reading A) where
  pub goes_on : (count i : ℕ) (s t : A) (bytes behind : List ℕ) (total : Result (A × List ℕ) ℕ) → i < count → step s bytes ≡ Ok (t, behind)
      → repeat_at step (count - i) s bytes ≡ total → repeat_at step (count - (i + 1)) t behind ≡ total
  unfolding repeat_at
  goes_on count i s t bytes behind total lt h so_far =
      let k : count - i ≡ suc (count - (i + 1)) = omega arith in
      let one : repeat_at step (count - i) s bytes ≡ repeat_at step (count - (i + 1)) t behind = rw (k, h) refl in
      sym one ∙ so_far

  pub fails : (e : ReadError) (count i : ℕ) (s : A) (bytes : List ℕ) (total : Result (A × List ℕ) ℕ) → i < count → FailsAs e (step s bytes)
      → repeat_at step (count - i) s bytes ≡ total → FailsAs e total
  unfolding repeat_at
  fails Memory count i s bytes total lt h so_far = tt
  fails (Fault left) count i s bytes total lt h so_far =
      let k : count - i ≡ suc (count - (i + 1)) = omega arith in
      let one : repeat_at step (count - i) s bytes ≡ Err left = rw (k, h) refl in
      sym so_far ∙ one

  pub is_done : (count i : ℕ) (s : A) (bytes : List ℕ) (total : Result (A × List ℕ) ℕ) → count ≤ i → repeat_at step (count - i) s bytes ≡ total → total ≡ Ok (s, bytes)
  unfolding repeat_at
  is_done count i s bytes total le so_far =
      let k : count - i ≡ 0 = omega arith in
      let one : repeat_at step (count - i) s bytes ≡ Ok (s, bytes) = rw k refl in
      sym so_far ∙ one
