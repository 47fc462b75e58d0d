-- The head of a snapshot, as far as it is read.
use Rattle.std.proofs.Common.{◌≡◌, ℕ, false, eqb, List, [], length, Ok, Err, refl, subst}
use Rattle.dav_files_core.specs.Restoring.{with_later_next}
use Rattle.dav_guarded_core.specs.Stores.{Stores, start_stores}
use Rattle.dav_effects_core.specs.declared.error.ReadError.{ReadError}
use Rattle.dav_effects_core.specs.declared.error.ReadError.TheVariants.{Memory, Fault}
use Rattle.dav_effects_core.specs.ByteForms.{eight_bytes_at}
use Rattle.dav_effects_core.specs.Reads.{FailsAs}
use Rattle.dav_snapshots_core.specs.SnapshotReading.{Standing, entry_step, lock_step, numbered_from, snapshot_head_at, standing, steps_at}

-- what stood before the folders and files, behind them, and before the locks
module _ (bodies head r₁ r₂ r₃ path₀ path left path₁ : List ℕ) (now next : ℕ) (stores₀ stores raised : Stores) (p₀ : path₀ ≡ []) (s₀ : stores₀ ≡ start_stores now) (p₁ : path₁ ≡ [])
    (map : raised.map ≡ with_later_next stores.map next) (locks : raised.locks ≡ stores.locks) (a : eight_bytes_at head ≡ Ok (now, r₁)) (b : eight_bytes_at r₁ ≡ Ok (next, r₂))
    (c : steps_at entry_step (standing path₀ bodies stores₀) r₂ ≡ Ok (standing path left stores, r₃)) where
  first : steps_at entry_step (standing [] bodies (start_stores now)) r₂ ≡ Ok (standing path left stores, r₃)
  first =
      subst (λ (s : Stores). steps_at entry_step (standing [] bodies s) r₂ ≡ Ok (standing path left stores, r₃)) s₀
      (subst (λ (p : List ℕ). steps_at entry_step (standing p bodies stores₀) r₂ ≡ Ok (standing path left stores, r₃)) p₀ c)

  turned : standing path₁ left raised ≡ standing [] left (numbered_from next stores)
  turned = λ i. record { path = p₁ i; bodies = left; stores = record { map = map i; locks = locks i } }

  pub head_fails : (e : ReadError) → FailsAs e (steps_at lock_step (standing path₁ left raised) r₃) → FailsAs e (snapshot_head_at bodies head)
  unfolding snapshot_head_at
  head_fails Memory h = tt
  head_fails (Fault d) h =
      let second : steps_at lock_step (standing [] left (numbered_from next stores)) r₃ ≡ Err d = subst (λ (s : Standing). steps_at lock_step s r₃ ≡ Err d) turned h in
      rw (a, b, first, second) refl

  pub head_left : (t : Standing) (r₄ : List ℕ) → steps_at lock_step (standing path₁ left raised) r₃ ≡ Ok (t, r₄) → eqb (length r₄) 0 ≡ false → snapshot_head_at bodies head ≡ Err (length r₄)
  unfolding snapshot_head_at
  head_left t r₄ h more =
      let second : steps_at lock_step (standing [] left (numbered_from next stores)) r₃ ≡ Ok (t, r₄) = subst (λ (s : Standing). steps_at lock_step s r₃ ≡ Ok (t, r₄)) turned h in
      rw (a, b, first, second, more) refl
