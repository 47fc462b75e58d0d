-- What follows from the reading of a snapshot.
use Rattle.std.proofs.Common.{◌≡◌, ℕ, List, Result, Ok, Err, refl, sym, ap, ◌∙◌}
use Rattle.std.specs.Prelude.{IfErr, IfOk, MatchResult}
use Rattle.dav_path_core.specs.declared.util.Moment.{Moment}
use Rattle.dav_guarded_core.specs.Stores.{Stores}
use Rattle.dav_effects_core.specs.declared.error.RecordError.{RecordError}
use Rattle.dav_effects_core.specs.declared.error.RecordError.TheVariants.{OutOfMemory, Damaged}
use Rattle.dav_effects_core.specs.RecordFaults.{IsFault}
use Rattle.dav_effects_core.proofs.Exact.{ok_is}
use Rattle.dav_snapshots_core.specs.Private.ReadSnapshots.{ReadsSnapshot}
use Rattle.dav_snapshots_core.specs.SnapshotReading.{snapshot_at}
use Rattle.dav_snapshots_core.specs.WrittenSnapshots.{HasPaths, IsSnapshot}
use Rattle.dav_snapshots_core.proofs.SnapshotForms.{snapshot_again}

pub is_found : (r : Result (Stores × Moment) RecordError) (read : Result (Stores × ℕ) ℕ) → ReadsSnapshot r read → IfOk r (λ x. read ≡ Ok (x.0, x.1.0))
is_found (Ok x) read given = given
is_found (Err e) read given = tt

pub is_fault : (r : Result (Stores × Moment) RecordError) (read : Result (Stores × ℕ) ℕ) → ReadsSnapshot r read → IfErr r (λ e. IsFault e read)
is_fault (Ok x) read given = tt
is_fault (Err e) read given = given

pub is_only : (bytes : List ℕ) (r : Result (Stores × Moment) RecordError) (s : Stores) (now : ℕ) → ReadsSnapshot r (snapshot_at bytes) → IsSnapshot s now bytes → HasPaths s.map
    → MatchResult r (λ x. (x.0 ≡ s) × (x.1.0 ≡ now)) (λ e. e ≡ OutOfMemory)
is_only bytes (Ok x) s now given is paths =
    let found : Stores × ℕ = (x.0, x.1.0) in
    let same : found ≡ (s, now) = ok_is found (s, now) (sym given ∙ snapshot_again s now bytes is paths) in
    (ap (λ (y : Stores × ℕ). y.0) same, ap (λ (y : Stores × ℕ). y.1) same)
is_only bytes (Err OutOfMemory) s now given is paths = refl
is_only bytes (Err (Damaged at)) s now given is paths = absurd (apart at (s, now) (sym given ∙ snapshot_again s now bytes is paths))
  where
    apart : (left : ℕ) (x : Stores × ℕ) → Err left ≡ Ok x → ⊥
    apart left x e = cc
