-- How long a lock is told to stand right after it got its end.
use Rattle.std.proofs.Common.{◌≡◌, ℕ, zero, suc, ◌+◌, ◌*◌, ◌-◌, ◌/◌, ◌^◌, ◌<◌, ◌++◌, codes, Some, refl, ap, ◌∙◌, arith}
use Rattle.std.specs.Prelude.{decimal, min}
use Rattle.std.proofs.Math.Nat.{mul-div_cancel}
use Rattle.dav_locks_core.specs.Locks.{end_of}
use Rattle.dav_documents_core.specs.LockDocuments.{seconds_between, time_left_text}

ended : (now seconds : ℕ) → now + seconds * 1000000000 < 2 ^ 64 → min (now + seconds * 1000000000) 18446744073709551615 - now ≡ seconds * 1000000000
ended now seconds early = omega arith

pub seconds_told : (now seconds : ℕ) → now + seconds * 1000000000 < 2 ^ 64 → time_left_text now (end_of now (Some seconds)) ≡ codes "Second-" ++ decimal seconds
seconds_told now seconds early =
    ap (λ left. codes "Second-" ++ decimal left) (ap (λ nanoseconds. nanoseconds / 1000000000) (ended now seconds early) ∙ mul-div_cancel seconds positive)
  where
    positive : zero < 1000000000
    positive = omega arith
