-- A snapshot that is appended to a journal which was made anew.
use Rattle.std.proofs.Common.{◌≡◌, ◌⊎◌, inl, inr, ℕ, Bool, List, [], ◌∷◌, ◌++◌, IsFalse, refl}
use Rattle.journal_core.specs.declared.error.JournalError.{JournalError}
use Rattle.journal_core.specs.declared.error.JournalError.TheVariants.{Foreign, Unsupported, Damaged, Failed, Full, OutOfMemory, TooLarge, NotOpen, Busy}
use Rattle.journal_core.specs.declared.journal.Journal.{Journal}
use Rattle.journal_core.specs.Clocked.{EachLeaves}
use Rattle.journal_core.specs.Format.{StandsFor}
use Rattle.journal_core.specs.Resting.{HasDiskCause, IsSettled, clocked_of, header_in}
use Rattle.journal_core.proofs.MomentLaws.{leaves_weaker}
use Rattle.dav_guarded_core.specs.Stores.{Stores}
use Rattle.dav_snapshots_core.specs.WrittenSnapshots.{HasPaths, IsSnapshot}
use Rattle.dav_store_core.specs.Compacting.{HasCompactingCause, IsCompactedOrEmpty, IsMadeAnew}
use Rattle.dav_store_core.specs.declared.error.StoreError.TheVariants.{Journal as JournalFault}
use Rattle.dav_store_core.specs.Loading.{IsLoaded}
use Rattle.dav_store_core.specs.StandingFor.{StandFor}
use Rattle.dav_store_core.proofs.SnapshotLemmas.{stand_goes_on}

module _ {D B : Type 0} (seen : D → List ℕ) (may_leave : D → List ℕ → Type 0) (is_clean : D → Bool) (j : Journal D B) (s : Stores) (last : ℕ) (made : IsMadeAnew seen may_leave is_clean j) (paths : HasPaths s.map) where
  -- the snapshot, at any moment
  module _ (bytes : List ℕ) (is : IsSnapshot s last bytes) where
    stands : StandFor (header_in j) (bytes ∷ []) s last
    stands = stand_goes_on (header_in j) s last bytes made.0 is paths

    pub either : (c : List ℕ) → StandsFor (header_in j) c [] ⊎ StandsFor (header_in j) c ([] ++ bytes ∷ []) → IsCompactedOrEmpty (header_in j) s last c
    either c (inl empty) = inl empty
    either c (inr whole) = inr (bytes ∷ [], whole, stands)

    pub each_either : (note : B) (new : Journal D B) → EachLeaves may_leave note (λ c. StandsFor (header_in j) c [] ⊎ StandsFor (header_in j) c ([] ++ bytes ∷ [])) (clocked_of j) (clocked_of new)
        → EachLeaves may_leave note (IsCompactedOrEmpty (header_in j) s last) (clocked_of j) (clocked_of new)
    each_either note new it = leaves_weaker may_leave note (λ c. StandsFor (header_in j) c [] ⊎ StandsFor (header_in j) c ([] ++ bytes ∷ [])) (IsCompactedOrEmpty (header_in j) s last) either (clocked_of j) (clocked_of new) it

    pub loaded : (new : Journal D B) → IsSettled seen may_leave is_clean new ([] ++ bytes ∷ []) → IsLoaded seen may_leave is_clean new (header_in j) s last
    loaded new settled = record { records = bytes ∷ []; settled = settled; stand = stands }
