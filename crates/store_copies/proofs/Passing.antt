-- A round that a copy has already.
use Rattle.std.proofs.Common.{◌≡◌, ℕ, ◌<◌, ◌^◌, List, ◌++◌, length, drop, Bool, sym, ◌∙◌, subst}
use Rattle.std.specs.Prelude.{Option, Some}
use Rattle.journal_core.specs.declared.journal.Journal.{Journal}
use Rattle.journal_core.specs.declared.reader.Reader.{Reader}
use Rattle.journal_core.specs.Format.{records_text}
use Rattle.journal_core.specs.Resting.{IsBeingRead, disk_behind}
use Rattle.journal_core.proofs.Records.{records_same}
use Rattle.store_copies.specs.TakenRounds.{HasInFront}

-- the next records of the copy that are read, where they are those of the round
pub passed : {D B : Type 0} (seen : D → List ℕ) (may_leave : D → List ℕ → Type 0) (is_clean : D → Bool) (j j' : Journal D B) (c : Option Reader) (r r' : Reader) (round text : List ℕ)
    → c ≡ Some r → text ≡ drop 16 round → length text < 2 ^ 64
    → ((done : List (List ℕ)) → IsBeingRead seen is_clean j r done → (more : List (List ℕ)) × (text ≡ records_text more) × IsBeingRead seen is_clean j' r' (done ++ more))
    → seen (disk_behind j') ≡ seen (disk_behind j) → ((f : List ℕ) → may_leave (disk_behind j') f → may_leave (disk_behind j) f)
    → (records new : List (List ℕ)) → HasInFront seen may_leave is_clean j c records → drop 16 round ≡ records_text new → HasInFront seen may_leave is_clean j' (Some r') (records ++ new)
passed seen may_leave is_clean j j' c r r' round text reader same short reads stays leaves records new it is =
    let had = subst (λ (o : Option Reader). HasInFront seen may_leave is_clean j o records) reader it in
    let read = reads records had.0 in
    let one : read.0 ≡ new = records_same read.0 new (subst (λ (l : List ℕ). length l < 2 ^ 64) read.1 short) (sym read.1 ∙ same ∙ is) in
    (subst (λ (l : List (List ℕ)). IsBeingRead seen is_clean j' r' (records ++ l)) one read.2, λ f left. had.1 f (leaves f left) ∙ sym stays)
