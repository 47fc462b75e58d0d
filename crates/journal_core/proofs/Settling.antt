-- A journal that was read to its end is at rest.
use Rattle.std.proofs.Common.{◌≡◌, ◌⊎◌, inl, inr, refl, arith, ℕ, ◌+◌, Bool, List, [], length, sym, ◌∙◌, ap, subst}
use Rattle.sqlite_disk.specs.Disk.{Only}
use Rattle.journal_core.specs.declared.header.Header.{Header}
use Rattle.journal_core.specs.declared.journal.Journal.{Journal}
use Rattle.journal_core.specs.declared.reader.Reader.{Reader}
use Rattle.journal_core.specs.Format.{IsNewFile, Lies, StandsFor, rounds_text}
use Rattle.journal_core.specs.JournalReading.{HasEnded}
use Rattle.journal_core.specs.Private.Stages.{IsMade}
use Rattle.journal_core.proofs.Rounds.{in_use, rounds_none}
use Rattle.journal_core.specs.Resting.{IsSettled, KnowsLength, clocked_of, disk_behind}
use Rattle.journal_core.specs.Clocked.{EachLeaves, CrashLeaves}
use Rattle.journal_core.specs.Private.DiskMoments.{joined, leaves_weaker}
use Rattle.journal_core.specs.Private.Looks.{LooksOn}

module _ {D B : Type 0} (seen : D → List ℕ) (may_leave : D → List ℕ → Type 0) (is_clean : D → Bool) where
  -- what a crash leaves of a journal at rest
  pub left_at_rest : (j : Journal D B) (records : List (List ℕ)) → IsSettled seen may_leave is_clean j records → (c : List ℕ) → may_leave (disk_behind j) c → StandsFor j.header c records
  left_at_rest j records it c left = subst (λ (f : List ℕ). StandsFor j.header f records) (sym (it.durable c left)) (inr (it.rounds, it.lies, it.same))

  pub settled : (j : Journal D B) (r : Reader) (file : List ℕ) (done : List (List ℕ)) (it : HasEnded r file done) → j.header ≡ r.header → j.at ≡ r.place → seen (disk_behind j) ≡ file
      → Only (seen (disk_behind j)) (may_leave (disk_behind j)) → KnowsLength seen is_clean j → IsSettled seen may_leave is_clean j done
  settled j r file done it header at seen_is only knows = record {
    rounds = it.rounds;
    lies = subst (λ (h : Header). Lies h (seen (disk_behind j)) it.rounds) (sym header) (subst (λ (f : List ℕ). Lies r.header f it.rounds) (sym seen_is) it.lies);
    same = it.same;
    at = at ∙ subst (λ (h : Header). r.place ≡ 56 + length (rounds_text h.key 56 it.rounds)) (sym header) it.place;
    durable = only;
    knows = knows;
  }

  -- and so is one that was just made
  pub made_settled : (j : Journal D B) (disk : D) → disk_behind j ≡ disk → IsMade seen may_leave j.header disk → j.at ≡ 56 → KnowsLength seen is_clean j → IsSettled seen may_leave is_clean j []
  made_settled j disk is it at knows = record {
    rounds = [];
    lies = subst (λ (d : D). Lies j.header (seen d) []) (sym is) it.lies;
    same = refl;
    at = at ∙ omega (arith, ap length (rounds_none j.header.key 56));
    durable = subst (λ (d : D). Only (seen d) (may_leave d)) (sym is) it.durable;
    knows = knows;
  }

-- a file that is new, and nothing else can be left of it
pub new_left : (h : Header) (file : List ℕ) (outcomes : List ℕ → Type 0) → IsNewFile file → Only file outcomes → (c : List ℕ) → outcomes c → StandsFor h c []
new_left h file outcomes new only c left = inl (subst IsNewFile (sym (only c left)) new, refl)

-- a new file stands for no records
pub new_none : (h : Header) (file : List ℕ) (records : List (List ℕ)) → IsNewFile file → StandsFor h file records → records ≡ []
new_none h file records new stands = elim stands [
  | inl also ↦ also.1
  | inr used ↦ absurd (in_use h file used.0 used.1 new)
]

-- a look leaves what stood, at each moment
module _ {D B : Type 0} (seen : D → List ℕ) (may_leave : D → List ℕ → Type 0) (is_clean : D → Bool) (faults : D → ℕ) (note : B) (h g : Header) (records : List (List ℕ)) (old new : Journal D B)
    (looks : LooksOn seen may_leave is_clean faults note old new) (only : Only (seen (disk_behind old)) (may_leave (disk_behind old))) (stands : StandsFor h (seen (disk_behind old)) records) where
  pub left_standing : (c : List ℕ) → may_leave (disk_behind old) c → StandsFor h c records ⊎ StandsFor g c records
  left_standing c left = inl (subst (λ (f : List ℕ). StandsFor h f records) (sym (only c left)) stands)

  pub looked_standing : EachLeaves may_leave note (λ c. StandsFor h c records ⊎ StandsFor g c records) (clocked_of old) (clocked_of new)
  looked_standing = leaves_weaker may_leave note (may_leave (disk_behind old)) (λ c. StandsFor h c records ⊎ StandsFor g c records) left_standing (clocked_of old) (clocked_of new) looks.any_moment

  -- and then the file is made, which is new
  module _ (last : Journal D B) (is_new : IsNewFile (seen (disk_behind old))) where
    none : (c : List ℕ) → StandsFor g c [] → StandsFor h c records ⊎ StandsFor g c records
    none c it = inr (subst (λ (l : List (List ℕ)). StandsFor g c l) (sym (new_none h (seen (disk_behind old)) records is_new stands)) it)

    pub made_standing : EachLeaves may_leave note (λ c. StandsFor g c []) (clocked_of new) (clocked_of last) → EachLeaves may_leave note (λ c. StandsFor h c records ⊎ StandsFor g c records) (clocked_of old) (clocked_of last)
    made_standing made =
        joined (CrashLeaves may_leave note (λ c. StandsFor h c records ⊎ StandsFor g c records)) (clocked_of old) (clocked_of new) (clocked_of last) looked_standing
        (leaves_weaker may_leave note (λ c. StandsFor g c []) (λ c. StandsFor h c records ⊎ StandsFor g c records) none (clocked_of new) (clocked_of last) made)

    pub made_left : ((c : List ℕ) → may_leave (disk_behind last) c → StandsFor g c []) → (c : List ℕ) → may_leave (disk_behind last) c → StandsFor h c records ⊎ StandsFor g c records
    made_left made c left = none c (made c left)
