-- Room that is made in the journal's file while turns are given.
use Rattle.std.proofs.Common.{◌≡◌, ◌⊎◌, ℕ, zero, suc, ◌+◌, ◌-◌, ◌^◌, ◌<◌, ◌≤◌, Bool, true, false, List, [], ◌++◌, length, ap, sym, ◌∙◌, refl, subst, arith, inl, inr}
use Rattle.std.specs.Prelude.{IsTrue, IsFalse, min}
use Rattle.std.proofs.lemmas.Grind.{flat_map-append}
use Rattle.std.proofs.lemmas.List.{length-append, nil_from_length}
use Rattle.journal_core.specs.declared.header.Header.{Header}
use Rattle.journal_core.specs.declared.journal.Journal.{Journal}
use Rattle.journal_core.specs.Clocked.{CrashLeaves, EachLeaves}
use Rattle.journal_core.specs.declared.round.Round.{Round}
use Rattle.journal_core.specs.Format.{StandsFor, record_text, records_text}
use Rattle.journal_core.specs.Resting.{Carries, IsSettled, clocked_of, disk_behind, gate_of, header_in, is_ready}
use Rattle.journal_core.proofs.MomentLaws.{joined, none}
use Rattle.kept_frames.specs.Giving.{AddsWithin, EndsWithin, KeepsEither, KeepsRecords, LosesNoRoom, StaysSettled}
use Rattle.kept_frames.proofs.Standings.{settled_leaves}

module _ {D O : Type 0} {seen : D → List ℕ} {may_leave : D → List ℕ → Type 0} {is_clean : D → Bool} where
  -- no room was made
  pub keeps_none : (j : Journal D O) (o : O) → KeepsRecords seen may_leave is_clean j j o
  keeps_none j o = record {
    header = refl;
    each = λ records settled. none (CrashLeaves may_leave o (λ file. StandsFor (header_in j) file records)) (clocked_of j);
    crash = λ records settled. settled_leaves (header_in j) j records refl settled;
  }

  module _ {j j1 : Journal D O} {o : O} (k : KeepsRecords seen may_leave is_clean j j1 o) (stays : StaysSettled seen may_leave is_clean j j1) where
    pub keeps_then : {j2 : Journal D O} → KeepsRecords seen may_leave is_clean j1 j2 o → KeepsRecords seen may_leave is_clean j j2 o
    keeps_then {j2} l = record {
      header = l.header ∙ k.header;
      each = λ records settled. joined (CrashLeaves may_leave o (λ file. StandsFor (header_in j) file records)) (clocked_of j) (clocked_of j1) (clocked_of j2) (k.each records settled)
          (subst (λ (h : Header). EachLeaves may_leave o (λ file. StandsFor h file records) (clocked_of j1) (clocked_of j2)) k.header (l.each records (stays records settled)));
      crash = λ records settled file left. subst (λ (h : Header). StandsFor h file records) k.header (l.crash records (stays records settled) file left);
    }

  -- a round was appended, or not
  pub either_made : (waits : List (List ℕ) → Type 0) (j j' : Journal D O) (o : O) → header_in j' ≡ header_in j
      → ((records new : List (List ℕ)) → IsSettled seen may_leave is_clean j records → waits new
      → EachLeaves may_leave o (λ file. StandsFor (header_in j) file records ⊎ StandsFor (header_in j) file (records ++ new)) (clocked_of j) (clocked_of j'))
      → ((records new : List (List ℕ)) → IsSettled seen may_leave is_clean j records → waits new → (file : List ℕ) → may_leave (disk_behind j') file
      → StandsFor (header_in j) file records ⊎ StandsFor (header_in j) file (records ++ new))
      → KeepsEither seen may_leave is_clean waits j j' o
  either_made waits j j' o same moments leaves = record { header = same; each = moments; crash = leaves }

-- ---- the room of a round

-- all records that a round has take as many bytes
same_size : (round : Round) (xs ys : List (List ℕ)) → Carries round xs → Carries round ys → length (records_text xs) ≡ length (records_text ys)
same_size round xs ys x y = ap (λ (t : List ℕ). length t) (sym x ∙ y)

none_or_some : (n : ℕ) → (n ≡ 0) ⊎ (0 < n)
none_or_some zero = inl refl
none_or_some (suc n) = inr (omega arith)

more_size : (old more : List (List ℕ)) → length (records_text (old ++ more)) ≡ length (records_text old) + length (records_text more)
more_size old more = ap (λ (t : List ℕ). length t) (flat_map-append record_text old more) ∙ length-append (records_text old) (records_text more)

-- a round with no record needs none
pub room_none : {D O : Type 0} (seen : D → List ℕ) (is_clean : D → Bool) (j : Journal D O) (round : Round) → Carries round [] → (new : List (List ℕ)) → Carries round new → EndsWithin seen is_clean j new
room_none seen is_clean j round empty new carries = λ clean some. absurd (omega (arith, some, same_size round new [] carries empty))

module _ {D O : Type 0} {seen : D → List ℕ} {is_clean : D → Bool} where
  -- room was made for a turn more, as much as the service was told of, and the turn changed no more than that
  module _ {j j' : Journal D O} (loses : LosesNoRoom seen is_clean j j') (room held : ℕ) (round round' : Round)
      (holds : (records : List (List ℕ)) → Carries round records → held ≡ min (length (records_text records)) (2 ^ 64 - 1))
      (made : 0 < room → IsTrue (is_clean (disk_behind j')) → gate_of j' + (32 + (held + room)) ≤ length (seen (disk_behind j'))) (counted : 0 < room → held + room < 2 ^ 64)
      (adds : AddsWithin room round round') (old : List (List ℕ)) (carries : Carries round old) (had : EndsWithin seen is_clean j old) where
    pub room_then : (new : List (List ℕ)) → Carries round' new → EndsWithin seen is_clean j' new
    room_then new carries' = λ clean some. by clean some (none_or_some room)
      where
        more : List (List ℕ)
        more = (adds old carries).0

        size : length (records_text new) ≡ length (records_text old) + length (records_text more)
        size = same_size round' new (old ++ more) carries' (adds old carries).1 ∙ more_size old more

        short : length (records_text more) ≤ room
        short = (adds old carries).2

        by : IsTrue (is_clean (disk_behind j')) → 0 < length (records_text new) → (room ≡ 0) ⊎ (0 < room) → gate_of j' + (32 + length (records_text new)) ≤ length (seen (disk_behind j'))
        by clean some (inl no_room) =
            let held_all : gate_of j + (32 + length (records_text old)) ≤ length (seen (disk_behind j)) = had (loses.clean clean) (omega (arith, some, size, short, no_room)) in
            omega (arith, held_all, size, short, no_room, loses.gate, loses.longer)
        by clean some (inr room_is) = omega (arith, size, short, holds old carries, made room_is clean, counted room_is)

  -- a round that has room was appended
  pub within_room : {may_leave : D → List ℕ → Type 0} (j j' : Journal D O) (records new : List (List ℕ)) (round : Round) → IsSettled seen may_leave is_clean j records → Carries round new
      → ((records new : List (List ℕ)) → IsSettled seen may_leave is_clean j records → Carries round new → gate_of j + (32 + length (records_text new)) ≤ length (seen (disk_behind j))
      → length (seen (disk_behind j')) ≡ length (seen (disk_behind j)))
      → (Carries round [] → j' ≡ j) → EndsWithin seen is_clean j new → IsTrue (is_clean (disk_behind j)) → length (seen (disk_behind j')) ≡ length (seen (disk_behind j))
  within_room {may_leave} j j' records new round settled carries within nothing has clean = by (none_or_some (length (records_text new)))
    where
      by : (length (records_text new) ≡ 0) ⊎ (0 < length (records_text new)) → length (seen (disk_behind j')) ≡ length (seen (disk_behind j))
      by (inl empty) = ap (λ (k : Journal D O). length (seen (disk_behind k))) (nothing (carries ∙ nil_from_length (records_text new) empty))
      by (inr some) = within records new settled carries (has clean some)

-- where it has no record, nothing was done, whether the journal was open or not
pub nothing_done : {D O A B : Type 0} (j j' : Journal D O) (round : Round) → (IsFalse (is_ready j) → (j' ≡ j) × A) → (IsTrue (is_ready j) → Carries round [] → (j' ≡ j) × B) → Carries round [] → j' ≡ j
nothing_done {D} {O} {A} {B} j j' round closed opened empty = by (is_ready j) refl
  where
    by : (b : Bool) → is_ready j ≡ b → j' ≡ j
    by true is = (opened is empty).0
    by false is = (closed is).0
