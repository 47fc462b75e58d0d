-- A file in use is copied byte by byte, from front to back, while it changes (own).
use Rattle.std.specs.Prelude.{◌≡◌, ◌≢◌, ◌⊎◌, ℕ, ◌+◌, ◌<◌, ◌≤◌, List, [], ◌∷◌, ◌++◌, zero, suc, length, slice_index}
use Rattle.std.specs.List.{AllByRecursion}
use Rattle.journal_core.specs.declared.header.Header.{Header}
use Rattle.journal_core.specs.declared.clocked.Clocked.{Clocked}
use Rattle.journal_core.specs.Clocked.{GoesAs, disk_of}
use Rattle.journal_core.specs.Format.{Laid, IsOf64Bits, IsOpen, Lies, journal_front, open_word, records_in, rounds_text, shut_word}
use Rattle.journal_core.specs.SeveralRounds.{AreRoundsBehind}

-- where the gate is behind these rounds
abbrev pub gate_behind : Header → List Laid → ℕ
gate_behind h rounds = 56 + length (rounds_text h.key 56 rounds)

-- a header and rounds, before and after
pub record KeepsFront (first : ℕ) (h : Header) (rounds : List Laid) (file file' old new : List ℕ) : Type 0 where
  pub made : first ≢ 0
  pub fits : IsOf64Bits h
  pub gates : AllByRecursion IsOpen rounds
  pub before : file ≡ journal_front first h rounds ++ old
  pub after : file' ≡ journal_front first h rounds ++ new

-- what stands behind the gate that is shut becomes something else that is no shorter
pub record ChangesBehind (h : Header) (file file' : List ℕ) : Type 0 where
  pub first : ℕ
  pub rounds : List Laid
  pub old : List ℕ
  pub new : List ℕ
  pub keeps : KeepsFront first h rounds file file' (shut_word ++ old) (shut_word ++ new)
  pub longer : length old ≤ length new

-- behind the gate that is shut stand whole rounds, and then a gate that is shut: the first of the two is opened
pub record OpensGate (h : Header) (file file' : List ℕ) : Type 0 where
  pub first : ℕ
  pub rounds : List Laid
  pub text : List ℕ
  pub records : List (List ℕ)
  pub behind : List ℕ
  pub whole : AreRoundsBehind h.key (gate_behind h rounds) text records
  pub keeps : KeepsFront first h rounds file file' (shut_word ++ (text ++ (shut_word ++ behind))) (open_word ++ (text ++ (shut_word ++ behind)))

-- one step of a file in use
abbrev pub StepsOn : Header → List ℕ → List ℕ → Type 0
StepsOn h file file' = ChangesBehind h file file' ⊎ OpensGate h file file'

-- a step, or nothing changes
abbrev pub MayStep : Header → List ℕ → List ℕ → Type 0
MayStep h file file' = StepsOn h file file' ⊎ (file' ≡ file)

-- What is seen of the file at each moment that was noted between the two leads to what is seen at the next by a step, or nothing changes.
abbrev pub GoesBySteps : {D B : Type 0} → (D → List ℕ) → Header → Clocked D B → Clocked D B → Type 0
GoesBySteps seen h old new = GoesAs (MayStep h) seen old new

-- each moment leads to the next by a step, or nothing changes
abbrev pub LivesOn : Header → (ℕ → List ℕ) → Type 0
LivesOn h past = (n : ℕ) → MayStep h (past n) (past (n + 1))

-- the file at the nth moment of a run that begins with this file, and from the last on as it is then
abbrev pub file_at : {M : Type 0} → (M → List ℕ) → List ℕ → List M → ℕ → List ℕ
file_at seen file more zero = file
file_at seen file [] (suc n) = file
file_at seen file (m ∷ more) (suc n) = file_at seen (seen m) more n

-- a run that goes by steps is one of a file in use
abbrev pub RunsLiveOn : (D B : Type 0) → (D → List ℕ) → Type 0
RunsLiveOn D B seen = (h : Header) (old new : Clocked D B) (it : GoesBySteps seen h old new) → LivesOn h (file_at (λ (m : D × B). seen m.0) (seen (disk_of old)) it.0)

-- Each byte of the copy is the file's at the moment at which it is taken, none earlier than the byte before it; and at the end the file has no more.
pub record IsCopy (past : ℕ → List ℕ) (times : ℕ → ℕ) (copy : List ℕ) : Type 0 where
  pub onward : (i : ℕ) → times i ≤ times (i + 1)
  pub within : (i : ℕ) → i < length copy → i < length (past (times i))
  pub bytes : (i : ℕ) → i < length copy → slice_index copy i ≡ slice_index (past (times i)) i
  pub ends : length (past (times (length copy))) ≤ length copy

-- the copy has rounds, and their records are those of the file at the moment at which the gate behind them is read
abbrev pub IsOfOneMoment : Header → (ℕ → List ℕ) → (ℕ → ℕ) → List ℕ → Type 0
IsOfOneMoment h past times copy =
    (rounds : List Laid) × (rounds' : List Laid) × Lies h copy rounds × Lies h (past (times (gate_behind h rounds))) rounds' × (records_in rounds ≡ records_in rounds')

-- a copy of a file in use is a file in use
abbrev pub CopiesAreWhole : Type 0
CopiesAreWhole = (h : Header) (past : ℕ → List ℕ) (times : ℕ → ℕ) (copy : List ℕ) (begun : List Laid) → Lies h (past 0) begun → LivesOn h past → IsCopy past times copy → IsOfOneMoment h past times copy
