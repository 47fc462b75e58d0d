-- What a clause sees of a clocked disk: the disk, and each state that it has had.
use Rattle.std.specs.Prelude.{◌≡◌, ℕ, List, [], ◌∷◌, ◌++◌}
use Rattle.std.specs.List.{AllByRecursion}
use Rattle.journal_core.specs.declared.clocked.Clocked.{Clocked}

abbrev pub disk_of : {D B : Type 0} → Clocked D B → D
disk_of it = it.disk

-- each state of the disk before and after each call, with what was noted beside it
abbrev pub past_of : {D B : Type 0} → Clocked D B → List (D × B)
past_of it = it.past.items

-- each moment that was noted between the two has P
abbrev pub Each : {D B : Type 0} → (D × B → Type 0) → Clocked D B → Clocked D B → Type 0
Each {D} {B} P old new = (more : List (D × B)) × (past_of new ≡ past_of old ++ more) × AllByRecursion P more

-- the moment has this note, and a crash then leaves a file that has P
abbrev pub CrashLeaves : {D B : Type 0} → (D → List ℕ → Type 0) → B → (List ℕ → Type 0) → D × B → Type 0
CrashLeaves may_leave note P m = (m.1 ≡ note) × ((c : List ℕ) → may_leave m.0 c → P c)

-- A crash at any moment between the two leaves a file that has P: before and after each call of the disk, whatever it answered. (A crash within a call is one of those after it: a part of a
-- write is one of the outcomes of that write.) All of it was noted beside one note.
abbrev pub EachLeaves : {D B : Type 0} → (D → List ℕ → Type 0) → B → (List ℕ → Type 0) → Clocked D B → Clocked D B → Type 0
EachLeaves may_leave note P old new = Each (CrashLeaves may_leave note P) old new

-- what is seen stays the same
abbrev pub SeesSame : List ℕ → List ℕ → Type 0
SeesSame file file' = file' ≡ file

-- From one file to another, by what is seen at one moment after the next: R holds of each and the next.
abbrev pub MomentsLead : {D B : Type 0} → (List ℕ → List ℕ → Type 0) → (D → List ℕ) → List ℕ → List (D × B) → List ℕ → Type 0
MomentsLead R seen file [] end = end ≡ file
MomentsLead R seen file (m ∷ more) end = R file (seen m.0) × MomentsLead R seen (seen m.0) more end

-- What is seen at each moment that was noted between the two leads to what is seen at the next, as R says.
abbrev pub GoesAs : {D B : Type 0} → (List ℕ → List ℕ → Type 0) → (D → List ℕ) → Clocked D B → Clocked D B → Type 0
GoesAs {D} {B} R seen old new = (more : List (D × B)) × (past_of new ≡ past_of old ++ more) × MomentsLead R seen (seen (disk_of old)) more (seen (disk_of new))
