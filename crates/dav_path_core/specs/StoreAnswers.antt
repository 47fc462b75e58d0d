-- What a call answers, by what its definition says, and when it may be out of memory instead.
use Rattle.std.specs.Prelude.{◌≡◌, ◌⊎◌, Option, Some, None, Result, Ok, Err, IsOk}
use Rattle.dav_path_core.specs.declared.errors.FsError.{FsError}
use Rattle.dav_path_core.specs.declared.errors.FsError.TheVariants.{InsufficientStorage}

-- Ok with P where nothing refuses; else that refusal, or the one for out of memory, and Q
abbrev pub AnswersUnlessRefused : {T : Type 0} → Option FsError → Result T FsError → (T → Type 0) → Type 0 → Type 0
AnswersUnlessRefused refusal (Ok x) P Q = (refusal ≡ None) × P x
AnswersUnlessRefused refusal (Err e) P Q = ((e ≡ InsufficientStorage) ⊎ (refusal ≡ Some e)) × Q

-- out of memory where nothing else refuses, or else as the outcome refuses
abbrev pub Refused : {A : Type 0} → Result A FsError → FsError → Type 0
Refused outcome e = ((e ≡ InsufficientStorage) × IsOk outcome) ⊎ (outcome ≡ Err e)

-- The call answers as the outcome says, its answer seen by `view`, and leaves the state that the outcome says;
-- refused, it leaves the state as it was.
abbrev pub AnswersAs : {A B S : Type 0} → (A → B) → Result A FsError → Result (B × S) FsError → S → S → Type 0
AnswersAs view (Ok x) outcome old new = outcome ≡ Ok (view x, new)
AnswersAs view (Err e) outcome old new = (new ≡ old) × Refused outcome e

-- the same of a call that changes nothing
abbrev pub TellsOutcome : {A B : Type 0} → (A → B) → Result A FsError → Result B FsError → Type 0
TellsOutcome view (Ok x) outcome = outcome ≡ Ok (view x)
TellsOutcome view (Err e) outcome = Refused outcome e

-- as `AnswersAs`, where out of memory may come in place of any other refusal, too
abbrev pub AnswersWithRoom : {A B S : Type 0} → (A → B) → Result A FsError → Result (B × S) FsError → S → S → Type 0
AnswersWithRoom view (Ok x) outcome old new = outcome ≡ Ok (view x, new)
AnswersWithRoom view (Err e) outcome old new = (new ≡ old) × ((e ≡ InsufficientStorage) ⊎ (outcome ≡ Err e))
