-- What calls answer that take no memory, and so are never out of it.
use Rattle.std.specs.Prelude.{◌≡◌, Result, Ok, Err}
use Rattle.dav_path_core.specs.declared.errors.FsError.{FsError}

-- The call answers as the outcome says, its answer seen by `view`, and leaves the state that the outcome says; refused,
-- it leaves the state as it was.
abbrev pub AnswersExactly : {A B S : Type 0} → (A → B) → Result A FsError → Result (B × S) FsError → S → S → Type 0
AnswersExactly view (Ok x) outcome old new = outcome ≡ Ok (view x, new)
AnswersExactly view (Err e) outcome old new = (new ≡ old) × (outcome ≡ Err e)

-- the same of a call that changes nothing
abbrev pub TellsExactly : {A B : Type 0} → (A → B) → Result A FsError → Result B FsError → Type 0
TellsExactly view (Ok x) outcome = outcome ≡ Ok (view x)
TellsExactly view (Err e) outcome = outcome ≡ Err e
