-- Answers that follow from other answers: tests of what is known of a file or a folder (own).
use Rattle.std.specs.Prelude.{◌≡◌, Result, Ok, Err}
use Rattle.dav_path_core.specs.declared.errors.FsError.{FsError}

-- the same refusal, or a value that `says` relates to the other
abbrev pub IsMapped : {A B : Type 0} → (A → B → Type 0) → Result A FsError → Result B FsError → Type 0
IsMapped says (Ok a) (Ok b) = says a b
IsMapped says (Ok a) (Err e) = ⊥
IsMapped says (Err e) (Ok b) = ⊥
IsMapped says (Err e) (Err e') = e' ≡ e

-- one of the answers that may be given, mapped
abbrev pub AnswersOneOf : {A B : Type 0} → (Result A FsError → Type 0) → (A → B → Type 0) → Result B FsError → Type 0
AnswersOneOf {A} may says result = (told : Result A FsError) × may told × IsMapped says told result
