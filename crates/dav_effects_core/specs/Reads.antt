-- What a call of the code gives, beside what reading is (own).
use Rattle.std.specs.Prelude.{◌≡◌, ℕ, Result, Ok, Err}
use Rattle.dav_effects_core.specs.declared.error.ReadError.{ReadError}
use Rattle.dav_effects_core.specs.declared.error.ReadError.TheVariants.{Memory, Fault}

-- nothing is said of memory
abbrev pub FailsAs : {A : Type 0} → ReadError → Result A ℕ → Type 0
FailsAs Memory read = Unit {0}
FailsAs (Fault left) read = read ≡ Err left

-- seen by view, it is what reading gives, but for memory
abbrev pub ReadsField : {X A : Type 0} → (X → A) → Result X ReadError → Result A ℕ → Type 0
ReadsField view (Ok x) read = read ≡ Ok (view x)
ReadsField view (Err e) read = FailsAs e read

-- the fault is the field that begins with so many bytes left
abbrev pub at_field : ℕ → ReadError → ReadError
at_field left Memory = Memory
at_field left (Fault inner) = Fault left
