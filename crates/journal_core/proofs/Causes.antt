-- Causes of errors, told later.
use Rattle.std.proofs.Common.{◌≡◌, ◌≢◌, ◌≤◌, ℕ, arith, Bool, true, false, MatchBool, Option, Some, IfSome, sym, subst}
use Rattle.std.specs.declared.io.Error.{Error}
use Rattle.journal_core.specs.declared.error.JournalError.{JournalError}
use Rattle.journal_core.specs.declared.error.JournalError.TheVariants.{Foreign, Unsupported, Damaged, Failed, Full, OutOfMemory, TooLarge, NotOpen, Busy}
use Rattle.journal_core.specs.Resting.{HasRoomCause}
use Rattle.journal_core.specs.JournalReading.{HasCause, HasReadCause, IsRefusal}

-- what tells that a call failed tells it of the longer run too
pub cause_of : (P Q : Type 0) (e : JournalError) → (P → Q) → HasReadCause P e → HasReadCause Q e
cause_of P Q (Failed e) goes it = goes it
cause_of P Q Full goes it = it
cause_of P Q Foreign goes it = tt
cause_of P Q Unsupported goes it = tt
cause_of P Q (Damaged at) goes it = tt
cause_of P Q OutOfMemory goes it = tt
cause_of P Q TooLarge goes it = tt
cause_of P Q NotOpen goes it = it
cause_of P Q Busy goes it = it

-- what is told of a reader is told of the journal that it reads
pub read_cause : (P : Type 0) (e : JournalError) → HasReadCause P e → HasCause P e
read_cause P (Failed e) it = it
read_cause P Full it = absurd it
read_cause P Foreign it = tt
read_cause P Unsupported it = tt
read_cause P (Damaged at) it = tt
read_cause P OutOfMemory it = tt
read_cause P TooLarge it = tt
read_cause P NotOpen it = it
read_cause P Busy it = it

pub some_at : {X : Type 0} (P : X → Type 0) (o : Option X) (x : X) → IfSome o P → o ≡ Some x → P x
some_at P o x it is = subst (λ o. IfSome o P) is it

pub write_cause_of : (P Q : Type 0) (e : JournalError) → (P → Q) → HasCause P e → HasCause Q e
write_cause_of P Q (Failed e) goes it = goes it
write_cause_of P Q Full goes it = goes it
write_cause_of P Q Foreign goes it = tt
write_cause_of P Q Unsupported goes it = tt
write_cause_of P Q (Damaged at) goes it = tt
write_cause_of P Q OutOfMemory goes it = tt
write_cause_of P Q TooLarge goes it = tt
write_cause_of P Q NotOpen goes it = it
write_cause_of P Q Busy goes it = it

-- no memory
pub no_memory_small : (e : JournalError) → e ≡ OutOfMemory → e ≢ TooLarge
no_memory_small e is same = cc

pub no_memory_cause : (P : Type 0) (e : JournalError) → e ≡ OutOfMemory → HasCause P e
no_memory_cause P e is = subst (HasCause P) (sym is) tt

pub failed_small : (e : Error) → Failed e ≢ TooLarge
failed_small e same = cc

-- what a write that failed is told as
pub write_refuses_not : (full : Bool) (e : Error) (d : JournalError) → MatchBool full (d ≡ Full) (d ≡ Failed e) → ¬ (IsRefusal d)
write_refuses_not true e d is refusal = subst IsRefusal is refusal
write_refuses_not false e d is refusal = subst IsRefusal is refusal

pub write_small : (full : Bool) (e : Error) (d : JournalError) → MatchBool full (d ≡ Full) (d ≡ Failed e) → d ≢ TooLarge
write_small true e d is same = cc
write_small false e d is same = cc

pub write_cause : (P : Type 0) (full : Bool) (e : Error) (d : JournalError) → P → MatchBool full (d ≡ Full) (d ≡ Failed e) → HasCause P d
write_cause P true e d it is = subst (HasCause P) (sym is) it
write_cause P false e d it is = subst (HasCause P) (sym is) it

-- the same of an error of making room
pub room_cause_of : (e : JournalError) (a b c : ℕ) → a ≤ b → HasRoomCause e b c → HasRoomCause e a c
room_cause_of (Failed e) a b c less it = omega (arith, less, it)
room_cause_of Full a b c less it = omega (arith, less, it)
room_cause_of Foreign a b c less it = it
room_cause_of Unsupported a b c less it = it
room_cause_of (Damaged at) a b c less it = it
room_cause_of OutOfMemory a b c less it = it
room_cause_of TooLarge a b c less it = it
room_cause_of NotOpen a b c less it = tt
room_cause_of Busy a b c less it = it
