-- Where a `?` leaves, or an error is told.
use Rattle.std.proofs.Common.{◌≡◌, ◌≢◌, ℕ, Bool, true, false, Option, Some, None, Result, Ok, Err, IfErr, OnErr, MatchResult, IsErr, IsErrAnd, is_err, is_ok, sym, ◌∙◌, ap, subst}
use Rattle.std.proofs.lemmas.Bool.{false≢true}
use Rattle.journal_core.specs.declared.error.JournalError.{JournalError}
use Rattle.journal_core.specs.declared.error.JournalError.TheVariants.{Damaged, NotOpen, TooLarge}
use Rattle.journal_core.specs.JournalReading.{HasReadCause}

module _ {T E : Type 0} where
  pub err_not_ok : (e : E) (x : T) → Err e ≡ Ok x → ⊥
  err_not_ok e x is = false≢true (ap is_ok is)

  -- what is told of the error is told of what is returned
  pub at_exit : (r : Result T E) (Q : E → Type 0) (e : E) → IsErrAnd r (λ y. y ≡ e) → Q e → IfErr r Q
  at_exit (Ok x) Q e is it = tt
  at_exit (Err y) Q e is it = subst Q (sym is) it

  -- it is no answer
  pub exit_not_ok : (r : Result T E) (x : T) → IsErr r → r ≡ Ok x → ⊥
  exit_not_ok r x err same = false≢true (sym (ap is_err same) ∙ err)

  pub on_err : {P : Type 0} (r : Result T E) → P → OnErr r P
  on_err (Ok x) it = tt
  on_err (Err e) it = it

  pub if_err : {Q : E → Type 0} (r : Result T E) → ((e : E) → Q e) → IfErr r Q
  if_err (Ok x) it = tt
  if_err (Err e) it = it e

  -- nor another error
  pub exit_not_err : (r : Result T E) (e d : E) → IsErrAnd r (λ y. y ≡ e) → e ≢ d → r ≡ Err d → ⊥
  exit_not_err (Ok y) e d is other same = absurd is
  exit_not_err (Err y) e d is other same =
      let inner : y ≡ d = cc in
      other (sym is ∙ inner)

-- one answer is not another
pub false_not_true : {E : Type 0} → ◌≡◌ {A = Result Bool E} (Ok false) (Ok true) → ⊥
false_not_true same = cc

pub some_not_none : {T E : Type 0} (x : T) → ◌≡◌ {A = Result (Option T) E} (Ok (Some x)) (Ok None) → ⊥
some_not_none x same = cc

-- a journal that is closed is no file that is too long
pub closed_not_large : {T : Type 0} → ◌≡◌ {A = Result T JournalError} (Err NotOpen) (Err TooLarge) → ⊥
closed_not_large same = cc

pub large_not_closed : TooLarge ≢ NotOpen
large_not_closed same = cc

-- damage is no file that is too long
pub damage_not_large : {T : Type 0} (d : JournalError) (at : ℕ) → d ≡ Damaged at → ◌≡◌ {A = Result T JournalError} (Err d) (Err TooLarge) → ⊥
damage_not_large d at is same = cc

pub damage_cause : (P : Type 0) (d : JournalError) (at : ℕ) → d ≡ Damaged at → HasReadCause P d
damage_cause P d at is = subst (HasReadCause P) (sym is) tt

pub large_cause : (P : Type 0) (e : JournalError) → e ≡ TooLarge → HasReadCause P e
large_cause P e is = subst (HasReadCause P) (sym is) tt

-- what `map_err` leaves went well
pub mapped_ok : {T E F : Type 0} (r : Result T E) (m : Result T F) (x : T) (Q : E → F → Type 0) → MatchResult r (λ y. m ≡ Ok y) (λ e. IsErrAnd m (Q e)) → m ≡ Ok x → r ≡ Ok x
mapped_ok {T = T} {F = F} (Ok y) m x Q it is =
    let both : ◌≡◌ {A = Result T F} (Ok y) (Ok x) = sym it ∙ is in
    let inner : y ≡ x = cc in
    ap Ok inner
mapped_ok {T = T} {F = F} (Err e) m x Q it is = absurd (subst (λ (m : Result T F). IsErrAnd m (Q e)) is it)
