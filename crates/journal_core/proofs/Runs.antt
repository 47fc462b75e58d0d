-- A run that goes by steps, moment by moment.
use Rattle.std.proofs.Common.{ℕ, zero, suc, List, [], ◌∷◌, inr, refl, sym, subst, add-one}
use Rattle.journal_core.specs.declared.header.Header.{Header}
use Rattle.journal_core.specs.Clocked.{disk_of, MomentsLead}
use Rattle.journal_core.specs.LiveCopies.{MayStep, RunsLiveOn, file_at}

lives : {D B : Type 0} (seen : D → List ℕ) (h : Header) (file end : List ℕ) (more : List (D × B)) → MomentsLead (MayStep h) seen file more end
    → (n : ℕ) → MayStep h (file_at (λ (m : D × B). seen m.0) file more n) (file_at (λ (m : D × B). seen m.0) file more (suc n))
lives seen h file end [] it zero = inr refl
lives seen h file end [] it (suc n) = inr refl
lives seen h file end (m ∷ more) it zero = it.0
lives seen h file end (m ∷ more) it (suc n) = lives seen h (seen m.0) end more it.1 n

pub runs_live_on : (D B : Type 0) (seen : D → List ℕ) → RunsLiveOn D B seen
runs_live_on D B seen h old new it n =
    let past = file_at (λ (m : D × B). seen m.0) (seen (disk_of old)) it.0 in
    subst (λ k. MayStep h (past n) (past k)) (sym (add-one n)) (lives seen h (seen (disk_of old)) (seen (disk_of new)) it.0 it.2 n)
