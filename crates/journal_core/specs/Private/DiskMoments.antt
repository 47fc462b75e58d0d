-- How a run of calls of a clocked disk goes on.
use Rattle.std.proofs.Common.{◌≡◌, ℕ, List, [], ◌∷◌, ◌++◌, refl, sym, ◌∙◌, ap, append_assoc, subst}
use Rattle.std.proofs.lemmas.List.{append-nil}
use Rattle.journal_core.specs.declared.clocked.Clocked.{Clocked}
use Rattle.journal_core.specs.Private.AllLaws.{all_two, all_weaker}
use Rattle.journal_core.specs.Clocked.{disk_of, past_of, Each, CrashLeaves, EachLeaves, GoesAs, MomentsLead}

module _ {D B : Type 0} where
  -- before the first call
  pub none : (P : D × B → Type 0) (k : Clocked D B) → Each P k k
  none P k = ([], sym (append-nil (past_of k)), tt)

  pub joined : (P : D × B → Type 0) (old mid new : Clocked D B) → Each P old mid → Each P mid new → Each P old new
  joined P old mid new a b = (
    a.0 ++ b.0,
    b.1 ∙ ap (λ (l : List (D × B)). l ++ b.0) a.1 ∙ append_assoc (past_of old) a.0 b.0,
    all_two P a.0 b.0 a.2 b.2,
  )

  pub weaker : (P Q : D × B → Type 0) → ((m : D × B) → P m → Q m) → (old new : Clocked D B) → Each P old new → Each Q old new
  weaker P Q implies old new it = (it.0, it.1, all_weaker P Q implies it.0 it.2)

  -- one call
  pub one_call : (may_leave : D → List ℕ → Type 0) (note : B) (P : List ℕ → Type 0) (old new : Clocked D B)
      → past_of new ≡ past_of old ++ (disk_of old, note) ∷ (disk_of new, note) ∷ []
      → ((c : List ℕ) → may_leave (disk_of old) c → P c) → ((c : List ℕ) → may_leave (disk_of new) c → P c) → EachLeaves may_leave note P old new
  one_call may_leave note P old new noted before after = ((disk_of old, note) ∷ (disk_of new, note) ∷ [], noted, ((refl, before), ((refl, after), tt)))

  pub leaves_weaker : (may_leave : D → List ℕ → Type 0) (note : B) (P Q : List ℕ → Type 0) → ((c : List ℕ) → P c → Q c) → (old new : Clocked D B)
      → EachLeaves may_leave note P old new → EachLeaves may_leave note Q old new
  leaves_weaker may_leave note P Q implies old new it =
      weaker (CrashLeaves may_leave note P) (CrashLeaves may_leave note Q) (λ m h. (h.0, λ c left. implies c (h.1 c left))) old new it

  -- a moment with no call
  pub one_moment : (P : D × B → Type 0) (note : B) (old new : Clocked D B) → past_of new ≡ past_of old ++ (disk_of new, note) ∷ [] → P (disk_of new, note) → Each P old new
  one_moment P note old new noted here = ((disk_of new, note) ∷ [], noted, (here, tt))

-- ---- what is seen at one moment after the next

leads_two : {D B : Type 0} (R : List ℕ → List ℕ → Type 0) (seen : D → List ℕ) (file mid end : List ℕ) (xs ys : List (D × B)) → MomentsLead R seen file xs mid → MomentsLead R seen mid ys end
    → MomentsLead R seen file (xs ++ ys) end
leads_two R seen file mid end [] ys a b = subst (λ (f : List ℕ). MomentsLead R seen f ys end) a b
leads_two R seen file mid end (x ∷ xs) ys a b = (a.0, leads_two R seen (seen x.0) mid end xs ys a.1 b)

leads_weaker : {D B : Type 0} (R Q : List ℕ → List ℕ → Type 0) (seen : D → List ℕ) → ((a b : List ℕ) → R a b → Q a b) → (file end : List ℕ) (xs : List (D × B)) → MomentsLead R seen file xs end
    → MomentsLead Q seen file xs end
leads_weaker R Q seen implies file end [] it = it
leads_weaker R Q seen implies file end (x ∷ xs) it = (implies file (seen x.0) it.0, leads_weaker R Q seen implies (seen x.0) end xs it.1)

module _ {D B : Type 0} (R : List ℕ → List ℕ → Type 0) (seen : D → List ℕ) where
  pub goes_not : (k : Clocked D B) → GoesAs R seen k k
  goes_not k = ([], sym (append-nil (past_of k)), refl)

  pub goes_two : (old mid new : Clocked D B) → GoesAs R seen old mid → GoesAs R seen mid new → GoesAs R seen old new
  goes_two old mid new a b = (
    a.0 ++ b.0,
    b.1 ∙ ap (λ (l : List (D × B)). l ++ b.0) a.1 ∙ append_assoc (past_of old) a.0 b.0,
    leads_two R seen (seen (disk_of old)) (seen (disk_of mid)) (seen (disk_of new)) a.0 b.0 a.2 b.2,
  )

  pub goes_weaker : (Q : List ℕ → List ℕ → Type 0) → ((a b : List ℕ) → R a b → Q a b) → (old new : Clocked D B) → GoesAs R seen old new → GoesAs Q seen old new
  goes_weaker Q implies old new it = (it.0, it.1, leads_weaker R Q seen implies (seen (disk_of old)) (seen (disk_of new)) it.0 it.2)

  pub goes_call : (note : B) (old new : Clocked D B) → past_of new ≡ past_of old ++ (disk_of old, note) ∷ (disk_of new, note) ∷ [] → R (seen (disk_of old)) (seen (disk_of old)) → R (seen (disk_of old)) (seen (disk_of new))
      → GoesAs R seen old new
  goes_call note old new noted before after = ((disk_of old, note) ∷ (disk_of new, note) ∷ [], noted, (before, (after, refl)))
