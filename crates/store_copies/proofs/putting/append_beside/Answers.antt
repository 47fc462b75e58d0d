use Rattle.std.proofs.Common.{Bool, IsTrue, ℕ, List, [], ◌∷◌, subst}
use Rattle.std.proofs.lemmas.List.{append-nil}
use Rattle.journal_core.specs.Resting.{IsSettled}
use Rattle.std.specs.Prelude.{Result, Ok, Err, OnOk}
use Rattle.store_copies.proofs.putting.append_beside.Goals as goal

always : {T E P : Type 0} (r : Result T E) → P → OnOk r P
always (Ok v) p = p
always (Err e) p = tt

pub put_in_place-requires : goal.put_in_place-requires
put_in_place-requires g c = λ new is clean.
    subst (λ (l : List (List ℕ)). IsSettled g.D.Disk.seen g.D.Disk.may_leave g.D.Disk.is_clean c.append_read.new.journal l) (append-nil new)
    (c.in_ok-append_read.ensures.taken _ (new ∷ []) (c.requires.anew (subst (λ (b : Bool). IsTrue b) c.in_ok-append_read.ensures.clean clean)) (is, tt))

pub returns-clause-taken : goal.returns-clause-taken
returns-clause-taken g c = always c.put_in_place.result
    (λ new is clean.
    subst (λ (l : List (List ℕ)). IsSettled g.D.Disk.seen g.D.Disk.may_leave g.D.Disk.is_clean c.append_read.new.journal l) (append-nil new)
    (c.in_ok-append_read.ensures.taken _ (new ∷ []) (c.requires.anew (subst (λ (b : Bool). IsTrue b) c.in_ok-append_read.ensures.clean clean)) (is, tt)))
