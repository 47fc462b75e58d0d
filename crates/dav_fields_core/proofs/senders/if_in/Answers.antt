use Rattle.std.proofs.Common.{List, ℕ, subst, sym}
use Rattle.dav_fields_core.specs.RootedTags.{IsFront}
use Rattle.dav_fields_core.proofs.IfSaysLemmas.{err_behind, err_itself}
use Rattle.dav_fields_core.proofs.senders.if_in.Goals as goal

pub returns-in-Some-clause-err : goal.returns-in-Some-clause-err
returns-in-Some-clause-err c =
    let site = c.args.site.now in
    let headers = c.args.headers.now in
    let found = rw c.in-Some.is at c.in_ok-front.ensures in
    err_behind site headers c.args.value.now c.requires c.deref.result.now
    (subst (λ (front : List ℕ). IsFront site headers front) (sym c.deref.ensures) found.0)
    c.if_behind.result c.if_behind.ensures.err

pub returns-in-None-clause-err : goal.returns-in-None-clause-err
returns-in-None-clause-err c =
    let none = rw c.in-None.is at c.in_ok-front.ensures in
    err_itself c.args.site.now c.args.headers.now c.args.value.now c.requires none
    c.if_alone.result c.if_alone.ensures.err
