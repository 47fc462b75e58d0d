use Rattle.journal_core.proofs.Causes.{some_at}
use Rattle.journal_copies.proofs.appending.append_rounds.Goals as goal

pub returns-in_err-append_all-clause-crash : goal.returns-in_err-append_all-clause-crash
returns-in_err-append_all-clause-crash g c = λ records new settled have.
    let batch = some_at _ c.in_ok-batch.field-0 c.in-Some.batch c.in_ok-batch.ensures.some c.in-Some.is in
    c.append_all.ensures.crash records _ settled (batch.1 new have)

pub returns-clause-acknowledged : goal.returns-clause-acknowledged
returns-clause-acknowledged g c = λ _ records new settled have.
    let batch = some_at _ c.in_ok-batch.field-0 c.in-Some.batch c.in_ok-batch.ensures.some c.in-Some.is in
    c.in_ok-append_all.ensures.acknowledged records _ settled (batch.1 new have)

pub returns-clause-steps : goal.returns-clause-steps
returns-clause-steps g c = λ _ records new settled have.
    let batch = some_at _ c.in_ok-batch.field-0 c.in-Some.batch c.in_ok-batch.ensures.some c.in-Some.is in
    c.in_ok-append_all.ensures.steps records _ settled (batch.1 new have)
