use Rattle.std.proofs.lemmas.Result.{err_from_is_err_and}
use Rattle.dav_fields_core.proofs.RefusalLemmas.{unread_if}
use Rattle.dav_fields_core.proofs.senders.if_alone.Goals as goal

pub returns-in_err-decode-clause-err : goal.returns-in_err-decode-clause-err
returns-in_err-decode-clause-err c =
    let p = err_from_is_err_and c.from_residual.result c.from_residual.ensures.1 in
    rw (p.1, p.2)
    (unread_if c.args.value.now c.from_ref.result.now c.in_err-decode.field-0.0
    c.from_ref.ensures.value c.in_err-decode.ensures.only)
