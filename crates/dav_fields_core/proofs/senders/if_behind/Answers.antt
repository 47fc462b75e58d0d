use Rattle.std.proofs.lemmas.Result.{err_from_is_err_and}
use Rattle.dav_fields_core.proofs.IfSaysLemmas.{reads_behind, unread_whole}
use Rattle.dav_fields_core.proofs.senders.if_behind.Goals as goal

pub returns-in_err-decode-clause-err : goal.returns-in_err-decode-clause-err
returns-in_err-decode-clause-err c =
    let p = err_from_is_err_and c.from_residual-in_err-decode.result
    c.from_residual-in_err-decode.ensures.1 in
    rw (p.1, p.2)
    (unread_whole c.args.front.now c.requires c.args.value.now c.in_ok-whole.whole
    c.from_ref.result.now c.in_ok-whole.ensures c.from_ref.ensures.value
    c.in_err-decode.field-0.0 c.in_err-decode.ensures.only)

pub returns-clause-ok : goal.returns-clause-ok
returns-clause-ok c =
    reads_behind c.args.front.now c.requires c.args.value.now c.in_ok-whole.whole
    c.from_ref.result.now c.in_ok-whole.ensures c.from_ref.ensures.value _
    c.in_ok-decode.ensures.ok
