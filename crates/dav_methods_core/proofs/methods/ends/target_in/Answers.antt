use Rattle.std.proofs.Common.{◌∙◌, sym}
use Rattle.std.proofs.lemmas.Result.{err_from_is_err_and}
use Rattle.dav_path_core.specs.Segments.{segments}
use Rattle.dav_methods_core.specs.TransferEnds.{FailsToLead}
use Rattle.dav_methods_core.proofs.EndsLemmas.{lead_unread}
use Rattle.dav_methods_core.proofs.methods.ends.target_in.Goals as goal

pub returns-in_err-replaces-clause-err : goal.returns-in_err-replaces-clause-err
returns-in_err-replaces-clause-err c =
    let q = err_from_is_err_and c.from_residual.result c.from_residual.ensures.1 in
    rw (q.1, q.2) (lead_unread c.args.site.now c.args.prefix.now c.args.headers.now (segments c.args.from.now.bytes) c.args.within c.in_err-replaces.field-0.0
    c.in_err-replaces.ensures.err)

pub returns-in_err-path-clause-err : goal.returns-in_err-path-clause-err
returns-in_err-path-clause-err c =
    let q = err_from_is_err_and c.from_residual-in_err-path.result c.from_residual-in_err-path.ensures.1 in
    rw (q.1, q.2) (FailsToLead.nowhere c.in_ok-replaces.replaces c.in_err-path.field-0.0 c.in_ok-replaces.ensures.ok c.in_err-path.ensures.err)

pub returns-then-is_related-clause-err : goal.returns-then-is_related-clause-err
returns-then-is_related-clause-err c =
    FailsToLead.related c.in_ok-replaces.replaces c.in_ok-path.path c.in_ok-replaces.ensures.ok c.in_ok-path.ensures.ok (sym c.is_related.ensures ∙ c.if-is_related.true)
