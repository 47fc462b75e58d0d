use Rattle.std.proofs.Common.{sym, ◌∙◌}
use Rattle.dav_fields_core.proofs.PreconditionLaws.{fifth_decides, goes_on, missing_named, none_sent}
use Rattle.dav_fields_core.proofs.preconditions.asks_nothing.Goals as goal

pub returns-clause-exact : goal.returns-clause-exact
returns-clause-exact c =
    fifth_decides c.args.headers.now c.is_missing-5.result
    (sym (missing_named _ _ c.is_missing.result c.get_all.ensures.value c.is_missing.ensures) ∙ c.if-not-is_missing.false)
    (sym (missing_named _ _ c.is_missing-2.result c.get_all-2.ensures.value c.is_missing-2.ensures) ∙ c.if-not-is_missing-2.false)
    (sym (missing_named _ _ c.is_missing-3.result c.get_all-3.ensures.value c.is_missing-3.ensures) ∙ c.if-not-is_missing-3.false)
    (sym (missing_named _ _ c.is_missing-4.result c.get_all-4.ensures.value c.is_missing-4.ensures) ∙ c.if-not-is_missing-4.false)
    (missing_named _ _ c.is_missing-5.result c.get_all-5.ensures.value c.is_missing-5.ensures)

pub returns-clause-goes_on : goal.returns-clause-goes_on
returns-clause-goes_on c = λ missing m standing.
    goes_on m standing c.args.headers.now
    (none_sent _ _ c.is_missing.result c.get_all.ensures.value c.is_missing.ensures c.if-not-is_missing.false)
    (none_sent _ _ c.is_missing-2.result c.get_all-2.ensures.value c.is_missing-2.ensures c.if-not-is_missing-2.false)
    (none_sent _ _ c.is_missing-3.result c.get_all-3.ensures.value c.is_missing-3.ensures c.if-not-is_missing-3.false)
    (none_sent _ _ c.is_missing-4.result c.get_all-4.ensures.value c.is_missing-4.ensures c.if-not-is_missing-4.false)
    (none_sent _ _ c.is_missing-5.result c.get_all-5.ensures.value c.is_missing-5.ensures missing)
