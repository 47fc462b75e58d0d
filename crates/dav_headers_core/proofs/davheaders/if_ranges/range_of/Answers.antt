use Rattle.std.proofs.lemmas.Result.{err_from_is_err_and}
use Rattle.dav_headers_core.proofs.tags.IfRangeLemmas.{one_date, refused_tag}
use Rattle.dav_headers_core.proofs.davheaders.if_ranges.range_of.Goals as goal

pub returns-in-Ok-clause-only : goal.returns-in-Ok-clause-only
returns-in-Ok-clause-only c range says = one_date c.args.text.now c.in-Ok.date range c.in-Ok.ensures.value.0.1 says

pub returns-in_err-from_str-clause-memory : goal.returns-in_err-from_str-clause-memory
returns-in_err-from_str-clause-memory c memory =
    let p = err_from_is_err_and c.from_residual.result c.from_residual.ensures.1 in
    refused_tag c.args.text.now c.in_err-from_str.field-0.0 c.in_err-from_str.ensures (cc (p.1, p.2, memory)) (c.in_default.ensures.value.0 c.requires)
