use Rattle.std.proofs.Common.{◌∙◌}
use Rattle.dav_fields_core.proofs.TypeLemmas.{entry_found, entry_passed}
use Rattle.dav_fields_core.proofs.content_types.type_in.Goals as goal

pub returns-then-eq_ignore_ascii_case : goal.returns-then-eq_ignore_ascii_case
returns-then-eq_ignore_ascii_case c =
    entry_found (λ e. (e.0.now, e.1.now)) c.args.table.now c.loop-known.known-index _ c.args.extension.now c.as_bytes.result.now c.eq_ignore_ascii_case.result
    c.loop-known-test.true c.as_bytes.ensures.value c.eq_ignore_ascii_case.ensures.test c.if-eq_ignore_ascii_case.true
    ∙ c.loop-known.invariant

pub loop-known-preserved : goal.loop-known-preserved
loop-known-preserved c =
    entry_passed (λ e. (e.0.now, e.1.now)) c.args.table.now c.loop-known.known-index _ c.args.extension.now c.as_bytes.result.now c.eq_ignore_ascii_case.result
    c.loop-known-test.true c.as_bytes.ensures.value c.eq_ignore_ascii_case.ensures.test c.if-eq_ignore_ascii_case.false
    ∙ c.loop-known.invariant
