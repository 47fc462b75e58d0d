use Rattle.std.proofs.Common.{◌∙◌}
use Rattle.dav_headers_core.proofs.numbers.NumberLemmas.{number_is}
use Rattle.dav_fields_core.proofs.lock_timeouts.number_of.Goals as goal

pub returns : goal.returns
returns c =
    c.ok.ensures.value ∙ number_is 32 c.args.text.now c.parse.result c.parse.ensures.value.0
