use Rattle.std.proofs.Common.{◌∙◌}
use Rattle.dav_headers_core.proofs.texts.PieceLemmas.{trimmed_is}
use Rattle.dav_headers_core.proofs.davheaders.values.trimmed_text.Goals as goal

pub returns : goal.returns
returns c = c.trimmed.ensures ∙ trimmed_is c.args.text.now c.requires
