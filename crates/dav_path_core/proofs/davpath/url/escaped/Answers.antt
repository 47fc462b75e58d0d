use Rattle.std.proofs.Common.{◌∙◌}
use Rattle.dav_path_core.proofs.paths.UrlLemmas.{url_is}
use Rattle.dav_path_core.proofs.davpath.url.escaped.Goals as goal

pub returns : goal.returns
returns c = c.percent_encode.ensures.text ∙ url_is c.args.bytes.now
