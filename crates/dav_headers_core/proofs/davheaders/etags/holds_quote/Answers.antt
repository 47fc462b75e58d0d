use Rattle.std.proofs.Common.{lit<}
use Rattle.std.proofs.lemmas.Str.Pattern.{contains_char}
use Rattle.dav_headers_core.proofs.tags.TagLemmas.{quote_found}
use Rattle.dav_headers_core.proofs.davheaders.etags.holds_quote.Goals as goal

pub returns : goal.returns
returns c =
    let found = contains_char 34 c.args.text.now c.contains.result c.contains.ensures.cases (lit< tt) in
    quote_found c.args.text.now c.contains.result found.0 found.1
