use Rattle.std.proofs.Common.{sym, ◌∙◌, lit<}
use Rattle.std.proofs.lemmas.Str.Pattern.{split_once_first}
use Rattle.http_frames.proofs.Words.{no_count}
use Rattle.http_frames.proofs.frames.turned_of.Goals as goal

pub returns-in_err-address : goal.returns-in_err-address
returns-in_err-address c =
    let none = rw c.in_err-address.was at (split_once_first 32 c.args.rest.now c.split_once.result c.split_once.ensures.cases (lit< tt)) in
    c.from_residual.ensures ∙ sym (no_count c.args.rest.now none)
