use Rattle.std.proofs.Common.{sym, ◌∙◌, lit<}
use Rattle.std.proofs.lemmas.Str.Pattern.{split_once_first}
use Rattle.http_frames.proofs.Words.{no_address}
use Rattle.http_frames.proofs.frames.from_of.Goals as goal

pub returns-in_err-word : goal.returns-in_err-word
returns-in_err-word c =
    let none = rw c.in_err-word.was at (split_once_first 32 c.args.rest.now c.split_once.result c.split_once.ensures.cases (lit< tt)) in
    c.from_residual.ensures ∙ sym (no_address c.args.rest.now none)
