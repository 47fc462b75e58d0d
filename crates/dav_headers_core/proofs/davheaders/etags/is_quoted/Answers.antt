use Rattle.std.proofs.Common.{sym, ap, ◌∙◌, not, lit<}
use Rattle.std.proofs.lemmas.Str.Pattern.{strip_prefix_char, strip_suffix_char}
use Rattle.dav_headers_core.specs.Tags.{is_quoted}
use Rattle.dav_headers_core.proofs.tags.TagLemmas.{unquoted, unclosed, closed}
use Rattle.dav_headers_core.proofs.davheaders.etags.is_quoted.Goals as goal

pub returns-in_default : goal.returns-in_default
returns-in_default c =
    let front = strip_prefix_char 34 c.args.text.now _ c.strip_prefix.ensures.cases (lit< tt) in
    sym (unquoted c.args.text.now (rw c.in_default.is at front))

pub returns-in-Some-strip_suffix : goal.returns-in-Some-strip_suffix
returns-in-Some-strip_suffix c =
    let front = strip_prefix_char 34 c.args.text.now _ c.strip_prefix.ensures.cases (lit< tt) in
    let back = strip_suffix_char 34 c.in-Some.rest.now _ c.strip_suffix.ensures.cases (lit< tt) in
    let inner = c.in-Some-strip_suffix.opaque_tag.now in
    ap not c.holds_quote.ensures ∙ sym (closed c.in-Some.rest.now inner (rw c.in-Some-strip_suffix.is at back)) ∙ ap is_quoted (sym (rw c.in-Some.is at front))

pub returns-in-None : goal.returns-in-None
returns-in-None c =
    let front = strip_prefix_char 34 c.args.text.now _ c.strip_prefix.ensures.cases (lit< tt) in
    let back = strip_suffix_char 34 c.in-Some.rest.now _ c.strip_suffix.ensures.cases (lit< tt) in
    sym (unclosed c.in-Some.rest.now (rw c.in-None.is at back)) ∙ ap is_quoted (sym (rw c.in-Some.is at front))
