use Rattle.std.proofs.Common.{sym, ◌∙◌}
use Rattle.dav_headers_core.proofs.tags.TagLemmas.{spelled_is_tag, spelled_is_weak}
use Rattle.dav_headers_core.proofs.davheaders.etags.ETag.new.Goals as goal

pub invariant_of-result : goal.invariant_of-result
invariant_of-result c =
    rw c.in_ok-spelled.ensures (spelled_is_tag c.args.weak c.args.t.now (sym c.holds_quote.ensures ∙ c.if-holds_quote.false), spelled_is_weak c.args.weak c.args.t.now)
