use Rattle.std.proofs.Common.{Bor, List, lit<, rules, ℕ}
use Rattle.std.specs.Char.{is_ascii_whitespace}
use Rattle.std.proofs.lemmas.Iterator.{YieldsList-from_map_by, items_from_collect}
use Rattle.std.proofs.lemmas.Iterator.Consumers.{YieldsList-at, YieldsList-from_filter_map}
use Rattle.std.proofs.lemmas.Iterator.Splits.{YieldsList-from_str_split}
use Rattle.dav_headers_core.specs.CommaPieces.{trimmed_by}
use Rattle.dav_headers_core.proofs.texts.PieceLemmas.{trimmed_pieces}
use Rattle.dav_fields_core.specs.LockTimeouts.{timeout_spelled}
use Rattle.dav_fields_core.proofs.lock_timeouts.timeouts_of.Goals as goal

pub returns : goal.returns
returns c =
    let parts = c.split.ensures in
    let split =
    YieldsList-from_str_split 44 c.args.text.now (lit< tt) parts.text parts.has_more
    parts.pattern in
    rw (← trimmed_pieces c.args.text.now c.requires)
    (items_from_collect _ c.collect.ensures.ran
    (YieldsList-from_filter_map _ timeout_spelled
    (YieldsList-at c.filter_map.ensures.source
    (YieldsList-from_map_by _ (λ (piece : Bor (List ℕ)). piece.now)
    (trimmed_by is_ascii_whitespace) (YieldsList-at c.map.ensures.source split)
    c.map.ensures.closure (λ x r q k. search rules)))
    c.filter_map.ensures.closure (λ x r q k. search rules)))
