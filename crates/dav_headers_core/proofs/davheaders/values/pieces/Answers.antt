use Rattle.std.proofs.Common.{lit<, rules}
use Rattle.std.specs.Char.{is_ascii_whitespace}
use Rattle.std.proofs.lemmas.Iterator.{YieldsList-from_map_by}
use Rattle.std.proofs.lemmas.Iterator.Consumers.{map_from_collect, YieldsList-at}
use Rattle.std.proofs.lemmas.Iterator.Splits.{YieldsList-from_str_split}
use Rattle.dav_headers_core.specs.CommaPieces.{trimmed_by}
use Rattle.dav_headers_core.proofs.texts.PieceLemmas.{trimmed_pieces}
use Rattle.dav_headers_core.proofs.davheaders.values.pieces.Goals as goal

pub returns : goal.returns
returns c =
    let split = YieldsList-from_str_split 44 c.args.text.now (lit< tt) c.split.ensures.text c.split.ensures.has_more c.split.ensures.pattern in
    rw (← trimmed_pieces c.args.text.now c.requires)
    (map_from_collect _ c.collect.ensures.ran (YieldsList-from_map_by _ (λ piece. piece.now) (trimmed_by is_ascii_whitespace) (YieldsList-at c.map.ensures.source split) c.map.ensures.closure (λ x r q k. search rules)))
