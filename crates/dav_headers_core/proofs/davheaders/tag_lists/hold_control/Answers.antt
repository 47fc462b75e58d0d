use Rattle.std.proofs.Common.{◌∙◌, sym, rules}
use Rattle.std.specs.List.{list_any}
use Rattle.std.proofs.lemmas.Iterator.{YieldsList-from_slice}
use Rattle.std.proofs.lemmas.Iterator.Search.{any_from_yields_List}
use Rattle.dav_headers_core.specs.Values.{is_control}
use Rattle.dav_headers_core.proofs.texts.WrittenLemmas.{joined_controls}
use Rattle.dav_headers_core.proofs.davheaders.tag_lists.hold_control.Goals as goal

pub returns : goal.returns
returns c =
    any_from_yields_List (λ tag. list_any is_control tag) c.any.new.self _ c.any.result c.any.ensures.ran (YieldsList-from_slice c.args.tags.now cc) (λ x b q k. search rules)
    ∙ sym (joined_controls c.args.tags.now)
