use Rattle.std.proofs.Common.{◌∙◌, string_bytes}
use Rattle.std.specs.Prelude.{nat_eq}
use Rattle.std.specs.Cmp.Lexicographic.{pointwise}
use Rattle.dav_headers_core.proofs.lists.EveryLemmas.{pointwise_shown}
use Rattle.dav_headers_core.proofs.davheaders.languages.ContentLanguagePartialEq.eq.Goals as goal

pub returns : goal.returns
returns c =
    rw (← c.self.view_is, ← c.other.view_is)
    (c.eq.ensures ∙ pointwise_shown (pointwise nat_eq) string_bytes c.self.inside.languages.items c.other.inside.languages.items)
