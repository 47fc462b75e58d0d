use Rattle.std.proofs.Common.{◌∙◌, string_bytes}
use Rattle.dav_headers_core.proofs.lists.EveryLemmas.{copies_shown}
use Rattle.dav_headers_core.proofs.davheaders.languages.ContentLanguageClone.clone.Goals as goal

pub invariant_of-result : goal.invariant_of-result
invariant_of-result c =
    rw (copies_shown string_bytes c.self.inside.languages.items c.in_ok-clone.field-0.items c.in_ok-clone.ensures.cases.0) c.self.invariant

pub returns : goal.returns
returns c = record { cases = copies_shown string_bytes c.self.inside.languages.items c.in_ok-clone.field-0.items c.in_ok-clone.ensures.cases.0 ∙ c.self.view_is }
