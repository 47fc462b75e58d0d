use Rattle.std.proofs.Common.{◌≡◌, refl, Option, None, Some}
use Rattle.url.specs.Parts.{Parts}
use Rattle.dav_headers_core.specs.IfValues.{condition_of}
use Rattle.dav_headers_core.proofs.lists.EveryLemmas.{copies_shown}
use Rattle.dav_headers_core.proofs.davheaders.if_headers.lists.IfListClone.clone.Goals as goal

-- what `Option` says of a copy
abbrev IsCopy : Option Parts → Option Parts → Type 0
IsCopy None None = Unit {0}
IsCopy None (Some copy) = ⊥
IsCopy (Some url) None = ⊥
IsCopy (Some url) (Some copy) = copy ≡ url

same_url : (url copy : Option Parts) → IsCopy url copy → copy ≡ url
same_url None None h = refl
same_url None (Some copy) h = absurd h
same_url (Some url) None h = absurd h
same_url (Some url) (Some copy) h = rw h refl

pub returns : goal.returns
returns c =
    let conditions = copies_shown condition_of c.args.self.now.conditions.items c.in_ok-clone-2.field-0.items c.in_ok-clone-2.ensures.cases.0 in
    let url = same_url c.args.self.now.resource_tag c.in_ok-clone.field-0 c.in_ok-clone.ensures.cases in
    record { cases = cc (conditions, url) }
