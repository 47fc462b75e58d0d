use Rattle.std.proofs.Common.{◌∙◌, List, ap, ℕ, subst, sym}
use Rattle.http_header.specs.FieldValue.{IsFieldValue}
use Rattle.dav_fields_core.specs.Private.TagFronts.{with_fronts}
use Rattle.dav_fields_core.specs.declared.tag_fronts.Place.TheVariants as place
use Rattle.dav_fields_core.proofs.TagFrontLemmas.{stays_value}
use Rattle.dav_fields_core.proofs.tag_fronts.fronted_value.Goals as goal

pub from_known_valid-requires : goal.from_known_valid-requires
from_known_valid-requires c =
    let front = c.args.front.now in
    let bytes = c.args.value.now.bytes in
    let same =
    c.in_ok-shared.ensures ∙ c.in_ok-whole.ensures
    ∙ ap (with_fronts front place.Outside) c.as_bytes.ensures.value in
    subst (λ (x : List ℕ). IsFieldValue x) (sym same)
    (stays_value front bytes place.Outside c.requires c.as_bytes.ensures.valid)
