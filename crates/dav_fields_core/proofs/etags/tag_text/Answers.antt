use Rattle.std.proofs.Common.{◌≡◌, ◌∙◌, ap, false, string_bytes}
use Rattle.std.proofs.lemmas.Result.{IfOk-weaker}
use Rattle.dav_headers_core.specs.Tags.{new_tag}
use Rattle.dav_fields_core.specs.FileTags.{tag_text}
use Rattle.dav_fields_core.proofs.FieldLemmas.{tag_held}
use Rattle.dav_fields_core.proofs.FileTagLemmas.{makes_tag}
use Rattle.dav_fields_core.proofs.etags.tag_text.Goals as goal

pub returns : goal.returns
returns c = IfOk-weaker c.format.result _ _ (λ text is.
    let spells : string_bytes text ≡ tag_text c.args.modified c.args.length = is in (
      spells,
      ap (new_tag false) spells ∙ makes_tag c.args.modified c.args.length c.ranges.modified.fits c.ranges.length.fits,
      tag_held c.args.modified c.args.length c.ranges.modified.fits c.ranges.length.fits,
    )) c.format.ensures.ok
