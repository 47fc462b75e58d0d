use Rattle.std.proofs.Common.{◌≡◌, false, take, drop}
use Rattle.dav_fields_core.specs.ListedTags.{parted_elements}
use Rattle.dav_fields_core.proofs.ListedTagLemmas.{behind_first}
use Rattle.dav_fields_core.proofs.listed_tags.comma_in.Given as goal

abbrev pub invariant-loop-i : goal.invariant-loop-i
invariant-loop-i l = parted_elements false l.bytes ≡ behind_first (take l.i l.bytes) (parted_elements l.inside (drop l.i l.bytes))
