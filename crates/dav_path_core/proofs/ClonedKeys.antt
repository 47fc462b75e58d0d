-- A copy of a key equals it.
use Rattle.std.proofs.Common.{◌≡◌, ℕ, true, nat_eq, List, ap, ◌∙◌}
use Rattle.std.specs.List.{AllZip}
use Rattle.std.specs.Cmp.Lexicographic.{pointwise, nat_list_eq_equiv}
use Rattle.std.proofs.lemmas.List.Elements.{same_from_all_zip}
