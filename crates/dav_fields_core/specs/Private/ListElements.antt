-- What an iterator over the elements of a value has left. Private contracts alone speak of it.
use Rattle.std.specs.Prelude.{ℕ, List, [], Option, Some, None}
use Rattle.std.specs.Borrow.{Bor}
use Rattle.dav_fields_core.specs.declared.listed_tags.Elements.{Elements}
use Rattle.dav_fields_core.specs.ListedTags.{elements}

abbrev pub elements_of_rest : Option (Bor (List ℕ)) → List (List ℕ)
elements_of_rest None = []
elements_of_rest (Some rest) = elements rest.now

abbrev pub elements_left : Elements → List (List ℕ)
elements_left left = elements_of_rest left.rest
