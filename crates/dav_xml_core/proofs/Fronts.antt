-- What was found, with what stands before it.
use Rattle.std.proofs.Common.{ℕ, List, ◌++◌, Option, None, Some}
use Rattle.dav_xml_core.specs.Scanning.{Found}

abbrev pub behind_front : List ℕ → Found (List ℕ) → Found (List ℕ)
behind_front front (Some found) = Some (front ++ found.0, found.1)
behind_front front None = None

abbrev pub list_front : {A : Type 0} → List A → Option (List A) → Option (List A)
list_front front (Some found) = Some (front ++ found)
list_front front None = None
