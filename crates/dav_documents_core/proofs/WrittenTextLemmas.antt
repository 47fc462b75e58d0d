-- What is written for an element is text.
use Rattle.std.proofs.Common.{◌≡◌, refl, ℕ, Bool, true, false, ◌&&◌, List, Some}
use Rattle.std.specs.List.{list_all}
use Rattle.std.specs.Prelude.{IsUtf8, chars}
use Rattle.std.specs.Str.{is_utf8}
use Rattle.std.proofs.lemmas.Bool.{false≢true}
use Rattle.std.proofs.lemmas.Str.{IsUtf8-from_is_utf8}
use Rattle.dav_xml_core.specs.Characters.{characters, is_char, lines_from}
use Rattle.dav_xml_core.specs.Documents.{Node}
use Rattle.dav_xml_core.specs.Reading.{content_nodes, document_of}
use Rattle.dav_xml_core.proofs.ElementLemmas.{bind_some, when_some}

first : (a b : Bool) → (a && b) ≡ true → a ≡ true
first true b h = refl
first false b h = absurd (false≢true h)

pub document_is_text : (bytes : List ℕ) (nodes : List Node) → document_of bytes ≡ Some nodes → IsUtf8 bytes
unfolding document_of
document_is_text bytes nodes h =
    let found = bind_some (characters bytes) content_nodes nodes h in
    IsUtf8-from_is_utf8 bytes (first _ _ (when_some (is_utf8 bytes && list_all is_char (chars bytes)) (lines_from false (chars bytes)) found.0 found.1).0)
