-- Texts, languages and nodes that were read (own).
use Rattle.std.specs.Prelude.{◌≡◌, ℕ, true, List, Option, None, Some, encode_utf8_all}
use Rattle.std.specs.List.{list_all}
use Rattle.dav_xml_core.specs.Characters.{is_char}
use Rattle.dav_xml_core.specs.Documents.{Node}
use Rattle.dav_xml_core.specs.ReadableDocuments.{CouldBeRead, has_room}

-- bytes of characters that a document may hold
pub record IsText (bytes : List ℕ) : Type 0 where
  pub characters : List ℕ
  pub spelled : bytes ≡ encode_utf8_all characters
  pub each : list_all is_char characters ≡ true

-- nodes that could have been read, and memory holds one more attribute of each
pub record WasRead (nodes : List Node) : Type 0 where
  pub could : CouldBeRead nodes
  pub room : list_all has_room nodes ≡ true

abbrev pub IsLang : Option (List ℕ) → Type 0
IsLang None = Unit {0}
IsLang (Some lang) = IsText lang
