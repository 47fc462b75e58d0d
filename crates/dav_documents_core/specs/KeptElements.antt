-- Texts, names, elements and documents that can be read, as properties and locks keep them (XML 1.0 section 2.1, RFC 4918 sections 4.4 and 8.2).
use Rattle.std.specs.Prelude.{◌≡◌, ℕ, Bool, true, false, ◌&&◌, nat_le, List, Option, None, Some}
use Rattle.std.specs.FinMap.{get}
use Rattle.std.specs.List.{list_all}
use Rattle.dav_xml_core.specs.Documents.{Name, Node}
use Rattle.dav_xml_core.specs.Readable.{is_name, name_bytes}
use Rattle.dav_xml_core.specs.ReadableDocuments.{CouldBeRead}
use Rattle.dav_xml_core.specs.Reading.{document_of}
use Rattle.dav_xml_core.specs.Scanning.{is_nil}
use Rattle.dav_xml_core.specs.Writing.{written_alone}
use Rattle.dav_files_core.specs.Resources.{Properties, Property}
use Rattle.dav_locks_core.specs.Lock.{Lock}
use Rattle.dav_documents_core.specs.PropertyDocuments.{name_of_property}
use Rattle.dav_documents_core.specs.RefusalReading.{IsRooted}

-- ---- texts

-- a character of ASCII that is seen, or a space
abbrev pub is_printable : ℕ → Bool
is_printable b = nat_le 32 b && nat_le b 126

-- some of them
pub record IsVisible (text : List ℕ) : Type 0 where
  pub some : is_nil text ≡ false
  pub each : list_all is_printable text ≡ true

-- ---- what is kept

-- the bytes of a name that an element could have
pub record IsElementName (name : Name) : Type 0 where
  pub characters : Name
  pub bytes : name ≡ name_bytes characters
  pub is : is_name characters ≡ true

-- the bytes of an element that was read, as they are written to stand alone
pub record IsElementText (xml : List ℕ) : Type 0 where
  pub nodes : List Node
  pub could : CouldBeRead nodes
  pub written : xml ≡ written_alone nodes

abbrev pub IsElementIn : Option (List ℕ) → Type 0
IsElementIn None = Unit {0}
IsElementIn (Some xml) = IsElementText xml

abbrev pub IsKeptProperty : Property → Type 0
IsKeptProperty p = IsElementName (name_of_property p) × IsElementIn p.xml

-- each of them
abbrev pub AreKept : Properties → Type 0
AreKept props = (key : List ℕ × List ℕ) (p : Property) → get props key ≡ Some p → IsKeptProperty p

-- Its token is visible, its path begins with a slash, and its owner is an element.
pub record IsKeptLock (l : Lock) : Type 0 where
  pub token : IsVisible l.token
  pub rooted : IsRooted l.path
  pub owner : IsElementIn l.owner

-- the bytes are read as one document
pub record IsDocument (bytes : List ℕ) : Type 0 where
  pub nodes : List Node
  pub is : document_of bytes ≡ Some nodes
