-- Names (XML 1.0 section 2.3, Namespaces 1.0 section 4).
use Rattle.std.specs.Prelude.{ℕ, ◌==◌, ◌||◌, ◌&&◌, Bool, List, [], take, drop, Some}
use Rattle.std.specs.List.{prefix_len, list_all}
use Rattle.dav_xml_core.specs.Characters.{between}
use Rattle.dav_xml_core.specs.Optional.{◌>>=◌, when, choose}
use Rattle.dav_xml_core.specs.Scanning.{Found, begins, after_char}

-- [4] NameStartChar without the colon
abbrev pub is_name_start : ℕ → Bool
is_name_start c =
    between 65 90 c || c == 95 || between 97 122 c || between 0xC0 0xD6 c || between 0xD8 0xF6 c || between 0xF8 0x2FF c
    || between 0x370 0x37D c || between 0x37F 0x1FFF c || between 0x200C 0x200D c || between 0x2070 0x218F c
    || between 0x2C00 0x2FEF c || between 0x3001 0xD7FF c || between 0xF900 0xFDCF c || between 0xFDF0 0xFFFD c
    || between 0x10000 0xEFFFF c

-- [4a] NameChar without the colon
abbrev pub is_name_char : ℕ → Bool
is_name_char c =
    is_name_start c || c == 45 || c == 46 || between 48 57 c || c == 0xB7 || between 0x300 0x36F c || between 0x203F 0x2040 c

-- [4] NCName of Namespaces 1.0
unfoldable pub ncname_at : List ℕ → Found (List ℕ)
ncname_at text =
    let len = prefix_len is_name_char text in
    when (begins is_name_start text) (take len text, drop len text)

-- a whole name
abbrev pub is_ncname : List ℕ → Bool
is_ncname text = begins is_name_start text && list_all is_name_char text

-- a name as it is written; without a prefix the prefix is empty
pub record QName : Type 0 where
  pub prefix : List ℕ
  pub local : List ℕ

-- [7] QName of Namespaces 1.0
unfoldable pub qname_at : List ℕ → Found QName
qname_at text =
    ncname_at text >>= λ first.
    choose (after_char 58 first.1)
    (λ rest. ncname_at rest >>= λ second. Some (record { prefix = first.0; local = second.0 }, second.1))
    (Some (record { prefix = []; local = first.0 }, first.1))
