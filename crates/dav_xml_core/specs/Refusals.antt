-- What bytes are read as: the nodes of a document, or why they spell none and where (own). A place is told in characters by how many
-- are left from there on, and in bytes by how many stand before it.
use Rattle.std.specs.Prelude.{ℕ, zero, suc, ◌+◌, ◌-◌, ◌==◌, ◌&&◌, ◌||◌, not, Bool, false, nat_eq, if◌then◌else◌, List, [], ◌∷◌, length, codes, chars, Option, None, Some, Result, Ok, Err}
use Rattle.std.specs.Char.{len_utf8}
use Rattle.std.specs.List.{starts_with}
use Rattle.std.specs.Option.{ok_or}
use Rattle.std.specs.Str.{is_utf8}
use Rattle.std.specs.Str.Lossy.{utf8_valid_len}
use Rattle.dav_xml_core.specs.Characters.{is_char, lines_from}
use Rattle.dav_xml_core.specs.Declarations.{is_called, is_utf8_name, are_fields, fields_at, declaration_at}
use Rattle.dav_xml_core.specs.Documents.{Node}
use Rattle.dav_xml_core.specs.Markup.{RawAttribute}
use Rattle.dav_xml_core.specs.Optional.{choose}
use Rattle.dav_xml_core.specs.Reading.{Front, nothing, finished_nodes, step, without_mark}

pub data XmlRefusal : Type 0 where
  -- it is no well-formed document with namespaces: what can't be read begins at this place
  NotWellFormed : ℕ → XmlRefusal
  -- a document type declaration stands where it can't be read
  DocumentType : XmlRefusal
  -- it is, or says that it is, in another encoding than UTF-8
  Encoding : XmlRefusal

-- the second reading, of what the first gives
infixl 10 ◌>=>◌
abbrev pub ◌>=>◌ : {A B : Type 0} → Result A XmlRefusal → (A → Result B XmlRefusal) → Result B XmlRefusal
(Ok x) >=> f = f x
(Err e) >=> f = Err e

-- ---- a text

-- where a text can't be read any further: [28] doctypedecl begins there, or something else
abbrev pub refusal_of_text : List ℕ → XmlRefusal
refusal_of_text text = if starts_with nat_eq text (codes "<!DOCTYPE") then DocumentType else NotWellFormed (length text)

-- what follows a front of a document, of at most so many pieces: the place is that of the first piece that is none or doesn't fit what
-- stands before it, and the end where the element hasn't ended there
unfoldable pub read_on : Front → ℕ → List ℕ → Result (List Node) XmlRefusal
read_on front zero text = Err (NotWellFormed 0)
read_on front (suc n) [] = ok_or (finished_nodes front) (NotWellFormed 0)
read_on front (suc n) (c ∷ text) =
    choose (step front (c ∷ text)) (λ next. read_on next.0 n next.1) (Err (refusal_of_text (c ∷ text)))

-- a text behind its declaration; each piece takes a character, so there are no more than characters
unfoldable pub nodes_answer : List ℕ → Result (List Node) XmlRefusal
nodes_answer text = read_on nothing (suc (length text)) text

-- [80] EncodingDecl, of another encoding
abbrev pub names_another_encoding : List RawAttribute → Bool
names_another_encoding (a ∷ b ∷ fields) = is_called (codes "encoding") b && not (is_utf8_name b.raw)
names_another_encoding _ = false

-- what follows the declaration, where there is one; the place is that of the declaration
unfoldable pub declaration_answer : List ℕ → Result (List ℕ) XmlRefusal
declaration_answer text =
    choose (declaration_at text)
    (λ rest. choose (fields_at rest)
    (λ found. if are_fields found.0 then Ok found.1 else (if names_another_encoding found.0 then Err Encoding else Err (refusal_of_text text)))
    (Err (refusal_of_text text)))
    (Ok text)

-- the nodes of a text
unfoldable pub content_answer : List ℕ → Result (List Node) XmlRefusal
content_answer text = declaration_answer (without_mark text) >=> nodes_answer

-- ---- bytes

-- how many bytes stand before the character of this number, where a carriage return and a line feed are one (section 2.11); the flag
-- says whether a carriage return stands right before
abbrev pub bytes_before : Bool → ℕ → List ℕ → ℕ
bytes_before after_return n [] = 0
bytes_before after_return zero (c ∷ text) = if c == 10 && after_return then 1 + bytes_before false zero text else 0
bytes_before after_return (suc n) (c ∷ text) =
    if c == 10 && after_return then 1 + bytes_before false (suc n) text else len_utf8 c + bytes_before (c == 13) n text

-- the place in the bytes of these characters, by the place in their lines
abbrev pub in_bytes : List ℕ → XmlRefusal → XmlRefusal
in_bytes text (NotWellFormed left) = NotWellFormed (bytes_before false (length (lines_from false text) - left) text)
in_bytes text DocumentType = DocumentType
in_bytes text Encoding = Encoding

abbrev pub with_place : {A : Type 0} → List ℕ → Result A XmlRefusal → Result A XmlRefusal
with_place text (Ok x) = Ok x
with_place text (Err refusal) = Err (in_bytes text refusal)

-- a byte order mark of UTF-16
abbrev pub has_utf16_mark : List ℕ → Bool
has_utf16_mark (a ∷ b ∷ bytes) = (a == 0xFE && b == 0xFF) || (a == 0xFF && b == 0xFE)
has_utf16_mark _ = false

-- where the first character stands that is no Char [2], behind so many bytes
abbrev pub no_char_at : ℕ → List ℕ → Option ℕ
no_char_at at [] = None
no_char_at at (c ∷ text) = if is_char c then no_char_at (at + len_utf8 c) text else Some at

-- the characters of the bytes; the place is that of the first byte that is no UTF-8 or no character
unfoldable pub characters_answer : List ℕ → Result (List ℕ) XmlRefusal
characters_answer bytes =
    if is_utf8 bytes then choose (no_char_at 0 (chars bytes)) (λ at. Err (NotWellFormed at)) (Ok (chars bytes))
    else (if has_utf16_mark bytes then Err Encoding else Err (NotWellFormed (utf8_valid_len bytes)))

-- what bytes are read as: `document_of` where they spell a document
unfoldable pub reading_answer : List ℕ → Result (List Node) XmlRefusal
reading_answer bytes = characters_answer bytes >=> λ text. with_place text (content_answer (lines_from false text))
