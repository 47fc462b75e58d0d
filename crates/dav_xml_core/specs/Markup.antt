-- Tags, text between them, and what stands aside (XML 1.0 sections 2.4 to 2.8 and 3.1, Namespaces 1.0 section 4).
use Rattle.std.specs.Prelude.{ℕ, ◌==◌, ◌||◌, ◌&&◌, not, Bool, true, false, if◌then◌else◌, List, [], ◌∷◌, take, drop, codes, Option, None, Some}
use Rattle.std.specs.List.{prefix_len}
use Rattle.dav_xml_core.specs.Characters.{is_white}
use Rattle.dav_xml_core.specs.Names.{QName, ncname_at, qname_at}
use Rattle.dav_xml_core.specs.Optional.{◌>>=◌, when, choose}
use Rattle.dav_xml_core.specs.Scanning.{Found, begins, after_char, skip_white, until, is_nil, after_mark}
use Rattle.dav_xml_core.specs.Sequences.{sequence}

-- a name, and what stands between the quotes
pub record RawAttribute : Type 0 where
  pub name : QName
  pub raw : List ℕ

pub data Piece : Type 0 where
  -- a start tag, or an empty one
  Tag : QName → List RawAttribute → Bool → Piece
  EndTag : QName → Piece
  -- text up to the next tag, with its references
  Characters : List ℕ → Piece
  -- the text of a CDATA section
  CData : List ℕ → Piece
  -- a comment or a processing instruction
  Aside : Piece

-- [25] Eq
abbrev pub eq_at : List ℕ → Option (List ℕ)
eq_at text = after_char 61 (skip_white text) >>= λ rest. Some (skip_white rest)

-- between two quotes, or two apostrophes
abbrev pub quoted_at : List ℕ → Found (List ℕ)
quoted_at [] = None
quoted_at (c ∷ text) = if c == 34 || c == 39 then until (c ∷ []) text else None

-- [41] Attribute, behind white space
unfoldable pub attribute_at : List ℕ → Found RawAttribute
attribute_at text =
    when (begins is_white text) (skip_white text) >>= λ at.
    qname_at at >>= λ name.
    eq_at name.1 >>= λ after.
    quoted_at after >>= λ value.
    Some (record { name = name.0; raw = value.0 }, value.1)

-- `>` or `/>`, and whether it is the second
abbrev pub tag_end : List ℕ → Option (Bool × List ℕ)
tag_end text =
    choose (after_char 62 text) (λ rest. Some (false, rest)) (
    after_mark (codes "/>") text >>= λ rest. Some (true, rest))

-- [40] STag and [44] EmptyElemTag, behind `<`
unfoldable pub start_tag_at : List ℕ → Found Piece
start_tag_at text =
    qname_at text >>= λ name.
    sequence (λ rest. tag_end (skip_white rest)) attribute_at name.1 >>= λ found.
    Some (Tag name.0 found.0 found.1.0, found.1.1)

-- [42] ETag, behind `</`
unfoldable pub end_tag_at : List ℕ → Found Piece
end_tag_at text = qname_at text >>= λ name. after_char 62 (skip_white name.1) >>= λ rest. Some (EndTag name.0, rest)

-- [15] Comment, behind `<!--`
unfoldable pub comment_at : List ℕ → Found Piece
comment_at text = until (codes "--") text >>= λ found. after_char 62 found.1 >>= λ rest. Some (Aside, rest)

-- [18] CDSect, behind `<![CDATA[`
unfoldable pub cdata_at : List ℕ → Found Piece
cdata_at text = until (codes "]]>") text >>= λ found. Some (CData found.0, found.1)

-- `xml` in any case of letters
abbrev pub is_xml : List ℕ → Bool
is_xml (a ∷ b ∷ c ∷ []) = (a == 120 || a == 88) && (b == 109 || b == 77) && (c == 108 || c == 76)
is_xml _ = false

-- [16] PI, behind `<?`
unfoldable pub instruction_at : List ℕ → Found Piece
instruction_at text =
    ncname_at text >>= λ target.
    when (not (is_xml target.0)) target.1 >>= λ rest.
    until (codes "?>") rest >>= λ found.
    when (is_nil found.0 || begins is_white found.0) (Aside, found.1)

-- behind `<!`
unfoldable pub declared_at : List ℕ → Found Piece
declared_at text =
    choose (after_mark (codes "--") text) comment_at (
    after_mark (codes "[CDATA[") text >>= cdata_at)

-- behind `<`
unfoldable pub markup_at : List ℕ → Found Piece
markup_at [] = None
markup_at (c ∷ text) =
    if c == 47 then end_tag_at text else (
    if c == 63 then instruction_at text else (
    if c == 33 then declared_at text else start_tag_at (c ∷ text)))

abbrev pub is_text : ℕ → Bool
is_text c = not (c == 60)

-- text up to the next `<`
unfoldable pub characters_at : List ℕ → Found Piece
characters_at text =
    let len = prefix_len is_text text in
    Some (Characters (take len text), drop len text)

-- the piece at the front
unfoldable pub piece_at : List ℕ → Found Piece
piece_at [] = None
piece_at (c ∷ text) = if c == 60 then markup_at text else characters_at (c ∷ text)
