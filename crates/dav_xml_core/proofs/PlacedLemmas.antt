-- The bytes of an element that stands alone, put into any document.
use Rattle.std.proofs.Common.{◌≡◌, refl, sym, ap, ◌∙◌, ℕ, zero, suc, Bool, true, false, cond, eqb, List, [], ◌∷◌, ◌++◌, map, length, Option, None, Some, append_assoc}
use Rattle.std.specs.Prelude.{codes, option_map}
use Rattle.std.proofs.lemmas.Option.{none-some, same_Some}
use Rattle.dav_xml_core.specs.Characters.{is_white, characters}
use Rattle.dav_xml_core.specs.Declarations.{declaration_at, fields_at, are_fields, after_declaration}
use Rattle.dav_xml_core.specs.Documents.{Node}
use Rattle.dav_xml_core.specs.Markup.{Piece, piece_at}
use Rattle.dav_xml_core.specs.Names.{is_name_start}
use Rattle.dav_xml_core.specs.Optional.{◌>>=◌, when, choose}
use Rattle.dav_xml_core.specs.Places.{read_from_front, front_at, may_begin, with_element}
use Rattle.dav_xml_core.specs.ReadableDocuments.{node_bytes, is_readable}
use Rattle.dav_xml_core.specs.Reading.{Front, nothing, with_piece, with_pieces, nodes_of, without_mark, content_nodes, document_of}
use Rattle.dav_xml_core.specs.Scanning.{begins, after_mark}
use Rattle.dav_xml_core.specs.Sequences.{many, sequence, at_end, all_of}
use Rattle.dav_xml_core.specs.Writing.{written_alone}
use Rattle.dav_xml_core.proofs.AlwaysLemmas.{always_bound_so}
use Rattle.dav_xml_core.proofs.BehindLemmas.{longer, bound_to, tag_mark_longer, begins_longer, fields_longer, piece_longer}
use Rattle.dav_xml_core.proofs.ElementLemmas.{bind_some, when_some}
use Rattle.dav_xml_core.proofs.NodesLemmas.{tag_undeclared, alone_first, alone_bytes, alone_on}
use Rattle.dav_xml_core.proofs.PlaceLemmas.{step_on, whole_document}

abbrev some_text : List ℕ → Option (List ℕ)
some_text text = Some text

module _ (c : ℕ) (others : List ℕ) (start : is_name_start c ≡ true) where
  tag : List ℕ
  tag = c ∷ others

  unmarked : (text : List ℕ) → without_mark (longer tag text) ≡ longer tag (without_mark text)
  unmarked [] = refl
  unmarked (x ∷ text) = go (eqb x 0xFEFF)
    where
      go : (b : Bool) → cond b (longer tag text) (longer tag (x ∷ text)) ≡ longer tag (cond b text (x ∷ text))
      go true = refl
      go false = refl

  declaration_longer : (x : ℕ) (text : List ℕ) → declaration_at (longer tag (x ∷ text)) ≡ option_map (longer tag) (declaration_at (x ∷ text))
  unfolding declaration_at
  declaration_longer x text =
      ap (λ (o : Option (List ℕ)). o >>= λ rest. when (begins is_white rest) rest) (tag_mark_longer tag (codes "?xml") x text refl) ∙ go (after_mark (codes "<?xml") (x ∷ text))
    where
      put : (b : Bool) (rest : List ℕ) → when b (longer tag rest) ≡ option_map (longer tag) (when b rest)
      put true rest = refl
      put false rest = refl

      go : (o : Option (List ℕ)) → (option_map (longer tag) o >>= λ rest. when (begins is_white rest) rest) ≡ option_map (longer tag) (o >>= λ rest. when (begins is_white rest) rest)
      go (Some rest) = ap (λ b. when b (longer tag rest)) (begins_longer tag is_white rest refl) ∙ put (begins is_white rest) rest
      go None = refl

  by_fields : Option (List ℕ) → List ℕ → Option (List ℕ)
  by_fields o text = choose o (λ behind. fields_at behind >>= λ found. when (are_fields found.0) found.1) (Some text)

  declared_longer : (text rest : List ℕ) → after_declaration text ≡ Some rest → after_declaration (longer tag text) ≡ Some (longer tag rest)
  unfolding after_declaration by_fields tag declaration_at
  declared_longer [] rest h = tag_undeclared c others start ∙ ap (λ (t : List ℕ). some_text (longer tag t)) (same_Some [] rest h)
  declared_longer (x ∷ text) rest h = ap (λ (o : Option (List ℕ)). by_fields o (longer tag (x ∷ text))) (declaration_longer x text) ∙ go (declaration_at (x ∷ text)) h
    where
      go : (o : Option (List ℕ)) → by_fields o (x ∷ text) ≡ Some rest → by_fields (option_map (longer tag) o) (longer tag (x ∷ text)) ≡ Some (longer tag rest)
      go (Some behind) e =
          let a = bind_some (fields_at behind) _ rest e in
          let w = when_some (are_fields a.0.0) a.0.1 rest a.2 in
          bound_to (fields_at (longer tag behind)) _ (a.0.0, longer tag a.0.1) _ (fields_longer tag behind a.0 a.1)
          (ap (λ b. when b (longer tag a.0.1)) w.0 ∙ ap (λ (t : List ℕ). some_text (longer tag t)) w.1)
      go None e = ap (λ (t : List ℕ). some_text (longer tag t)) (same_Some (x ∷ text) rest e)

  -- what is read of whole pieces with a tag behind them, is what is read at the tag
  pieces_on : (n : ℕ) (text : List ℕ) (found : List Piece × List ℕ) (before front : Front) → many at_end piece_at n text ≡ Some found → with_pieces before found.0 ≡ Some front
      → read_from_front before (longer tag text) ≡ read_from_front front (60 ∷ tag)
  unfolding many
  pieces_on zero text found before front h i = absurd (none-some found h)
  pieces_on (suc n) [] found before front h i =
      let none : found.0 ≡ [] = ap (λ (f : List Piece × List ℕ). f.0) (sym (same_Some ([], []) found h)) in
      ap (λ (f : Front). read_from_front f (60 ∷ tag)) (same_Some before front (ap (with_pieces before) (sym none) ∙ i))
  pieces_on (suc n) (x ∷ text) found before front h i =
      let a = bind_some (piece_at (x ∷ text)) _ found h in
      let b = bind_some (many at_end piece_at n a.0.1) _ found a.2 in
      let all : a.0.0 ∷ b.0.0 ≡ found.0 = ap (λ (f : List Piece × List ℕ). f.0) (same_Some (a.0.0 ∷ b.0.0, b.0.1) found b.2) in
      let d = bind_some (with_piece before a.0.0) _ front (ap (with_pieces before) all ∙ i) in
      step_on before d.0 (longer tag (x ∷ text)) (longer tag a.0.1) a.0.0 (piece_longer tag (x ∷ text) a.0 a.1) d.1
      ∙ pieces_on n a.0.1 b.0 d.0 front b.1 d.2

  -- the characters of a document that goes on with a tag
  text_on : (text rest : List ℕ) (pieces : List Piece) (front : Front) → after_declaration (without_mark text) ≡ Some rest → all_of piece_at rest ≡ Some pieces → with_pieces nothing pieces ≡ Some front
      → content_nodes (longer tag text) ≡ read_from_front front (60 ∷ tag)
  unfolding content_nodes sequence
  text_on text rest pieces front h i j =
      let a = bind_some (many at_end piece_at (suc (length rest)) rest) _ pieces i in
      bound_to (after_declaration (without_mark (longer tag text))) nodes_of (longer tag rest) _ (ap after_declaration (unmarked text) ∙ declared_longer (without_mark text) rest h)
      (whole_document (longer tag rest) ∙ pieces_on (suc (length rest)) rest a.0 nothing front a.1 (ap (with_pieces nothing) (same_Some a.0.0 pieces a.2) ∙ j))

-- the bytes of an element, where it may begin in a document, are read as its nodes
pub placed : (before behind rest : List ℕ) (front : Front) (nodes : List Node) → front_at before ≡ Some front → may_begin front ≡ true → characters behind ≡ Some rest
    → is_readable nodes ≡ true → document_of (before ++ written_alone (map node_bytes nodes) ++ behind) ≡ read_from_front (with_element front (map node_bytes nodes)) rest
unfolding front_at document_of tag
placed before behind rest front nodes h allowed i readable =
    let a = bind_some (characters before) _ front h in
    let b = bind_some (after_declaration (without_mark a.0)) _ front a.2 in
    let d = bind_some (all_of piece_at b.0) (with_pieces nothing) front b.2 in
    let always = always_bound_so d.0 front d.2 in
    let first = alone_first nodes rest readable in
    bound_to (characters (before ++ written_alone (map node_bytes nodes) ++ behind)) content_nodes (a.0 ++ written_alone nodes ++ rest) _
    (alone_bytes before behind a.0 rest nodes readable a.1 i)
    (ap content_nodes (append_assoc a.0 (written_alone nodes) rest ∙ ap (λ (t : List ℕ). a.0 ++ t) first.3)
    ∙ text_on first.0 first.1 first.2 a.0 b.0 d.0 front b.1 d.1 d.2
    ∙ ap (read_from_front front) (sym first.3)
    ∙ alone_on front nodes rest allowed always.0 always.1 readable)
