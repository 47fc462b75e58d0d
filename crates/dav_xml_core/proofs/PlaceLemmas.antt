-- Reading on from a place in a document, a piece at a time.
use Rattle.std.proofs.Common.{◌≡◌, refl, sym, ap, ◌∙◌, ℕ, zero, suc, ◌<◌, ◌≤◌, arith, Bool, true, List, [], ◌∷◌, length, Option, None, Some}
use Rattle.std.specs.List.{list_all}
use Rattle.std.proofs.lemmas.Option.{none-some}
use Rattle.dav_xml_core.specs.Documents.{Node}
use Rattle.dav_xml_core.specs.Markup.{Piece, piece_at}
use Rattle.dav_xml_core.specs.Optional.{◌>>=◌}
use Rattle.dav_xml_core.specs.Places.{read_from_front}
use Rattle.dav_xml_core.specs.Reading.{Front, nothing, with_piece, with_pieces, finished_nodes, nodes_of}
use Rattle.dav_xml_core.specs.Scanning.{Found}
use Rattle.dav_xml_core.specs.Sequences.{many, sequence, at_end}
use Rattle.dav_xml_core.proofs.ProductionLemmas.{piece_found}

any : ℕ → Bool
any c = true

all_pass : (text : List ℕ) → list_all any text ≡ true
unfolding any
all_pass [] = refl
all_pass (c ∷ text) = all_pass text

rest_shorter : (c : ℕ) (text : List ℕ) (found : Piece × List ℕ) → piece_at (c ∷ text) ≡ Some found → length found.1 ≤ length text
unfolding any
rest_shorter c text found h = (piece_found any (length text) c text found refl (record { chars = all_pass text; short = omega arith }) h).1.short

abbrev pieces : ℕ → List ℕ → Option (List Piece × List ℕ)
pieces n text = many at_end piece_at n text

abbrev put : Piece → Option (List Piece × List ℕ) → Option (List Piece × List ℕ)
put piece found = found >>= λ others. Some (piece ∷ others.0, others.1)

abbrev more_pieces : ℕ → Found Piece → Option (List Piece × List ℕ)
more_pieces n found = found >>= λ first. put first.0 (pieces n first.1)

-- there are no more pieces than characters
enough : (n m : ℕ) (text : List ℕ) → length text < n → length text < m → pieces n text ≡ pieces m text
unfolding many
enough zero m text a b = absurd (omega arith)
enough (suc n) zero text a b = absurd (omega arith)
enough (suc n) (suc m) [] a b = refl
enough (suc n) (suc m) (c ∷ text) a b =
    go (piece_at (c ∷ text)) (λ found h. enough n m found.1 (omega (arith, rest_shorter c text found h)) (omega (arith, rest_shorter c text found h)))
  where
    go : (o : Found Piece) → ((found : Piece × List ℕ) → o ≡ Some found → pieces n found.1 ≡ pieces m found.1) → more_pieces n o ≡ more_pieces m o
    go (Some found) r = ap (put found.0) (r found refl)
    go None r = refl

abbrev told : Front → Option (List Piece × List ℕ) → Option (List Node)
told front found = found >>= λ all. with_pieces front all.0 >>= finished_nodes

told_on : (front : Front) (text : List ℕ) → read_from_front front text ≡ told front (pieces (suc (length text)) text)
unfolding read_from_front sequence
told_on front text = go (pieces (suc (length text)) text)
  where
    go : (found : Option (List Piece × List ℕ)) → ((found >>= λ x. Some x.0) >>= λ all. with_pieces front all >>= finished_nodes) ≡ told front found
    go (Some found) = refl
    go None = refl

one_piece : (front more : Front) (piece : Piece) (others : Option (List Piece × List ℕ)) → with_piece front piece ≡ Some more → told front (put piece others) ≡ told more others
one_piece front more piece None h = refl
one_piece front more piece (Some others) h = ap (λ (o : Option Front). (o >>= λ next. with_pieces next others.0) >>= finished_nodes) h

-- what is read at a piece is what is read behind it
pub step_on : (front more : Front) (text after : List ℕ) (piece : Piece) → piece_at text ≡ Some (piece, after) → with_piece front piece ≡ Some more → read_from_front front text ≡ read_from_front more after
unfolding piece_at many
step_on front more [] after piece h i = absurd (none-some (piece, after) h)
step_on front more (c ∷ text) after piece h i =
    let n = length (c ∷ text) in
    told_on front (c ∷ text)
    ∙ ap (λ (o : Found Piece). told front (more_pieces n o)) h
    ∙ one_piece front more piece (pieces n after) i
    ∙ ap (told more) (enough n (suc (length after)) after (omega (arith, rest_shorter c text (piece, after) h)) (omega arith))
    ∙ sym (told_on more after)

pub whole_document : (text : List ℕ) → nodes_of text ≡ read_from_front nothing text
unfolding nodes_of read_from_front
whole_document text = refl
