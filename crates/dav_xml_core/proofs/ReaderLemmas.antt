-- One more piece of a document.
use Rattle.std.proofs.Common.{◌≡◌, refl, sym, ◌∙◌, ℕ, suc, List, [], ◌∷◌, length, Option, None, Some}
use Rattle.dav_xml_core.specs.Documents.{Node}
use Rattle.dav_xml_core.specs.Markup.{Piece, piece_at}
use Rattle.dav_xml_core.specs.Optional.{◌>>=◌}
use Rattle.dav_xml_core.specs.Reading.{Front, nothing, with_piece, with_pieces, finished_nodes, nodes_of, step}
use Rattle.dav_xml_core.specs.Scanning.{Found}
use Rattle.dav_xml_core.specs.Sequences.{many, sequence, at_end}

abbrev pieces : ℕ → List ℕ → Option (List Piece × List ℕ)
pieces n text = many at_end piece_at n text

abbrev told : Front → Option (List Piece × List ℕ) → Option (List Node)
told front found = found >>= λ all. with_pieces front all.0 >>= finished_nodes

-- the nodes of a front and of a rest with at most so many pieces
unfoldable pub rest_of : Front → ℕ → List ℕ → Option (List Node)
rest_of front n text = told front (pieces n text)

pub starts : (text : List ℕ) → rest_of nothing (suc (length text)) text ≡ nodes_of text
unfolding rest_of nodes_of sequence
starts text = sym (regrouped (pieces (suc (length text)) text))
  where
    regrouped : (found : Option (List Piece × List ℕ)) → ((found >>= λ x. Some x.0) >>= λ all. with_pieces nothing all >>= finished_nodes) ≡ told nothing found
    regrouped (Some x) = refl
    regrouped None = refl

pub none_are : (front : Front) (text : List ℕ) → rest_of front 0 text ≡ None
unfolding rest_of many
none_are front text = refl

pub at_the_end : (front : Front) (n : ℕ) → rest_of front (suc n) [] ≡ finished_nodes front
unfolding rest_of many
at_the_end front n = refl

abbrev after_step : ℕ → Option (Front × List ℕ) → Option (List Node)
after_step n stepped = stepped >>= λ x. rest_of x.0 n x.1

moved : (front : Front) (piece : Piece) (others : Option (List Piece × List ℕ))
    → told front (others >>= λ o. Some (piece ∷ o.0, o.1)) ≡ (others >>= λ o. (with_piece front piece >>= λ more. with_pieces more o.0) >>= finished_nodes)
moved front piece (Some o) = refl
moved front piece None = refl

split : (others : Option (List Piece × List ℕ)) (more : Option Front)
    → (others >>= λ o. (more >>= λ m. with_pieces m o.0) >>= finished_nodes) ≡ (more >>= λ m. told m others)
split (Some o) (Some m) = refl
split None (Some m) = refl
split (Some o) None = refl
split None None = refl

stepped : (n : ℕ) (after : List ℕ) (more : Option Front) → (more >>= λ m. told m (pieces n after)) ≡ after_step n (more >>= λ m. Some (m, after))
unfolding rest_of
stepped n after (Some m) = refl
stepped n after None = refl

one_more : (front : Front) (n : ℕ) (found : Found Piece)
    → told front (found >>= λ first. pieces n first.1 >>= λ others. Some (first.0 ∷ others.0, others.1))
    ≡ after_step n (found >>= λ first. with_piece front first.0 >>= λ more. Some (more, first.1))
one_more front n None = refl
one_more front n (Some first) =
    moved front first.0 (pieces n first.1) ∙ split (pieces n first.1) (with_piece front first.0) ∙ stepped n first.1 (with_piece front first.0)

pub one_piece : (front : Front) (n c : ℕ) (text : List ℕ) → rest_of front (suc n) (c ∷ text) ≡ after_step n (step front (c ∷ text))
unfolding step rest_of many
one_piece front n c text = one_more front n (piece_at (c ∷ text))
