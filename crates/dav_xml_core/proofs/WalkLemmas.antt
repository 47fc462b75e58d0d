-- What a start, an end and a text keep of a front, each piece keeps.
use Rattle.std.proofs.Common.{◌≡◌, subst, ℕ, Bool, true, false, not, cond, List, [], ◌∷◌, ◌++◌, Some}
use Rattle.std.specs.List.{list_all}
use Rattle.std.proofs.lemmas.Option.{same_Some}
use Rattle.dav_xml_core.specs.Characters.{is_white}
use Rattle.dav_xml_core.specs.Markup.{RawAttribute, Piece, Tag, EndTag, Characters, CData, Aside}
use Rattle.dav_xml_core.specs.Names.{QName}
use Rattle.dav_xml_core.specs.Optional.{◌>>=◌, when}
use Rattle.dav_xml_core.specs.Reading.{Front, is_empty, with_start_tag, with_end_tag, with_tag, content_of, with_characters, with_cdata, with_piece, with_pieces}
use Rattle.dav_xml_core.proofs.EachLemmas.{Each}
use Rattle.dav_xml_core.proofs.ElementLemmas.{bind_some, when_some}

abbrev pub with_text : Front → List ℕ → Front
with_text front text = record front { text = front.text ++ text }

-- of pieces that are such, whose texts are such
module _ (P : Front → Type 0) (R : Piece → Type 0) (T : List ℕ → Type 0)
    (by_start : (front more : Front) (name : QName) (raws : List RawAttribute) (empty : Bool) → R (Tag name raws empty) → P front → with_start_tag front name raws ≡ Some more → P more)
    (by_end : (front more : Front) (name : QName) → P front → with_end_tag front name ≡ Some more → P more)
    (by_text : (front : Front) (text : List ℕ) → T text → P front → P (with_text front text))
    (content : (raw text : List ℕ) → R (Characters raw) → content_of raw ≡ Some text → T text) (section : (raw : List ℕ) → R (CData raw) → T raw) where
  by_tag : (front more : Front) (name : QName) (raws : List RawAttribute) (empty : Bool) → R (Tag name raws empty) → P front → with_tag front name raws empty ≡ Some more → P more
  unfolding with_tag
  by_tag front more name raws empty is p h =
      let a = bind_some (with_start_tag front name raws) _ more h in
      go empty a.0 (by_start front a.0 name raws empty is p a.1) a.2
    where
      go : (b : Bool) (begun : Front) → P begun → cond b (with_end_tag begun name) (Some begun) ≡ Some more → P more
      go true begun q e = by_end begun more name q e
      go false begun q e = subst P (same_Some begun more e) q

  by_characters : (front more : Front) (raw : List ℕ) → R (Characters raw) → P front → with_characters front raw ≡ Some more → P more
  unfolding with_characters
  by_characters front more raw is p h = go (is_empty front.elements) h
    where
      go : (b : Bool) → cond b (when (list_all is_white raw) front) (content_of raw >>= λ text. Some (with_text front text)) ≡ Some more → P more
      go true e = subst P (when_some (list_all is_white raw) front more e).1 p
      go false e =
          let a = bind_some (content_of raw) _ more e in
          subst P (same_Some (with_text front a.0) more a.2) (by_text front a.0 (content raw a.0 is a.1) p)

  by_cdata : (front more : Front) (raw : List ℕ) → R (CData raw) → P front → with_cdata front raw ≡ Some more → P more
  unfolding with_cdata
  by_cdata front more raw is p h = subst P (when_some (not (is_empty front.elements)) (with_text front raw) more h).1 (by_text front raw (section raw is) p)

  by_piece : (front more : Front) (piece : Piece) → R piece → P front → with_piece front piece ≡ Some more → P more
  by_piece front more (Tag name raws empty) is p h = by_tag front more name raws empty is p h
  by_piece front more (EndTag name) is p h = by_end front more name p h
  by_piece front more (Characters raw) is p h = by_characters front more raw is p h
  by_piece front more (CData raw) is p h = by_cdata front more raw is p h
  by_piece front more Aside is p h = subst P (same_Some front more h) p

  pub by_pieces : (pieces : List Piece) (front more : Front) → Each R pieces → P front → with_pieces front pieces ≡ Some more → P more
  by_pieces [] front more each p h = subst P (same_Some front more h) p
  by_pieces (piece ∷ pieces) front more each p h =
      let a = bind_some (with_piece front piece) _ more h in
      by_pieces pieces a.0 more each.1 (by_piece front a.0 piece each.0 p a.1) a.2
