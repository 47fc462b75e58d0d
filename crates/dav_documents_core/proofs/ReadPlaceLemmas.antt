-- Elements at their places in a document that was read: each could be written again, in the
-- language around it.
use Rattle.std.proofs.Common.{◌≡◌, sym, subst, List, [], ◌∷◌, map, Some}
use Rattle.std.specs.List.{AllByRecursion}
use Rattle.dav_xml_core.specs.Documents.{Node}
use Rattle.dav_xml_core.specs.Reading.{document_of}
use Rattle.dav_xml_core.specs.Writing.{written_alone}
use Rattle.dav_xml_core.proofs.NodesLemmas.{alone_again}
use Rattle.dav_documents_core.specs.ElementPlaces.{StartTag, element_with_lang, lang_around, lang_of_tags}
use Rattle.dav_documents_core.specs.KeptReading.{IsLang, WasRead}
use Rattle.dav_documents_core.proofs.ElementPlaceLemmas.{IsSpotIn, Spot, below, below_stand, children_below, element_at, place_at, tag_at}
use Rattle.dav_documents_core.proofs.KeptReadingLaws.{kept_could, text_in}
use Rattle.dav_documents_core.proofs.ReadChildLemmas.{children_read}

pub record IsReadSpot (nodes : List Node) (tags : List StartTag) (s : Spot) : Type 0 where
  pub spot : IsSpotIn nodes tags s
  pub read : WasRead (element_at s)
  pub lang : IsLang (lang_of_tags tags)

each_read : (nodes : List Node) (tags : List StartTag) (ss : List Spot) → IsLang (lang_of_tags tags)
    → AllByRecursion (IsSpotIn nodes tags) ss → AllByRecursion WasRead (map element_at ss)
    → AllByRecursion (IsReadSpot nodes tags) ss
each_read nodes tags [] lang h k = tt
each_read nodes tags (s ∷ ss) lang h k = (
  record { spot = h.0; read = k.0; lang = lang },
  each_read nodes tags ss lang h.1 k.1,
)

pub below_read : (nodes : List Node) (tags : List StartTag) (s : Spot) → IsReadSpot nodes tags s
    → AllByRecursion (IsReadSpot nodes (tag_at s ∷ tags)) (below s)
below_read nodes tags s h =
    each_read nodes (tag_at s ∷ tags) (below s) (text_in (lang_of_tags tags)
    (element_at s) h.lang h.read.could) (below_stand nodes tags s h.spot)
    (subst (λ (es : List (List Node)). AllByRecursion WasRead es) (children_below s)
    (children_read (element_at s) h.read))

pub told_again : (nodes : List Node) (tags : List StartTag) (s : Spot) → IsReadSpot nodes tags s
    → document_of (written_alone (element_with_lang (place_at s)))
    ≡ Some (element_with_lang (place_at s))
told_again nodes tags s h =
    alone_again (element_with_lang (place_at s))
    (kept_could (lang_around (place_at s)) (element_at s)
    (subst (λ (ts : List StartTag). IsLang (lang_of_tags ts))
    (sym h.spot.around) h.lang) h.read)
