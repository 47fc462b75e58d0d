-- Where the elements of a document stand in it, and in which language (XML 1.0 sections 2.12 and 3,
-- RFC 4918 section 4.3).
use Rattle.std.specs.Prelude.{◌≡◌, ℕ, ◌<◌, length, true, List, [], ◌∷◌, ◌++◌, map, Option, None, Some}
use Rattle.dav_xml_core.specs.Documents.{Name, Attribute, Node, Start, Text, End, is_element}
use Rattle.dav_xml_core.specs.Optional.{choose}
use Rattle.dav_documents_core.specs.PropertyUpdates.{first_lang, with_lang}

-- the start of an element, as it stands in a document
pub record StartTag : Type 0 where
  pub name : Name
  pub attributes : List Attribute

-- those around the innermost
abbrev pub without_innermost : List StartTag → List StartTag
without_innermost [] = []
without_innermost (tag ∷ tags) = tags

-- The elements that have begun and not ended behind nodes, the innermost first; these have begun
-- before.
abbrev pub open_behind : List StartTag → List Node → List StartTag
open_behind tags [] = tags
open_behind tags (Start name attributes ∷ nodes) =
    open_behind (record { name = name; attributes = attributes } ∷ tags) nodes
open_behind tags (Text text ∷ nodes) = open_behind tags nodes
open_behind tags (End ∷ nodes) = open_behind (without_innermost tags) nodes

-- an element, and the nodes before it
pub record ElementPlace : Type 0 where
  pub before : List Node
  pub element : List Node

-- these nodes have the element there, from its start to its end
pub record HasElementAt (nodes : List Node) (place : ElementPlace) : Type 0 where
  pub behind : List Node
  pub split : nodes ≡ place.before ++ (place.element ++ behind)
  pub whole : is_element place.element ≡ true

-- the first stands before the second
abbrev pub StandsBefore : ElementPlace → ElementPlace → Type 0
StandsBefore first second = length first.before < length second.before

-- the elements around it, the innermost first
abbrev pub tags_around : ElementPlace → List StartTag
tags_around place = open_behind [] place.before

abbrev pub names_around : ElementPlace → List Name
names_around place = map (λ (tag : StartTag). tag.name) (tags_around place)

-- the `xml:lang` of the innermost that has one
abbrev pub lang_of_tags : List StartTag → Option (List ℕ)
lang_of_tags [] = None
lang_of_tags (tag ∷ tags) = choose (first_lang tag.attributes) (λ lang. Some lang)
    (lang_of_tags tags)

-- the language that holds around it
abbrev pub lang_around : ElementPlace → Option (List ℕ)
lang_around place = lang_of_tags (tags_around place)

-- the element, which tells this language where it has none of its own
abbrev pub element_with_lang : ElementPlace → List Node
element_with_lang place = with_lang (lang_around place) place.element
