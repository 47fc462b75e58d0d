-- What a PROPFIND asks for (RFC 4918 sections 9.1, 14.20 and 17).
use Rattle.std.specs.Prelude.{ℕ, Bool, true, false, ◌&&◌, bytes_eq, List, [], ◌∷◌, ◌++◌, codes, Option, None, Some, option_and_then, if◌then◌else◌}
use Rattle.std.specs.List.{list_any}
use Rattle.dav_xml_core.specs.Documents.{Name, Node}
use Rattle.dav_xml_core.specs.Reading.{document_of}
use Rattle.dav_documents_core.specs.Elements.{children, name_of_element, is_dav}
use Rattle.dav_xml_core.specs.Namespaces.{same_name}

pub data Question : Type 0 where
  -- all that stands there, with its value; and of these whether they stand there
  All : List Name → Question
  -- the names of what stands there
  Names : Question
  -- these
  Listed : List Name → Question

-- the names that it gives
abbrev pub asked_names : Question → List Name
asked_names (All included) = included
asked_names Names = []
asked_names (Listed names) = names

-- ---- the names that are given, each once

abbrev pub and_new : List Name → Name → List Name
and_new names name = if list_any (same_name name) names then names else names ++ name ∷ []

abbrev pub and_name : List Name → Option Name → List Name
and_name names None = names
and_name names (Some name) = and_new names name

-- the names of elements
abbrev pub and_names : List Name → List (List Node) → List Name
and_names names [] = names
and_names names (element ∷ elements) = and_names (and_name names (name_of_element element)) elements

-- of the elements in one that is of `DAV:` with this local name
abbrev pub and_within : List ℕ → List Name → List Node → List Name
and_within local names part = if is_dav local part then and_names names (children part) else names

abbrev pub names_within : List ℕ → List Name → List (List Node) → List Name
names_within local names [] = names
names_within local names (part ∷ parts) = names_within local (and_within local names part) parts

-- ---- the question

-- exactly one of the three stands there
abbrev pub question_asked : Bool → Bool → Bool → List Name → List Name → Option Question
question_asked true false false included listed = Some Names
question_asked false true false included listed = Some (All included)
question_asked false false true included listed = Some (Listed listed)
question_asked _ _ _ included listed = None

abbrev pub has_part : List ℕ → List (List Node) → Bool
has_part local parts = list_any (is_dav local) parts

-- by what is in a `propfind`; what isn't known is left out
abbrev pub asked_by : List (List Node) → Option Question
asked_by parts =
    question_asked (has_part (codes "propname") parts) (has_part (codes "allprop") parts) (has_part (codes "prop") parts)
    (names_within (codes "include") [] parts) (names_within (codes "prop") [] parts)

abbrev pub asked_in : List Node → Option Question
asked_in nodes = if is_dav (codes "propfind") nodes then asked_by (children nodes) else None

-- of a body; an empty one asks for all
abbrev pub question_in : List ℕ → Option Question
question_in [] = Some (All [])
question_in (b ∷ bytes) = option_and_then asked_in (document_of (b ∷ bytes))
