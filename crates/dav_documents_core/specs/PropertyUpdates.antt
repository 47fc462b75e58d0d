-- What the body of a PROPPATCH asks for (RFC 4918 sections 4.3, 9.2 and 14.19).
use Rattle.std.specs.Prelude.{ℕ, Bool, true, false, ◌&&◌, bytes_eq, List, [], ◌∷◌, ◌++◌, Option, None, Some, codes, is_some, if◌then◌else◌}
use Rattle.std.specs.List.{flat_map}
use Rattle.dav_xml_core.specs.Documents.{Name, Attribute, Node, Start, Text, End}
use Rattle.dav_xml_core.specs.Namespaces.{xml_namespace}
use Rattle.dav_xml_core.specs.Optional.{◌>>=◌, choose, when}
use Rattle.dav_xml_core.specs.Reading.{document_of}
use Rattle.dav_xml_core.specs.Writing.{written_alone}
use Rattle.dav_files_core.specs.Resources.{Property}
use Rattle.dav_documents_core.specs.Elements.{children, name_of_element, is_dav, elements_named, the_one}

-- `true` sets the property, `false` removes it
abbrev pub Update : Type 0
Update = Bool × Property

-- ---- the language of a value (section 4.3)

abbrev pub is_lang : Attribute → Bool
is_lang attribute = bytes_eq attribute.name.namespace xml_namespace && bytes_eq attribute.name.local (codes "lang")

-- the value of the first `xml:lang`
abbrev pub first_lang : List Attribute → Option (List ℕ)
first_lang [] = None
first_lang (attribute ∷ attributes) = if is_lang attribute then Some attribute.value else first_lang attributes

abbrev pub own_lang : List Node → Option (List ℕ)
own_lang [] = None
own_lang (Start name attributes ∷ nodes) = first_lang attributes
own_lang (Text text ∷ nodes) = None
own_lang (End ∷ nodes) = None

-- the one of the element, or else of the elements around it
abbrev pub lang_in : Option (List ℕ) → List Node → Option (List ℕ)
lang_in around element = choose (own_lang element) (λ lang. Some lang) around

abbrev pub lang_attribute : List ℕ → Attribute
lang_attribute lang = record { name = record { namespace = xml_namespace; local = codes "lang" }; value = lang }

abbrev pub and_lang : List ℕ → List Attribute → List Attribute
and_lang lang attributes = if is_some (first_lang attributes) then attributes else attributes ++ lang_attribute lang ∷ []

-- the element with a language, where it has none of its own
abbrev pub told_lang : List ℕ → List Node → List Node
told_lang lang [] = []
told_lang lang (Start name attributes ∷ nodes) = Start name (and_lang lang attributes) ∷ nodes
told_lang lang (Text text ∷ nodes) = Text text ∷ nodes
told_lang lang (End ∷ nodes) = End ∷ nodes

-- the element with the language that holds around it
abbrev pub with_lang : Option (List ℕ) → List Node → List Node
with_lang None element = element
with_lang (Some lang) element = told_lang lang element

-- ---- one property

-- what is kept of a property: the whole element, as XML that means the same in any document; to remove it, its name is enough
abbrev pub kept_property : Bool → Option (List ℕ) → Name → List Node → Property
kept_property set lang name element = record {
  name = name.local;
  prefix = None;
  namespace = Some name.namespace;
  xml = if set then Some (written_alone (with_lang lang element)) else None;
}

abbrev pub update_of : Bool → Option (List ℕ) → List Node → List Update
update_of set lang element = choose (name_of_element element) (λ name. (set, kept_property set lang name element) ∷ []) []

-- ---- a body

-- it sets or removes; other elements are ignored (section 17)
abbrev pub sets : List Node → Option Bool
sets element = if is_dav (codes "set") element then Some true else (if is_dav (codes "remove") element then Some false else None)

-- what one element of a `propertyupdate` asks for, in the language around it: it has one `prop`, which has the properties
unfoldable pub instructed_updates : Option (List ℕ) → List Node → Option (List Update)
instructed_updates lang instruction =
    choose (sets instruction)
    (λ set. the_one (elements_named (codes "prop") (children instruction)) >>= λ prop.
    Some (flat_map (update_of set (lang_in (lang_in lang instruction) prop)) (children prop)))
    (Some [])

-- in the order of the document
abbrev pub updates_by : Option (List ℕ) → List (List Node) → Option (List Update)
updates_by lang [] = Some []
updates_by lang (instruction ∷ instructions) =
    instructed_updates lang instruction >>= λ first. updates_by lang instructions >>= λ others. Some (first ++ others)

abbrev pub updates_of : List Node → Option (List Update)
updates_of nodes = when (is_dav (codes "propertyupdate") nodes) (children nodes) >>= updates_by (own_lang nodes)

abbrev pub updates_in : List ℕ → Option (List Update)
updates_in body = document_of body >>= updates_of
