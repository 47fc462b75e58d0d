-- Names by their namespaces (Namespaces in XML 1.0, third edition).
use Rattle.std.specs.Prelude.{ℕ, Bool, true, false, ◌&&◌, ◌||◌, not, bytes_eq, if◌then◌else◌, List, [], ◌∷◌, ◌++◌, codes, encode_utf8_all, Option, None, Some, unwrap_or}
use Rattle.std.specs.List.{list_any}
use Rattle.dav_xml_core.specs.Documents.{Name, Attribute}
use Rattle.dav_xml_core.specs.Markup.{RawAttribute}
use Rattle.dav_xml_core.specs.Names.{QName}
use Rattle.dav_xml_core.specs.Optional.{◌>>=◌, when, choose, every}
use Rattle.dav_xml_core.specs.References.{value_of}
use Rattle.dav_xml_core.specs.Scanning.{is_nil}

-- section 3: what `xml` is always bound to, and `xmlns`
abbrev pub xml_namespace : List ℕ
xml_namespace = codes "http://www.w3.org/XML/1998/namespace"

abbrev pub xmlns_namespace : List ℕ
xmlns_namespace = codes "http://www.w3.org/2000/xmlns/"

-- a prefix, which is empty for the default namespace, and the name that it is bound to
pub record Binding : Type 0 where
  pub prefix : List ℕ
  pub namespace : List ℕ

abbrev pub always_bound : List Binding
always_bound =
    record { prefix = codes "xml"; namespace = xml_namespace } ∷ record { prefix = codes "xmlns"; namespace = xmlns_namespace } ∷ []

-- what a prefix is bound to in the end, when it was bound to this before
abbrev pub bound_from : List ℕ → Option (List ℕ) → List Binding → Option (List ℕ)
bound_from prefix found [] = found
bound_from prefix found (binding ∷ bindings) =
    bound_from prefix (if bytes_eq binding.prefix prefix then Some binding.namespace else found) bindings

-- section 6: the last of the bindings counts
unfoldable pub bound_namespace : List ℕ → List Binding → Option (List ℕ)
bound_namespace prefix bindings = bound_from prefix None bindings

-- section 3: the prefix that an attribute of this name binds
unfoldable pub declares : QName → Option (List ℕ)
declares name =
    if is_nil name.prefix then when (bytes_eq name.local (codes "xmlns")) []
    else when (bytes_eq name.prefix (codes "xmlns")) name.local

-- section 3, Reserved Prefixes and Namespace Names; section 5, No Prefix Undeclaring
unfoldable pub may_bind : List ℕ → List ℕ → Bool
may_bind prefix namespace =
    if bytes_eq prefix (codes "xml") then bytes_eq namespace xml_namespace
    else (not (bytes_eq prefix (codes "xmlns")) && not (bytes_eq namespace xml_namespace)
    && not (bytes_eq namespace xmlns_namespace) && (is_nil prefix || not (is_nil namespace)))

-- the binding that a declaration with this value adds
unfoldable pub declared_binding : List ℕ → List ℕ → Option Binding
declared_binding prefix raw =
    value_of raw >>= λ value.
    when (may_bind prefix (encode_utf8_all value)) (record { prefix = prefix; namespace = encode_utf8_all value })

-- the bindings with those that an attribute adds
unfoldable pub with_binding : List Binding → RawAttribute → Option (List Binding)
with_binding bindings attribute =
    choose (declares attribute.name)
    (λ prefix. declared_binding prefix attribute.raw >>= λ binding. Some (bindings ++ binding ∷ []))
    (Some bindings)

-- the bindings inside an element with these attributes
abbrev pub with_bindings : List Binding → List RawAttribute → Option (List Binding)
with_bindings bindings [] = Some bindings
with_bindings bindings (attribute ∷ attributes) = with_binding bindings attribute >>= λ more. with_bindings more attributes

-- the name with the namespace of its prefix
unfoldable pub prefixed_name : List Binding → QName → Option Name
prefixed_name bindings name =
    bound_namespace name.prefix bindings >>= λ namespace. Some (record { namespace = namespace; local = encode_utf8_all name.local })

-- section 6.2: the default namespace is that of elements without a prefix; section 3: no element has the prefix `xmlns`
unfoldable pub element_name : List Binding → QName → Option Name
element_name bindings name =
    if is_nil name.prefix
    then Some (record { namespace = unwrap_or (bound_namespace [] bindings) []; local = encode_utf8_all name.local })
    else (if bytes_eq name.prefix (codes "xmlns") then None else prefixed_name bindings name)

-- an attribute without a prefix has no namespace
unfoldable pub attribute_name : List Binding → QName → Option Name
attribute_name bindings name =
    if is_nil name.prefix then Some (record { namespace = []; local = encode_utf8_all name.local })
    else prefixed_name bindings name

abbrev pub is_declaration : RawAttribute → Bool
is_declaration attribute = choose (declares attribute.name) (λ prefix. true) false

unfoldable pub bound_attribute : List Binding → RawAttribute → Option Attribute
bound_attribute bindings attribute =
    attribute_name bindings attribute.name >>= λ name.
    value_of attribute.raw >>= λ value.
    Some (record { name = name; value = encode_utf8_all value })

-- the attributes that declare nothing
abbrev pub attributes_of : List Binding → List RawAttribute → Option (List Attribute)
attributes_of bindings [] = Some []
attributes_of bindings (attribute ∷ attributes) =
    if is_declaration attribute then attributes_of bindings attributes
    else (bound_attribute bindings attribute >>= λ first. attributes_of bindings attributes >>= λ others. Some (first ∷ others))

abbrev pub attribute_names : List Binding → List RawAttribute → Option (List Name)
attribute_names bindings attributes = every (λ attribute. attribute_name bindings attribute.name) attributes

abbrev pub same_name : Name → Name → Bool
same_name a b = bytes_eq a.namespace b.namespace && bytes_eq a.local b.local

-- no two are the same, and none is one of those before
abbrev pub distinct_behind : List Name → List Name → Bool
distinct_behind seen [] = true
distinct_behind seen (name ∷ names) =
    not (list_any (same_name name) seen) && distinct_behind (seen ++ name ∷ []) names

-- section 6.3: no two are the same
unfoldable pub are_distinct : List Name → Bool
are_distinct names = distinct_behind [] names

-- an element's start: the bindings inside it, its name and its attributes
pub record Started : Type 0 where
  pub bindings : List Binding
  pub name : Name
  pub attributes : List Attribute

unfoldable pub started_of : List Binding → QName → List RawAttribute → Option Started
started_of bindings name attributes =
    with_bindings bindings attributes >>= λ inside.
    element_name inside name >>= λ expanded.
    attribute_names inside attributes >>= λ names.
    when (are_distinct names) names >>= λ distinct.
    attributes_of inside attributes >>= λ all.
    Some (record { bindings = inside; name = expanded; attributes = all })
