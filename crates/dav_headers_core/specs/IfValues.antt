-- What contracts see of a decoded `If` value, and which value the header's lines decode to (RFC 4918 section 10.4).
use Rattle.std.specs.Prelude.{◌≡◌, ℕ, List, [], ◌∷◌, map, Option, None, Some, string_bytes}
use Rattle.http_header.specs.FieldValue.{FieldValue}
use Rattle.url.specs.Parts.{Parts}
use Rattle.dav_headers_core.specs.Urls.{url_of}
use Rattle.dav_headers_core.specs.IfBytes.{Item, Token, Tag, Condition, Tagged, Group}
use Rattle.dav_headers_core.specs.IfGrammar.{IfText}
use Rattle.dav_headers_core.specs.declared.davheaders.if_headers.items.IfItem.{IfItem}
use Rattle.dav_headers_core.specs.declared.davheaders.if_headers.items.IfItem.TheVariants as item
use Rattle.dav_headers_core.specs.declared.davheaders.if_headers.conditions.IfCondition.{IfCondition}
use Rattle.dav_headers_core.specs.declared.davheaders.if_headers.lists.IfList.{IfList}

abbrev pub item_of : IfItem → Item
item_of (item.StateToken text) = Token (string_bytes text)
item_of (item.ETag tag) = Tag tag

abbrev pub condition_of : IfCondition → Condition
condition_of condition = record { negated = condition.not; item = item_of condition.item }

abbrev pub conditions_of : List IfCondition → List Condition
conditions_of conditions = map condition_of conditions

-- a list of conditions with the URL of its resource tag
abbrev pub Located : Type 0
Located = Tagged Parts

abbrev pub located_list : IfList → Located
located_list list = record { tag = list.resource_tag; conditions = conditions_of list.conditions.items }

-- the URL of a resource tag is the one that its text spells
abbrev pub TagIs : Option (List ℕ) → Option Parts → Type 0
TagIs None None = Unit {0}
TagIs (Some text) (Some url) = url_of text ≡ Some url
TagIs None (Some url) = ⊥
TagIs (Some text) None = ⊥

-- each group with the URL of its tag, in order
abbrev pub Resolves : List Group → List Located → Type 0
Resolves [] [] = Unit {0}
Resolves (group ∷ groups) (list ∷ lists) =
    TagIs group.tag list.tag × (group.conditions ≡ list.conditions) × Resolves groups lists
Resolves [] (list ∷ lists) = ⊥
Resolves (group ∷ groups) [] = ⊥

-- there is one value, whose bytes read as these lists
pub record ReadsAs (values : List FieldValue) (lists : List Located) : Type 0 where
  pub value : FieldValue
  pub only : values ≡ value ∷ []
  pub groups : List Group
  pub text : IfText value.bytes groups
  pub resolves : Resolves groups lists
