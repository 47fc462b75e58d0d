-- Which `If` values are equal, where tags are compared by `strong_eq` (RFC 9110 section 8.8.3.2).
use Rattle.std.specs.Prelude.{Bool, false, ◌&&◌, bytes_eq}
use Rattle.std.specs.Option.{option_eq}
use Rattle.std.specs.Bool.{beq}
use Rattle.url.specs.Parts.{Parts, serialize}
use Rattle.dav_headers_core.specs.Tags.{strong_eq}
use Rattle.dav_headers_core.specs.Pairwise.{pairwise}
use Rattle.dav_headers_core.specs.IfBytes.{Item, Token, Tag, Condition}
use Rattle.dav_headers_core.specs.IfValues.{Located}

abbrev pub item_strong_eq : Item → Item → Bool
item_strong_eq (Token a) (Token b) = bytes_eq a b
item_strong_eq (Token a) (Tag b) = false
item_strong_eq (Tag a) (Token b) = false
item_strong_eq (Tag a) (Tag b) = strong_eq a b

abbrev pub condition_strong_eq : Condition → Condition → Bool
condition_strong_eq a b = beq a.negated b.negated && item_strong_eq a.item b.item

-- two URLs with equal texts, as `url` compares them
abbrev pub same_url : Parts → Parts → Bool
same_url a b = bytes_eq (serialize a) (serialize b)

abbrev pub list_strong_eq : Located → Located → Bool
list_strong_eq a b = option_eq same_url a.tag b.tag && pairwise condition_strong_eq a.conditions b.conditions
