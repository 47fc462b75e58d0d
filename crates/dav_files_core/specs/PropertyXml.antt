-- The xml of a property: `<P:N xmlns:P="S">V</P:N>` (RFC 4918 section 4).
use Rattle.std.specs.Prelude.{ℕ, List, ◌++◌, codes}

-- a name with its prefix
abbrev pub tag : List ℕ → List ℕ → List ℕ
tag p n = p ++ codes ":" ++ n

abbrev pub start_tag : List ℕ → List ℕ → List ℕ
start_tag t xmlns = codes "<" ++ t ++ xmlns ++ codes ">"

abbrev pub end_tag : List ℕ → List ℕ
end_tag t = codes "</" ++ t ++ codes ">"

-- what says which namespace a prefix stands for
abbrev pub declaration : List ℕ → List ℕ → List ℕ
declaration p s = codes " xmlns:" ++ p ++ codes "=\"" ++ s ++ codes "\""

-- of a name, a prefix, a namespace and a value
abbrev pub property_xml : List ℕ → List ℕ → List ℕ → List ℕ → List ℕ
property_xml n p s v = start_tag (tag p n) (declaration p s) ++ v ++ end_tag (tag p n)
