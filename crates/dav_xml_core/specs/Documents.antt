-- Documents, without how they are written.
use Rattle.std.specs.Prelude.{ℕ, zero, suc, Bool, true, false, List, [], ◌∷◌}

-- a name, by the bytes of its namespace and of its local name; without a namespace that is empty (Namespaces 1.0 section 2.1)
pub record Name : Type 0 where
  pub namespace : List ℕ
  pub local : List ℕ

pub record Attribute : Type 0 where
  pub name : Name
  pub value : List ℕ

-- A document is the list of its nodes in order: an element is its start, what it holds, and its end.
pub data Node : Type 0 where
  Start : Name → List Attribute → Node
  Text : List ℕ → Node
  End : Node

-- where so many elements have begun: the nodes end each of them, and nothing follows
abbrev pub closes : ℕ → List Node → Bool
closes zero [] = true
closes zero (node ∷ nodes) = false
closes (suc n) [] = false
closes (suc n) (Start name attributes ∷ nodes) = closes (suc (suc n)) nodes
closes (suc n) (Text text ∷ nodes) = closes (suc n) nodes
closes (suc n) (End ∷ nodes) = closes n nodes

-- the nodes of one element, [39]
abbrev pub is_element : List Node → Bool
is_element [] = false
is_element (Start name attributes ∷ nodes) = closes 1 nodes
is_element (Text text ∷ nodes) = false
is_element (End ∷ nodes) = false
