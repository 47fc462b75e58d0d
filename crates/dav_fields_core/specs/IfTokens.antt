-- The state tokens of an `If` (RFC 4918 section 10.4).
use Rattle.std.specs.Prelude.{ℕ, Bool, bytes_eq, if◌then◌else◌, List, [], ◌∷◌, ◌++◌, fold}
use Rattle.std.specs.List.{flat_map, list_any}
use Rattle.dav_headers_core.specs.IfBytes.{Token, Tag, Condition}
use Rattle.dav_headers_core.specs.IfValues.{Located}

-- the state token of a condition, where it has one
abbrev pub token_of : Condition → List (List ℕ)
token_of condition = elim condition.item [ Token text ↦ text ∷ [] | Tag text ↦ [] ]

-- those of some conditions, in order, those behind `Not` too
abbrev pub tokens_in : List Condition → List (List ℕ)
tokens_in conditions = flat_map token_of conditions

-- one of the texts is this one
abbrev pub is_among : List (List ℕ) → List ℕ → Bool
is_among texts text = list_any (λ t. bytes_eq t text) texts

-- the texts, and this one behind them where it is not among them
abbrev pub with_once : List (List ℕ) → List ℕ → List (List ℕ)
with_once texts text = if is_among texts text then texts else texts ++ text ∷ []

-- the tokens of some lists, in order, each once
abbrev pub tokens_of : List Located → List (List ℕ)
tokens_of lists = fold with_once [] (flat_map (λ l. tokens_in l.conditions) lists)
