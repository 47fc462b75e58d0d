-- The bindings that hold at a place, a tree of the last places of their prefixes, and numbers of their namespaces (own).
use Rattle.std.specs.Prelude.{◌≡◌, ℕ, suc, ◌+◌, ◌==◌, Bool, true, ◌&&◌, not, bytes_eq, cond, if◌then◌else◌, List, [], ◌∷◌, ◌++◌, Option, None, Some}
use Rattle.std.specs.BTreeMap.{BTreeMap, get_by}
use Rattle.std.specs.Borrow.{Bor}
use Rattle.std.specs.Cmp.Lexicographic.{slice_cmp}
use Rattle.std.specs.Global.{Global}
use Rattle.std.specs.List.{list_any}
use Rattle.std.specs.Ordering.{nat_cmp}
use Rattle.std.specs.Rc.{rc_str_bytes}
use Rattle.std.specs.declared.rc.RcStr.{RcStr}
use Rattle.dav_xml_core.specs.Documents.{Name}
use Rattle.dav_xml_core.specs.Namespaces.{Binding}

abbrev pub binding : List ℕ → List ℕ → Binding
binding prefix namespace = record { prefix = prefix; namespace = namespace }

-- the place of the last binding of a prefix, where the first has this place and this was the last before
abbrev pub last_from : List ℕ → ℕ → Option ℕ → List Binding → Option ℕ
last_from prefix at found [] = found
last_from prefix at found (binding ∷ bindings) =
    last_from prefix (at + 1) (if bytes_eq binding.prefix prefix then Some at else found) bindings

-- the place of the last binding of a prefix
unfoldable pub last_place : List ℕ → List Binding → Option ℕ
last_place prefix bindings = last_from prefix 0 None bindings

-- places by prefixes
abbrev pub Places : Type 0
Places = BTreeMap (Bor (List ℕ)) ℕ

-- the place at a prefix
abbrev pub place_at : Places → List ℕ → Option ℕ
place_at places prefix = get_by (λ k. slice_cmp nat_cmp prefix k.now) places

-- new has this place, or none, at a prefix, and at each other what old has
abbrev pub PutsPlace : Places → Places → List ℕ → Option ℕ → Type 0
PutsPlace old new prefix place = (other : List ℕ) → place_at new other ≡ cond (bytes_eq prefix other) place (place_at old other)

-- how many bindings stand before the first one of a namespace; all of them, where none has it
abbrev pub namespace_number : List ℕ → List Binding → ℕ
namespace_number namespace [] = 0
namespace_number namespace (binding ∷ bindings) = if bytes_eq binding.namespace namespace then 0 else suc (namespace_number namespace bindings)

-- numbers by namespaces
abbrev pub Numbers : Type 0
Numbers = BTreeMap (RcStr Global) ℕ

-- the number at a namespace
abbrev pub number_at : Numbers → List ℕ → Option ℕ
number_at numbers namespace = get_by (λ k. slice_cmp nat_cmp namespace (rc_str_bytes k)) numbers

-- a name, with the number of its namespace in place of it
abbrev pub numbered_name : List Binding → Name → ℕ × List ℕ
numbered_name bindings name = (namespace_number name.namespace bindings, name.local)

abbrev pub same_key : ℕ × List ℕ → ℕ × List ℕ → Bool
same_key a b = a.0 == b.0 && bytes_eq a.1 b.1

-- no two are the same, and none is one of those before
abbrev pub distinct_keys : List (ℕ × List ℕ) → List (ℕ × List ℕ) → Bool
distinct_keys seen [] = true
distinct_keys seen (key ∷ keys) = not (list_any (same_key key) seen) && distinct_keys (seen ++ key ∷ []) keys
