-- What a scope keeps: its trees have the last place of each prefix and the number of each namespace, and each binding the place
-- that it covers and the number of its namespace (own).
use Rattle.std.specs.Prelude.{◌≡◌, ℕ, ◌<◌, List, [], ◌∷◌, ◌++◌, length, map, slice_get, Some}
use Rattle.std.specs.Global.{Global}
use Rattle.std.specs.Rc.{rc_str_bytes}
use Rattle.std.specs.declared.rc.RcStr.{RcStr}
use Rattle.dav_xml_core.specs.declared.davxml.scope.Binding as code
use Rattle.dav_xml_core.specs.Namespaces.{Binding}
use Rattle.dav_xml_core.specs.Scopes.{Places, last_place, place_at, Numbers, namespace_number, number_at}

abbrev pub binding_of : code.Binding → Binding
binding_of binding = record { prefix = binding.prefix.now; namespace = rc_str_bytes binding.namespace }

-- each covers the last of its prefix before it, behind these
abbrev pub CoverEach : List Binding → List code.Binding → Type 0
CoverEach before [] = Unit {0}
CoverEach before (binding ∷ bindings) =
    (binding.covered ≡ last_place binding.prefix.now before) × CoverEach (before ++ binding_of binding ∷ []) bindings

pub record IsFound (bindings : List code.Binding) (innermost : Places) : Type 0 where
  pub places : (prefix : List ℕ) → place_at innermost prefix ≡ last_place prefix (map binding_of bindings)
  pub covers : CoverEach [] bindings

-- A namespace that is bound has its number in the tree. Others may have any.
pub record IsNumbered (bindings : List code.Binding) (numbers : Numbers) : Type 0 where
  pub each : (place : ℕ) (b : code.Binding) → slice_get bindings place ≡ Some b → b.number ≡ namespace_number (rc_str_bytes b.namespace) (map binding_of bindings)
  pub tree : (namespace : List ℕ) → namespace_number namespace (map binding_of bindings) < length bindings
      → number_at numbers namespace ≡ Some (namespace_number namespace (map binding_of bindings))

pub record IsKept (bindings : List code.Binding) (innermost : Places) (numbers : Numbers) (empty : RcStr Global) : Type 0 where
  pub found : IsFound bindings innermost
  pub numbered : IsNumbered bindings numbers
  pub no_namespace : rc_str_bytes empty ≡ []
