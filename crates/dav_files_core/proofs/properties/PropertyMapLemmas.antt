-- The properties of a node, as a finite map.
use Rattle.std.proofs.Common.{◌≡◌, ℕ, true, false, cond, List, [], ◌∷◌, Option, Some, None, map, refl, sym, ap, ◌∙◌, Bor}
use Rattle.std.specs.Option.{option_copied, option_map}
use Rattle.std.specs.Ordering.{is_eq, ordering_then}
use Rattle.std.specs.declared.cmp.Ordering.{Ordering}
use Rattle.std.specs.declared.cmp.Ordering.TheVariants.{Less, Equal, Greater}
use Rattle.std.specs.Cmp.{IsTotalOrder, on_total, then_total}
use Rattle.std.specs.FinMap.{IsAntisymmetric, get, values}
use Rattle.std.specs.List.Sorted.{IsStrictlySortedBy}
use Rattle.std.specs.Map.{lookup, keys_of}
use Rattle.dav_path_core.specs.Fronts.{segment_cmp}
use Rattle.dav_path_core.proofs.lists.Orders.{segment_total, segment_exact}
use Rattle.dav_files_core.specs.declared.fs.properties.DavProp.{DavProp}
use Rattle.dav_files_core.specs.Private.PropertyMaps.{keyed_property, properties_of}
use Rattle.dav_files_core.specs.Properties.{property_of}
use Rattle.dav_files_core.specs.Resources.{Property, Properties, key_cmp}
use Rattle.dav_files_core.proofs.properties.FinMapLemmas.{get-as_map, entries-as_map}

-- ---- the order of keys
pub key_total : IsTotalOrder key_cmp
key_total = then_total (on_total (λ (k : List ℕ × List ℕ). k.0) segment_total) (on_total (λ (k : List ℕ × List ℕ). k.1) segment_total)

pub key_exact : IsAntisymmetric key_cmp
key_exact a b h = by (segment_cmp a.0 b.0) refl h
  where
    by : (r : Ordering) → segment_cmp a.0 b.0 ≡ r → ordering_then r (segment_cmp a.1 b.1) ≡ Equal → a ≡ b
    by Less e h = absurd (cc)
    by Equal e h = let first = segment_exact a.0 b.0 e in let second = segment_exact a.1 b.1 h in λ i. (first i, second i)
    by Greater e h = absurd (cc)

-- ---- properties
abbrev pub Kept : Type 0
Kept = (List ℕ × List ℕ) × DavProp

pub same_key : (k l : List ℕ × List ℕ) → (l.0 ≡ k.0) × (l.1 ≡ k.1) → l ≡ k
same_key k l h i = (h.0 i, h.1 i)

shown_values : (f : Property → Property) (es : List Kept) → map (λ (p : DavProp). f (property_of p)) (map (λ (e : Kept). e.1) es) ≡ map f (map (λ e. e.1) (map keyed_property es))
shown_values f [] = refl
shown_values f (e ∷ es) = ap (λ l. f (property_of e.1) ∷ l) (shown_values f es)

through : (f : Property → Property) (ps : List (Bor DavProp)) → map (λ (p : Bor DavProp). f (property_of p.now)) ps ≡ map (λ (p : DavProp). f (property_of p)) (map (λ (p : Bor DavProp). p.now) ps)
through f [] = refl
through f (p ∷ ps) = ap (λ l. f (property_of p.now) ∷ l) (through f ps)

-- all that are kept, in the order of their keys
pub listed : (f : Property → Property) (es : List Kept) (props : Properties) → properties_of es ≡ props → IsStrictlySortedBy key_cmp (keys_of es)
    → (ps : List (Bor DavProp)) → map (λ (p : Bor DavProp). p.now) ps ≡ map (λ (e : Kept). e.1) es → map (λ (p : Bor DavProp). f (property_of p.now)) ps ≡ map f (values props)
listed f es props is up ps all =
    through f ps ∙ ap (map (λ (p : DavProp). f (property_of p))) all ∙ shown_values f es
    ∙ ap (λ (l : List ((List ℕ × List ℕ) × Property)). map f (map (λ (e : (List ℕ × List ℕ) × Property). e.1) l)) (sym (entries-as_map key_total key_exact property_of es up))
    ∙ ap (λ props. map f (values props)) is

-- the same without references
pub kept_values : (es : List Kept) (props : Properties) → properties_of es ≡ props → IsStrictlySortedBy key_cmp (keys_of es) → map property_of (map (λ (e : Kept). e.1) es) ≡ values props
kept_values es props is up =
    shown_values (λ p. p) es ∙ unmapped (map (λ (e : (List ℕ × List ℕ) × Property). e.1) (map keyed_property es))
    ∙ ap (map (λ (e : (List ℕ × List ℕ) × Property). e.1)) (sym (entries-as_map key_total key_exact property_of es up)) ∙ ap values is
  where
    unmapped : (ps : List Property) → map (λ p. p) ps ≡ ps
    unmapped [] = refl
    unmapped (p ∷ ps) = ap (λ l. p ∷ l) (unmapped ps)

-- one that was looked up
pub found_kept : (es : List Kept) (key : List ℕ × List ℕ) (r : Option (Bor DavProp)) → option_copied r ≡ lookup (λ k. is_eq (key_cmp key k)) es → option_map (λ (p : Bor DavProp). property_of p.now) r ≡ get (properties_of es) key
found_kept es key r h = by r ∙ ap (option_map property_of) h ∙ sym (get-as_map key_total key_exact property_of es key)
  where
    by : (r : Option (Bor DavProp)) → option_map (λ (p : Bor DavProp). property_of p.now) r ≡ option_map property_of (option_copied r)
    by None = refl
    by (Some p) = refl

pub kept_nowhere : (es : List Kept) (key : List ℕ × List ℕ) → lookup (λ k. is_eq (key_cmp key k)) es ≡ None → get (properties_of es) key ≡ None
kept_nowhere es key h = get-as_map key_total key_exact property_of es key ∙ ap (option_map property_of) h

-- ---- a walk from entry to entry, up to one with a key
module _ (key : List ℕ × List ℕ) where
  abbrev behind : List Kept → Option DavProp
  behind = lookup (λ k. is_eq (key_cmp key k))

  pub walk_on : (es more : List Kept) (k : List ℕ × List ℕ) (p : DavProp) → es ≡ (k, p) ∷ more → is_eq (key_cmp key k) ≡ false → behind es ≡ behind more
  walk_on es more k p is other = ap behind is ∙ ap (λ b. cond b (Some p) (behind more)) other

  pub walk_ends : (all es : List Kept) → behind all ≡ behind es → es ≡ [] → None ≡ get (properties_of all) key
  walk_ends all es same is = sym (kept_nowhere all key (same ∙ ap behind is))

  pub walk_finds : (all es more : List Kept) (k : List ℕ × List ℕ) (p : DavProp) → behind all ≡ behind es → es ≡ (k, p) ∷ more → is_eq (key_cmp key k) ≡ true
      → Some (property_of p) ≡ get (properties_of all) key
  walk_finds all es more k p same is here =
      sym (get-as_map key_total key_exact property_of all key ∙ ap (option_map property_of) (same ∙ ap behind is ∙ ap (λ b. cond b (Some p) (behind more)) here))
