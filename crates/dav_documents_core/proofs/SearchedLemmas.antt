-- The property with a name, where a binary search has looked for it.
use Rattle.std.proofs.Common.{◌≡◌, ℕ, zero, suc, ◌<◌, List, [], ◌∷◌, None, Err, Bool, true, false, length, get_or, map, refl, sym, subst, ap, ◌∙◌, arith, rules, bytes_eq}
use Rattle.std.specs.Prelude.{unwrap_or, ◌&&◌, if◌then◌else◌}
use Rattle.std.specs.declared.cmp.Ordering.TheVariants.{Less, Equal}
use Rattle.std.specs.Cmp.{tied_itself}
use Rattle.std.specs.List.Sorted.{IsBinarySearchResult}
use Rattle.std.proofs.lemmas.Bool.{false_from_ne_true}
use Rattle.std.proofs.lemmas.Slice.Eq.{bytes_eq-Decides}
use Rattle.dav_xml_core.specs.Documents.{Name}
use Rattle.dav_files_core.specs.declared.fs.properties.DavProp.{DavProp}
use Rattle.dav_files_core.specs.Properties.{key_of, property_of}
use Rattle.dav_files_core.specs.Resources.{Property, key_cmp}
use Rattle.dav_files_core.proofs.properties.PropertyMapLemmas.{key_exact, key_total}
use Rattle.dav_documents_core.specs.PropertyDocuments.{dead_value, is_named}
use Rattle.dav_documents_core.specs.Private.Rising.{Rise, order, property_key}
use Rattle.dav_documents_core.proofs.SearchLemmas.{lower_before, none_equal}

-- the key that a name asks for
abbrev asked : Name → List ℕ × List ℕ
asked name = (name.namespace, name.local)

both_hold : (a b : Bool) → (a && b) ≡ true → (a ≡ true) × (b ≡ true)
both_hold true b both = (refl, both)
both_hold false b both = absurd (cc)

-- a property has a name exactly where its key is the one asked for
named_is : (p : Property) (name : Name) → is_named name p ≡ true → key_of p ≡ asked name
named_is p name is =
    let both = both_hold (bytes_eq (unwrap_or p.namespace []) name.namespace) (bytes_eq p.name name.local) is in
    let first : unwrap_or p.namespace [] ≡ name.namespace = let h = both.0 in search (rules, bytes_eq-Decides) in
    let second : p.name ≡ name.local = let h = both.1 in search (rules, bytes_eq-Decides) in
    λ i. (first i, second i)

named_equal : (p : Property) (name : Name) → is_named name p ≡ true → key_cmp (key_of p) (asked name) ≡ Equal
named_equal p name is = subst (λ key. key_cmp (key_of p) key ≡ Equal) (named_is p name is) (tied_itself key_total (key_of p))

equal_named : (p : Property) (name : Name) → key_cmp (key_of p) (asked name) ≡ Equal → is_named name p ≡ true
equal_named p name equal = subst (λ (key : List ℕ × List ℕ). (bytes_eq (unwrap_or p.namespace []) key.0 && bytes_eq p.name key.1) ≡ true) (key_exact (key_of p) (asked name) equal) (itself (key_of p))
  where
    itself : (key : List ℕ × List ℕ) → (bytes_eq key.0 key.0 && bytes_eq key.1 key.1) ≡ true
    itself key =
        let first : bytes_eq key.0 key.0 ≡ true = search (rules, bytes_eq-Decides) in
        let second : bytes_eq key.1 key.1 ≡ true = search (rules, bytes_eq-Decides) in
        ap (λ b. b && bytes_eq key.1 key.1) first ∙ second

-- ---- among several

-- the first with the name decides
value_at : (props : List DavProp) (name : Name) (i : ℕ) (d : DavProp) → i < length props → ((k : ℕ) → k < i → is_named name (property_of (get_or props k d)) ≡ false)
    → is_named name (property_of (get_or props i d)) ≡ true → dead_value (map property_of props) name ≡ (property_of (get_or props i d)).xml
value_at [] name i d inside before here = absurd (omega arith)
value_at (p ∷ props) name zero d inside before here = ap (λ b. if b then (property_of p).xml else dead_value (map property_of props) name) here
value_at (p ∷ props) name (suc i) d inside before here =
    ap (λ b. if b then (property_of p).xml else dead_value (map property_of props) name) (before 0 (omega arith))
    ∙ value_at props name i d (omega arith) (λ k lt. before (suc k) (omega arith)) here

no_value : (props : List DavProp) (name : Name) (d : DavProp) → ((k : ℕ) → k < length props → is_named name (property_of (get_or props k d)) ≡ false)
    → dead_value (map property_of props) name ≡ None
no_value [] name d none = refl
no_value (p ∷ props) name d none =
    ap (λ b. if b then (property_of p).xml else dead_value (map property_of props) name) (none 0 (omega arith))
    ∙ no_value props name d (λ k lt. none (suc k) (omega arith))

-- ---- what the search finds

pub found : (props : List DavProp) (name : Name) (i : ℕ) (d : DavProp) → Rise props → i < length props → order (get_or props i d) (asked name) ≡ Equal
    → dead_value (map property_of props) name ≡ (property_of (get_or props i d)).xml
found props name i d rise inside equal = value_at props name i d inside before (equal_named (property_of (get_or props i d)) name equal)
  where
    before : (k : ℕ) → k < i → is_named name (property_of (get_or props k d)) ≡ false
    before k lt = false_from_ne_true (is_named name (property_of (get_or props k d))) (λ is.
        let less = lower_before key_total property_key props rise (asked name) i k d inside equal lt in
        let same = named_equal (property_of (get_or props k d)) name is in
        let wrong : Less ≡ Equal = sym less ∙ same in cc)

pub missing : (props : List DavProp) (name : Name) (i : ℕ) → Rise props → IsBinarySearchResult (λ p. order p (asked name)) props (Err i)
    → dead_value (map property_of props) name ≡ None
missing [] name i rise answer = refl
missing (p ∷ props) name i rise answer = no_value (p ∷ props) name p (λ k lt. false_from_ne_true (is_named name (property_of (get_or (p ∷ props) k p))) (λ is.
    none_equal key_total property_key (p ∷ props) rise (asked name) i k p answer lt (named_equal (property_of (get_or (p ∷ props) k p)) name is)))
