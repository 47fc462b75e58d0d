-- The bytes that are written for an element's start are read as its characters.
use Rattle.std.proofs.Common.{◌≡◌, refl, sym, ap, ◌∙◌, ℕ, suc, ◌+◌, ◌<◌, ◌^◌, arith, Bool, true, false, ◌&&◌, not, cond, List, [], ◌∷◌, ◌++◌, map, length, Some}
use Rattle.std.specs.Prelude.{codes, flat_map, bytes_eq, decimal, nat_lt, encode_utf8_all}
use Rattle.std.specs.Char.{encode_utf8}
use Rattle.std.specs.List.{list_all}
use Rattle.std.proofs.lemmas.Bool.{and_parts, ltb-true}
use Rattle.std.proofs.lemmas.Bool.Decides.{nat_tests}
use Rattle.std.proofs.lemmas.Slice.Eq.{bytes_eq-Decides}
use Rattle.std.proofs.lemmas.Fmt.{IsAscii-decimal}
use Rattle.std.proofs.lemmas.List.Folds.{list_all-append}
use Rattle.std.proofs.lemmas.Str.{encodes-append, encodes-IsAscii}
use Rattle.dav_xml_core.specs.Characters.{is_char, characters}
use Rattle.dav_xml_core.specs.Documents.{Name, Attribute}
use Rattle.dav_xml_core.specs.Names.{is_name_char, is_name_start, is_ncname}
use Rattle.dav_xml_core.specs.Namespaces.{xml_namespace, xmlns_namespace, are_distinct}
use Rattle.dav_xml_core.specs.Readable.{is_name, is_attribute, is_start, name_bytes, attribute_bytes, names_bytes}
use Rattle.dav_xml_core.specs.Scanning.{is_nil}
use Rattle.dav_xml_core.specs.Writing.{escaped_character, dav_namespace, is_other, tag_name, declaration_bytes, attribute_text, attributes_text, start_text, in_document, alone}
use Rattle.dav_xml_core.proofs.BytesLemmas.{is_kept, characters_again, escaped_bytes, escaped_kept}
use Rattle.dav_xml_core.proofs.BindingLemmas.{numbered, bytes_not, dav_bytes, xml_bytes, nil_bytes}
use Rattle.dav_xml_core.proofs.StartTextLemmas.{numbered_name}

kept_char : (c : ℕ) → is_name_char c ≡ true → is_kept c ≡ true
kept_char c h = grind (arith, nat_tests)

-- the bytes are those of the characters, which are read as they are
pub record Spells (bytes text : List ℕ) : Type 0 where
  pub is : bytes ≡ encode_utf8_all text
  pub kept : list_all is_kept text ≡ true

pub both : (a b x y : List ℕ) → Spells a x → Spells b y → Spells (a ++ b) (x ++ y)
both a b x y f g = record {
  is = ap (λ (t : List ℕ). t ++ b) f.is ∙ ap (λ (t : List ℕ). encode_utf8_all x ++ t) g.is ∙ sym (encodes-append x y);
  kept = list_all-append is_kept x y ∙ rw (f.kept, g.kept) refl;
}

less : Spells (codes "<") (codes "<")
unfolding encode_utf8
less = record { is = refl; kept = refl }

pub greater : Spells (codes ">") (codes ">")
unfolding encode_utf8
greater = record { is = refl; kept = refl }

blank : Spells (codes " ") (codes " ")
unfolding encode_utf8
blank = record { is = refl; kept = refl }

quote : Spells (codes "\"") (codes "\"")
unfolding encode_utf8
quote = record { is = refl; kept = refl }

equals : Spells (codes "=\"") (codes "=\"")
unfolding encode_utf8
equals = record { is = refl; kept = refl }

colon : Spells (codes ":") (codes ":")
unfolding encode_utf8
colon = record { is = refl; kept = refl }

dav : Spells (codes "D:") (codes "D:")
unfolding encode_utf8
dav = record { is = refl; kept = refl }

xml : Spells (codes "xml:") (codes "xml:")
unfolding encode_utf8
xml = record { is = refl; kept = refl }

xmlns : Spells (codes " xmlns:") (codes " xmlns:")
unfolding encode_utf8
xmlns = record { is = refl; kept = refl }

pub own : Spells (codes "n") (codes "n")
unfolding encode_utf8
own = record { is = refl; kept = refl }

pub none : Spells [] []
none = record { is = refl; kept = refl }

pub whole : Spells in_document in_document
unfolding encode_utf8
whole = record { is = refl; kept = refl }

pub lone : Spells alone alone
unfolding encode_utf8
lone = record { is = refl; kept = refl }

all_kept : (text : List ℕ) → list_all is_name_char text ≡ true → list_all is_kept text ≡ true
all_kept [] h = refl
all_kept (c ∷ text) h = let p = and_parts (is_name_char c) (list_all is_name_char text) h in rw (kept_char c p.0, all_kept text p.1) refl

local_kept : (l : List ℕ) → is_ncname l ≡ true → list_all is_kept l ≡ true
local_kept [] h = refl
local_kept (c ∷ l) h = all_kept (c ∷ l) (and_parts (is_name_start c) (list_all is_name_char (c ∷ l)) h).1

number : (k : ℕ) → k < 2 ^ 64 → Spells (decimal k) (decimal k)
number k h = record {
  is = sym (encodes-IsAscii (decimal k) (IsAscii-decimal k h));
  kept = (and_parts (is_kept 110) (list_all is_kept (decimal k)) (local_kept (numbered k) (numbered_name k h))).1;
}

value : (text : List ℕ) → list_all is_char text ≡ true → Spells (flat_map (escaped_character true) (encode_utf8_all text)) (flat_map (escaped_character true) text)
value text h = record { is = escaped_bytes true text; kept = escaped_kept true text h }

pub same_test : (text other : List ℕ) → encode_utf8_all other ≡ other → bytes_eq (encode_utf8_all text) other ≡ bytes_eq text other
same_test text other e = go (bytes_eq text other) refl
  where
    go : (b : Bool) → bytes_eq text other ≡ b → bytes_eq (encode_utf8_all text) other ≡ b
    go true is = (bytes_eq-Decides (encode_utf8_all text) other).1 (ap encode_utf8_all ((bytes_eq-Decides text other).0 is) ∙ e)
    go false is = bytes_not text other e is

pub same_nil : (text : List ℕ) → is_nil (encode_utf8_all text) ≡ is_nil text
same_nil [] = refl
same_nil (c ∷ text) = nil_bytes (c ∷ text) refl

name_parts : (name : Name) → is_name name ≡ true → (is_ncname name.local ≡ true) × (list_all is_char name.namespace ≡ true)
name_parts name h = and_parts (is_ncname name.local) (list_all is_char name.namespace) (and_parts (is_ncname name.local && list_all is_char name.namespace) (not (bytes_eq name.namespace xmlns_namespace)) h).0

pub tag_bytes : (prefix : List ℕ) (name : Name) → Spells prefix prefix → is_name name ≡ true → Spells (tag_name prefix (name_bytes name)) (tag_name prefix name)
unfolding tag_name
tag_bytes prefix name s h =
    let l : Spells (encode_utf8_all name.local) name.local = record { is = refl; kept = local_kept name.local (name_parts name h).0 } in
    rw (same_nil name.namespace, same_test name.namespace dav_namespace dav_bytes, same_test name.namespace xml_namespace xml_bytes)
    (go l (is_nil name.namespace) (bytes_eq name.namespace dav_namespace) (bytes_eq name.namespace xml_namespace))
  where
    go : Spells (encode_utf8_all name.local) name.local → (a b d : Bool)
        → Spells (cond a (encode_utf8_all name.local) (cond b (codes "D:" ++ encode_utf8_all name.local) (cond d (codes "xml:" ++ encode_utf8_all name.local) (prefix ++ codes ":" ++ encode_utf8_all name.local))))
        (cond a name.local (cond b (codes "D:" ++ name.local) (cond d (codes "xml:" ++ name.local) (prefix ++ codes ":" ++ name.local))))
    go l true b d = l
    go l false true d = both _ _ _ _ dav l
    go l false false true = both _ _ _ _ xml l
    go l false false false = both _ _ _ _ (both _ _ _ _ s colon) l

declared_bytes : (prefix : List ℕ) (name : Name) → Spells prefix prefix → is_name name ≡ true → Spells (declaration_bytes prefix (name_bytes name)) (declaration_bytes prefix name)
unfolding declaration_bytes
declared_bytes prefix name s h =
    rw (same_nil name.namespace, same_test name.namespace dav_namespace dav_bytes, same_test name.namespace xml_namespace xml_bytes)
    (go (value name.namespace (name_parts name h).1) (is_other name.namespace))
  where
    go : Spells (flat_map (escaped_character true) (encode_utf8_all name.namespace)) (flat_map (escaped_character true) name.namespace) → (b : Bool)
        → Spells (cond b (codes " xmlns:" ++ prefix ++ codes "=\"" ++ flat_map (escaped_character true) (encode_utf8_all name.namespace) ++ codes "\"") [])
        (cond b (codes " xmlns:" ++ prefix ++ codes "=\"" ++ flat_map (escaped_character true) name.namespace ++ codes "\"") [])
    go v true = both _ _ _ _ (both _ _ _ _ (both _ _ _ _ (both _ _ _ _ xmlns s) equals) v) quote
    go v false = none

attribute_spells : (prefix : List ℕ) (attribute : Attribute) → Spells prefix prefix → is_attribute attribute ≡ true → Spells (attribute_text prefix (attribute_bytes attribute)) (attribute_text prefix attribute)
unfolding attribute_text
attribute_spells prefix attribute s h =
    let p = and_parts (is_name attribute.name && list_all is_char attribute.value) (not (is_nil attribute.name.namespace && bytes_eq attribute.name.local (codes "xmlns"))) h in
    let q = and_parts (is_name attribute.name) (list_all is_char attribute.value) p.0 in
    both _ _ _ _ (both _ _ _ _ (both _ _ _ _ (both _ _ _ _ (both _ _ _ _ blank (tag_bytes prefix attribute.name s q.0)) equals) (value attribute.value q.1)) quote) (declared_bytes prefix attribute.name s q.0)

attributes_spell : (k : ℕ) (attributes : List Attribute) → list_all is_attribute attributes ≡ true → k + length attributes < 2 ^ 64
    → Spells (attributes_text k (map attribute_bytes attributes)) (attributes_text k attributes)
attributes_spell k [] h lt = none
attributes_spell k (attribute ∷ attributes) h lt =
    let p = and_parts (is_attribute attribute) (list_all is_attribute attributes) h in
    both _ _ _ _ (attribute_spells (numbered k) attribute (both _ _ _ _ own (number k (omega arith))) p.0) (attributes_spell (suc k) attributes p.1 (omega arith))

pub start_spells : (first : List ℕ) (name : Name) (attributes : List Attribute) → Spells first first → is_start name attributes ≡ true
    → Spells (start_text first (name_bytes name) (map attribute_bytes attributes)) (start_text first name attributes)
unfolding start_text
start_spells first name attributes s h =
    let p = and_parts (is_name name && list_all is_attribute attributes && are_distinct (names_bytes attributes)) (nat_lt (length attributes) (2 ^ 64)) h in
    let q = and_parts (is_name name && list_all is_attribute attributes) (are_distinct (names_bytes attributes)) p.0 in
    let r = and_parts (is_name name) (list_all is_attribute attributes) q.0 in
    let lt : length attributes < 2 ^ 64 = ltb-true _ _ p.1 in
    both _ _ _ _ (both _ _ _ _ (both _ _ _ _ (both _ _ _ _ (both _ _ _ _ less (tag_bytes (codes "n") name own r.0)) s) (declared_bytes (codes "n") name own r.0)) (attributes_spell 0 attributes r.1 (omega arith))) greater

pub read_as : (bytes text : List ℕ) → Spells bytes text → characters bytes ≡ Some text
read_as bytes text s = ap characters s.is ∙ characters_again text s.kept

pub first_characters : (name : Name) (attributes : List Attribute) → is_start name attributes ≡ true
    → characters (start_text in_document (name_bytes name) (map attribute_bytes attributes)) ≡ Some (start_text in_document name attributes)
first_characters name attributes h = read_as _ _ (start_spells in_document name attributes whole h)

pub alone_characters : (name : Name) (attributes : List Attribute) → is_start name attributes ≡ true
    → characters (start_text alone (name_bytes name) (map attribute_bytes attributes)) ≡ Some (start_text alone name attributes)
alone_characters name attributes h = read_as _ _ (start_spells alone name attributes lone h)

pub inside_characters : (name : Name) (attributes : List Attribute) → is_start name attributes ≡ true
    → characters (start_text [] (name_bytes name) (map attribute_bytes attributes)) ≡ Some (start_text [] name attributes)
inside_characters name attributes h = read_as _ _ (start_spells [] name attributes none h)
